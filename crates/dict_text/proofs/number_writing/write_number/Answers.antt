use Rattle.std.proofs.Common.{arith}
use Rattle.dict_text.proofs.NumberLemmas.{spelled_from, one_text}
use Rattle.dict_text.proofs.number_writing.write_number.Goals as goal

pub returns-clause-spelled : goal.returns-clause-spelled
returns-clause-spelled c =
    let (values, digits, number) = c.write_digits.ensures.digits in
    let count = c.digit_count-count.ensures in
    spelled_from c.write_digits.new.text values c.digit_count-count.result c.args.number count.some count.few (omega arith) digits number count.least

pub returns-clause-only : goal.returns-clause-only
returns-clause-only c s h = one_text s _ c.args.number h (returns-clause-spelled c)
