use Rattle.std.proofs.Common.{refl, arith}
use Rattle.dict_text.proofs.NumberLemmas.{push_digit}
use Rattle.dict_text.proofs.number_writing.+write_digits.Goals as goal

pub returns-then-count-gt0-clause-digits : goal.returns-then-count-gt0-clause-digits
returns-then-count-gt0-clause-digits t c =
    let (values, digits, number) = c.write_digits.ensures.digits in
    push_digit _ values c.args.count _ c.args.number (omega arith) (omega arith) digits number (omega arith, refl)
