use Rattle.std.proofs.Common.{arith, subst, sym}
use Rattle.dict_text.proofs.NumberLemmas.{front_below, digits_more}
use Rattle.dict_text.specs.Number.{IsDigit}
use Rattle.dict_text.proofs.number_reading.sum_of_digits.Goals as goal

pub overflow_mul-number : goal.overflow_mul-number
overflow_mul-number c =
    let (values, digits, number) = c.loop-byte.invariant in
    omega (arith, front_below c.args.text.now values c.loop-byte.byte-index c.loop-byte.number (omega arith) c.requires digits number)

pub overflow_add-number : goal.overflow_add-number
overflow_add-number c =
    let (values, digits, number) = c.loop-byte.invariant in
    omega (arith, front_below c.args.text.now values c.loop-byte.byte-index c.loop-byte.number (omega arith) c.requires digits number)

pub loop-byte-preserved : goal.loop-byte-preserved
loop-byte-preserved c =
    let (values, digits, number) = c.loop-byte.invariant in
    digits_more c.args.text.now values c.loop-byte.byte-index c.from.result c.loop-byte.number (omega arith) digits number (subst (IsDigit _) (sym c.from.ensures) c.in_ok-value.ensures)
