use Rattle.std.proofs.Common.{◌≡◌, ◌<◌, length, get_or, arith}
use Rattle.std.proofs.lemmas.Bool.Decides.{nat_tests}
use Rattle.http_service.proofs.PartLemmas.{size_not_empty, size_not_long, size_not_led, size_result}
use Rattle.http_service.proofs.parts.read_size.Goals as goal
use Rattle.http_service.proofs.parts.read_size.Goals.{then-is_empty-via-then-is_empty, then-is_empty-via-else-is_empty+then-digits-gt-MAX_DIGITS, else-digits-gt1-via-then-digits-gt1+else-digits-eq48, else-digits-gt1-via-else-digits-gt1}

pub returns-then-is_empty : goal.returns-then-is_empty
returns-then-is_empty c = elim c.then-is_empty.branch [
  | then-is_empty-via-then-is_empty w ↦
      let none : length c.args.digits.now ≡ 0 = grind (arith, nat_tests, w.if-is_empty.ensures) in
      size_not_empty c.args.digits.now none
  | then-is_empty-via-else-is_empty+then-digits-gt-MAX_DIGITS w ↦ size_not_long c.args.digits.now w.if-digits-gt-MAX_DIGITS.true
]

pub returns-then-digits-eq48 : goal.returns-then-digits-eq48
returns-then-digits-eq48 c = size_not_led c.args.digits.now c.if-digits-gt1.true c.if-digits-eq48.true

pub returns : goal.returns
returns c =
    let some : 0 < length c.args.digits.now = grind (arith, nat_tests, c.if-is_empty.ensures) in
    let lead : get_or c.args.digits.now 0 0 ≡ 48 → length c.args.digits.now ≡ 1 = elim c.else-digits-gt1.branch [
      | else-digits-gt1-via-then-digits-gt1+else-digits-eq48 w ↦ λ e. absurd (w.if-digits-eq48.false e)
      | else-digits-gt1-via-else-digits-gt1 w ↦ λ e. omega (arith, some, w.if-digits-gt1.false)
    ] in
    size_result c.args.digits.now c.read_digits.result some c.if-digits-gt-MAX_DIGITS.false lead c.read_digits.ensures
