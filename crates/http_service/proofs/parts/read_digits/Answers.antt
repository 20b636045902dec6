use Rattle.std.proofs.Common.{◌≡◌, ◌<◌, ◌+◌, ◌&&◌, Bool, true, [], ◌∷◌, take, get_or, sym, ap, ◌∙◌, arith, pow-add}
use Rattle.std.specs.List.{list_all}
use Rattle.std.specs.Char.{is_ascii_digit, digit_value}
use Rattle.std.proofs.lemmas.List.{take_more}
use Rattle.std.proofs.lemmas.List.Folds.{list_all-append}
use Rattle.std.proofs.lemmas.Int.Digits.{digits_value_more}
use Rattle.std.proofs.lemmas.Str.Parse.{digit_from_value}
use Rattle.std.proofs.lemmas.Str.{digit_value_digit}
use Rattle.http_service.proofs.parts.read_digits.Goals as goal

both : (a b : Bool) → a ≡ true → b ≡ true → (a && (b && true)) ≡ true
both a b p q = cc (p, q)

pub loop-digit-preserved : goal.loop-digit-preserved
loop-digit-preserved c =
    let d = get_or c.args.digits.now c.loop-digit.digit-index 0 in
    let test = c.if-not-is_ascii_digit.false in
    let small : digit_value d < 10 = c.if-not-is_ascii_digit.ensures.bound in
    let same : digit_value d + 48 ≡ d = digit_value_digit d (digit_from_value d small) in
    let grows = pow-add 10 c.loop-digit.digit-index 1 in
    let more = digits_value_more 10 c.args.digits.now c.loop-digit.digit-index c.loop-digit-test.true in
    record {
      value = omega (arith, more, same, c.loop-digit.invariant.value);
      digits = ap (list_all is_ascii_digit) (take_more c.args.digits.now c.loop-digit.digit-index 0 c.loop-digit-test.true)
          ∙ (list_all-append is_ascii_digit (take c.loop-digit.digit-index c.args.digits.now) (get_or c.args.digits.now c.loop-digit.digit-index 0 ∷ [])
          ∙ both _ _ c.loop-digit.invariant.digits (sym c.if-not-is_ascii_digit.ensures.value));
      below = omega (arith, grows, same, small, c.loop-digit.invariant.below);
    }
