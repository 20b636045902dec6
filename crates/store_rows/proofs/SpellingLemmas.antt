-- The spelling of a number spells it.
use Rattle.std.proofs.Common.{◌≡◌, ◌≢◌, ℕ, zero, suc, ◌+◌, ◌*◌, ◌^◌, ◌/◌, ◌%◌, ◌<◌, ◌≤◌, ◌⊎◌, inl, inr, List, [], ◌∷◌, ◌++◌, length, refl, ap, sym, ◌∙◌, subst, arith, Bool, true, false}
use Rattle.std.proofs.lemmas.Bool.{cases_lt}
use Rattle.std.proofs.lemmas.Bool.Decides.{nat_tests}
use Rattle.std.proofs.lemmas.List.{length_push}
use Rattle.std.proofs.lemmas.List.Elements.{AllZip-push}
use Rattle.std.proofs.Math.Nat.{pow-suc}
use Rattle.std.specs.Prelude.{slice_index, ◌==◌, if◌then◌else◌}
use Rattle.std.specs.List.{AllZip}
use Rattle.dict_text.specs.Number.{IsDigit, alphabet, number_of, Spells}
use Rattle.dict_text.proofs.DigitLemmas.{one_value}
use Rattle.dict_text.proofs.NumberLemmas.{number_of_push, one_text, spelled_small}
use Rattle.store_rows.specs.Spelling.{digits_of, spelling}

-- the text has the digits of the number, so many at most, and no needless one in front
record AreDigits (text : List ℕ) (most number : ℕ) : Type 0 where
  values : List ℕ
  digits : AllZip IsDigit text values
  number_is : number ≡ number_of values
  some : 1 ≤ length text
  few : length text ≤ most
  lone : number ≡ 0 → length text ≡ 1
  first : 0 < number → slice_index text 0 ≢ slice_index alphabet 0

lone_digit : (most n : ℕ) → n / 64 ≡ 0 → AreDigits (slice_index alphabet (n % 64) ∷ []) (suc most) n
lone_digit most n none = record {
  values = n % 64 ∷ [];
  digits = (((omega arith), refl), tt);
  number_is = omega arith;
  some = omega arith;
  few = omega arith;
  lone = λ zero. refl;
  first = λ some same. (let value : n % 64 ≡ 0 = one_value (slice_index alphabet (n % 64)) (n % 64) 0 ((omega arith), refl) ((omega arith), same) in omega arith);
}

first_stays : (text : List ℕ) (b : ℕ) → 1 ≤ length text → slice_index (text ++ b ∷ []) 0 ≡ slice_index text 0
first_stays [] b some = absurd (omega arith)
first_stays (x ∷ text) b some = refl

one_digit_more : (text : List ℕ) (most n : ℕ) → 0 < n / 64 → AreDigits text most (n / 64) → AreDigits (text ++ slice_index alphabet (n % 64) ∷ []) (suc most) n
one_digit_more text most n some d = record {
  values = d.values ++ n % 64 ∷ [];
  digits = AllZip-push IsDigit text d.values (slice_index alphabet (n % 64)) (n % 64) d.digits ((omega arith), refl);
  number_is = (let whole : n ≡ n / 64 * 64 + n % 64 = omega arith in whole ∙ (ap (λ m. m * 64 + n % 64) d.number_is ∙ sym (number_of_push d.values (n % 64))));
  some = omega (arith, length_push text (slice_index alphabet (n % 64)));
  few = omega (arith, length_push text (slice_index alphabet (n % 64)), d.few);
  lone = λ zero. absurd (omega arith);
  first = λ more same. d.first some (sym (first_stays text (slice_index alphabet (n % 64)) d.some) ∙ same);
}

at_least_one : (k quotient : ℕ) → quotient < 64 ^ k → 0 < quotient → 1 ≤ k
at_least_one zero quotient below more = omega (arith, below, more)
at_least_one (suc k) quotient below more = omega arith

digits_are : (most n : ℕ) → 1 ≤ most → n < 64 ^ most → AreDigits (digits_of most n) most n
digits_are zero n some small = absurd (omega arith)
digits_are (suc most) n some small = by_test (λ one below. digits_are most (n / 64) one below) (n / 64 == 0) refl
  where
    by_test : (1 ≤ most → n / 64 < 64 ^ most → AreDigits (digits_of most (n / 64)) most (n / 64)) → (b : Bool) → (n / 64 == 0) ≡ b
        → AreDigits (if b then slice_index alphabet (n % 64) ∷ [] else digits_of most (n / 64) ++ slice_index alphabet (n % 64) ∷ []) (suc most) n
    by_test before true e = lone_digit most n (grind (arith, nat_tests, e))
    by_test before false e =
        let more : 0 < n / 64 = grind (arith, nat_tests, e) in
        let power : n < 64 ^ most * 64 = subst (λ (p : ℕ). n < p) (pow-suc 64 most) small in
        let below : n / 64 < 64 ^ most = omega (arith, power) in
        one_digit_more (digits_of most (n / 64)) most n more (before (at_least_one most (n / 64) below more) below)

pub spelled : (number : ℕ) → number < 64 ^ 6 → Spells (spelling number) number
unfolding spelling
spelled number small = from (digits_are 6 number (omega arith) small)
  where
    from : AreDigits (spelling number) 6 number → Spells (spelling number) number
    from d = record { values = d.values; digits = d.digits; number = d.number_is; some = d.some; short = d.few; shortest = first d (cases_lt 0 number) }
      where
        first : AreDigits (spelling number) 6 number → (0 < number) ⊎ (number ≤ 0) → (length (spelling number) ≡ 1) ⊎ (slice_index (spelling number) 0 ≢ slice_index alphabet 0)
        first d (inl more) = inr (d.first more)
        first d (inr none) = inl (d.lone (omega arith))

-- what spells a number is its spelling
pub spelling_is : (text : List ℕ) (number : ℕ) → Spells text number → text ≡ spelling number
spelling_is text number spells = one_text text (spelling number) number spells (spelled number (spelled_small text number spells))
