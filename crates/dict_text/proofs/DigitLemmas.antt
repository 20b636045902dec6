-- The digits as bytes: which byte stands for which value.
use Rattle.std.proofs.Common.{◌≡◌, ◌≢◌, ℕ, zero, suc, ◌+◌, ◌-◌, ◌<◌, ◌≤◌, ◌⊎◌, inl, inr, refl, ap, sym, ◌∙◌, arith, Bool, true, false, eqb-true}
use Rattle.std.proofs.lemmas.Bool.{cases_lt}
use Rattle.std.proofs.lemmas.Bool.Decides.{nat_tests}
use Rattle.std.specs.Prelude.{nat_lt, nat_le, ◌==◌, ◌&&◌, if◌then◌else◌, slice_index}
use Rattle.dict_text.specs.Number.{IsDigit, alphabet}
use Rattle.dict_text.specs.Faults.{IsSomeDigit}

-- the test passes at each number below n
abbrev passes_below : ℕ → (ℕ → Bool) → Bool
passes_below zero test = true
passes_below (suc n) test = test n && passes_below n test

both : (a b : Bool) → (a && b) ≡ true → (a ≡ true) × (b ≡ true)
both true b e = (refl, e)
both false b e = absurd (let no : false ≡ true = e in cc)

at_or_below : (v n : ℕ) → v < suc n → (v ≡ n) ⊎ (v < n)
at_or_below v n lt = elim (cases_lt v n) [ inl below ↦ inr below | inr above ↦ inl (omega arith) ]

passes_at : (n : ℕ) (test : ℕ → Bool) → passes_below n test ≡ true → (v : ℕ) → v < n → test v ≡ true
passes_at zero test all v lt = absurd (omega arith)
passes_at (suc n) test all v lt = here_or_below (λ below. passes_at n test (both (test n) (passes_below n test) all).1 v below) (at_or_below v n lt)
  where
    here_or_below : (v < n → test v ≡ true) → (v ≡ n) ⊎ (v < n) → test v ≡ true
    here_or_below earlier (inl e) = ap test e ∙ (both (test n) (passes_below n test) all).0
    here_or_below earlier (inr below) = earlier below

-- the value of a digit's byte
value_at : ℕ → ℕ
value_at b = if nat_le 97 b then b - 71 else if nat_le 65 b then b - 65 else if nat_le 48 b then b + 4 else if b == 43 then 62 else 63

-- the byte of a digit, by its value
pub byte_at : ℕ → ℕ
byte_at v = if nat_lt v 26 then v + 65 else if nat_lt v 52 then v + 71 else if nat_lt v 62 then v - 4 else if v == 62 then 43 else 47

value_of_digit : (v : ℕ) → v < 64 → value_at (slice_index alphabet v) ≡ v
unfolding value_at
value_of_digit v lt = eqb-true _ _ (passes_at 64 (λ v. value_at (slice_index alphabet v) == v) refl v lt)

pub alphabet_at : (v : ℕ) → v < 64 → slice_index alphabet v ≡ byte_at v
unfolding byte_at
alphabet_at v lt = eqb-true _ _ (passes_at 64 (λ v. slice_index alphabet v == byte_at v) refl v lt)

-- one byte is the digit of one value
pub one_value : (byte v w : ℕ) → IsDigit byte v → IsDigit byte w → v ≡ w
one_value byte v w p q = sym (value_of_digit v p.0) ∙ (ap value_at (sym p.1 ∙ q.1) ∙ value_of_digit w q.0)

pub upper_digit : (byte : ℕ) → 65 ≤ byte → byte ≤ 90 → IsDigit byte (byte - 65)
unfolding byte_at
upper_digit byte low high = (omega arith, sym (alphabet_at (byte - 65) (omega arith) ∙ grind (arith, nat_tests)))

pub lower_digit : (byte : ℕ) → 97 ≤ byte → byte ≤ 122 → IsDigit byte (byte - 97 + 26)
unfolding byte_at
lower_digit byte low high = (omega arith, sym (alphabet_at (byte - 97 + 26) (omega arith) ∙ grind (arith, nat_tests)))

pub number_digit : (byte : ℕ) → 48 ≤ byte → byte ≤ 57 → IsDigit byte (byte - 48 + 52)
unfolding byte_at
number_digit byte low high = (omega arith, sym (alphabet_at (byte - 48 + 52) (omega arith) ∙ grind (arith, nat_tests)))

pub byte_of_digit : (byte : ℕ) → IsSomeDigit byte → ¬ ((65 ≤ byte) × (byte ≤ 90)) → ¬ ((97 ≤ byte) × (byte ≤ 122)) → ¬ ((48 ≤ byte) × (byte ≤ 57)) → byte ≢ 43 → byte ≢ 47 → ⊥
unfolding byte_at
byte_of_digit byte (v, is) upper lower digit plus slash =
    let lt : v < 64 = is.0 in
    let e : byte ≡ byte_at v = is.1 ∙ alphabet_at v lt in
    grind (arith, nat_tests)
