-- Octets that don't stand in a list.
use Rattle.std.proofs.Common.{◌≡◌, ℕ, zero, suc, ◌<◌, inl, inr, List, [], ◌∷◌, ◌++◌, refl, sym, ap, ◌∙◌, arith, Bool, true, false, eq-eqb}
use Rattle.std.proofs.lemmas.Bool.{cases_lt}
use Rattle.std.specs.Prelude.{◌==◌, ◌&&◌, not, slice_index}
use Rattle.std.specs.List.{AllZip}
use Rattle.dict_text.specs.Number.{Spells, IsDigit, alphabet}
use Rattle.dict_index.specs.Cuts.{HasNo}

pub no_append : (b : ℕ) (xs ys : List ℕ) → HasNo b xs → HasNo b ys → HasNo b (xs ++ ys)
no_append b [] ys h k = k
no_append b (x ∷ xs) ys h k = (h.0, no_append b xs ys h.1 k)

pub no_front : (b : ℕ) (xs ys : List ℕ) → HasNo b (xs ++ ys) → HasNo b xs
no_front b [] ys h = tt
no_front b (x ∷ xs) ys h = (h.0, no_front b xs ys h.1)

pub no_back : (b : ℕ) (xs ys : List ℕ) → HasNo b (xs ++ ys) → HasNo b ys
no_back b [] ys h = h
no_back b (x ∷ xs) ys h = no_back b xs ys h.1

pub no_seam : (b : ℕ) (xs ys : List ℕ) → HasNo b (xs ++ b ∷ ys) → ⊥
no_seam b [] ys h = h.0 refl
no_seam b (x ∷ xs) ys h = no_seam b xs ys h.1

-- no digit is LF
abbrev none_below : ℕ → Bool
none_below zero = true
none_below (suc n) = not (slice_index alphabet n == 10) && none_below n

none_at : (n : ℕ) → none_below n ≡ true → (v : ℕ) → v < n → slice_index alphabet v ≡ 10 → ⊥
none_at zero all v lt e = omega arith
none_at (suc n) all v lt e = elim (cases_lt v n) [
  | inl below ↦ none_at n (rest (not (slice_index alphabet n == 10)) (none_below n) all) v below e
  | inr not_below ↦ (let same : v ≡ n = omega arith in here (slice_index alphabet n == 10) (none_below n) all (eq-eqb _ _ (ap (slice_index alphabet) (sym same) ∙ e)))
]
  where
    rest : (a b : Bool) → (a && b) ≡ true → b ≡ true
    rest true b h = h
    rest false b h = absurd (let no : false ≡ true = h in cc)

    here : (a b : Bool) → (not a && b) ≡ true → a ≡ true → ⊥
    here true b h k = let no : false ≡ true = h in cc
    here false b h k = cc

digits_have_none : (s vs : List ℕ) → AllZip IsDigit s vs → HasNo 10 s
digits_have_none [] vs h = tt
digits_have_none (x ∷ s) [] h = absurd h
digits_have_none (x ∷ s) (v ∷ vs) h = ((λ same. none_at 64 refl v h.0.0 (sym h.0.1 ∙ same)), digits_have_none s vs h.1)

pub spelled_no_newline : (s : List ℕ) (n : ℕ) → Spells s n → HasNo 10 s
spelled_no_newline s n h = digits_have_none s h.values h.digits
