-- A list without the blanks at its ends.
use Rattle.std.proofs.Common.{◌≡◌, ℕ, true, false, cond, List, [], ◌∷◌, ◌++◌, length, ◌==◌, ◌&&◌, All, refl, ap, sym, ◌∙◌, arith}
use Rattle.std.proofs.lemmas.Bool.{cond-true, cond-false, and_from, and_left, and_right, cond_both, ne_eqb}
use Rattle.std.proofs.lemmas.List.Elements.{All-nil, All-cons, All-head, All-tail}
use Rattle.dict_text.specs.Characters.{is_blank}
use Rattle.dict_text.specs.Blanks.{without_leading_blanks, without_trailing_blanks, without_blanks_at_ends}

-- a blank at the end goes
pub trailing_blank : (xs : List ℕ) (b : ℕ) → is_blank b ≡ true → without_trailing_blanks (xs ++ b ∷ []) ≡ without_trailing_blanks xs
trailing_blank [] b blank = cond-true _ [] (b ∷ []) (and_from (is_blank b) true blank refl)
trailing_blank (x ∷ xs) b blank =
    ap (λ ys. cond (is_blank x && length ys == 0) [] (x ∷ ys)) (trailing_blank xs b blank)

-- any other end stays, and all before it
pub trailing_solid : (xs : List ℕ) (b : ℕ) → is_blank b ≡ false → without_trailing_blanks (xs ++ b ∷ []) ≡ xs ++ b ∷ []
trailing_solid [] b solid = cond-false _ [] (b ∷ []) (and_left (is_blank b) true solid)
trailing_solid (x ∷ xs) b solid =
    let some : (length (xs ++ b ∷ []) == 0) ≡ false = ne_eqb (length (xs ++ b ∷ [])) 0 (some_length xs) in
    ap (λ ys. cond (is_blank x && length ys == 0) [] (x ∷ ys)) (trailing_solid xs b solid)
    ∙ cond-false _ [] (x ∷ (xs ++ b ∷ [])) (and_right (is_blank x) (length (xs ++ b ∷ []) == 0) some)
  where
    some_length : (ys : List ℕ) → length (ys ++ b ∷ []) ≡ 0 → ⊥
    some_length [] none = absurd (omega arith)
    some_length (y ∷ ys) none = absurd (omega arith)

module _ (P : ℕ → Type 0) where
  pub All-leading : (xs : List ℕ) → All P xs → All P (without_leading_blanks xs)
  All-leading [] h = All-nil P
  All-leading (x ∷ xs) h =
      cond_both (is_blank x) (without_leading_blanks xs) (x ∷ xs) (All P) (λ _. All-leading xs (All-tail P x xs h)) (λ _. h)

  pub All-trailing : (xs : List ℕ) → All P xs → All P (without_trailing_blanks xs)
  All-trailing [] h = All-nil P
  All-trailing (x ∷ xs) h =
      cond_both _ [] (x ∷ without_trailing_blanks xs) (All P) (λ _. All-nil P)
      (λ _. All-cons P x (without_trailing_blanks xs) (All-head P x xs h) (All-trailing xs (All-tail P x xs h)))

  pub All-ends : (xs : List ℕ) → All P xs → All P (without_blanks_at_ends xs)
  All-ends xs h = All-trailing (without_leading_blanks xs) (All-leading xs h)

-- the same of a list that is known to end so
pub trailing_blank_at : (xs ys : List ℕ) (b : ℕ) → xs ≡ ys ++ b ∷ [] → is_blank b ≡ true → without_trailing_blanks xs ≡ without_trailing_blanks ys
trailing_blank_at xs ys b is blank = ap without_trailing_blanks is ∙ trailing_blank ys b blank

pub trailing_solid_at : (xs ys : List ℕ) (b : ℕ) → xs ≡ ys ++ b ∷ [] → is_blank b ≡ false → without_trailing_blanks xs ≡ xs
trailing_solid_at xs ys b is solid = ap without_trailing_blanks is ∙ trailing_solid ys b solid ∙ sym is
