-- The pieces of a list with one more element at its end.
use Rattle.std.proofs.Common.{◌≡◌, ℕ, Bool, true, false, List, [], ◌∷◌, ◌++◌, refl, ap, sym, ◌∙◌, inl, inr}
use Rattle.std.specs.List.{slice_split, onto_first}
use Rattle.std.proofs.lemmas.Bool.{cases_Bool}
use Rattle.std.proofs.lemmas.List.Splits.{slice_split-cons_yes, slice_split-cons_no}

-- the last piece, with y at its end
abbrev pub onto_last : ℕ → List (List ℕ) → List (List ℕ)
onto_last y [] = (y ∷ []) ∷ []
onto_last y (piece ∷ []) = (piece ++ y ∷ []) ∷ []
onto_last y (piece ∷ next ∷ pieces) = piece ∷ onto_last y (next ∷ pieces)

pub onto_last-append : (y : ℕ) (before : List (List ℕ)) (last : List ℕ) → onto_last y (before ++ last ∷ []) ≡ before ++ (last ++ y ∷ []) ∷ []
onto_last-append y [] last = refl
onto_last-append y (first ∷ []) last = refl
onto_last-append y (first ∷ next ∷ before) last = ap (λ ps. first ∷ ps) (onto_last-append y (next ∷ before) last)

onto_both : (x y : ℕ) (first : List ℕ) (rest : List (List ℕ)) → onto_first x (onto_last y (first ∷ rest)) ≡ onto_last y (onto_first x (first ∷ rest))
onto_both x y first [] = refl
onto_both x y first (next ∷ rest) = refl

module _ (p : ℕ → Bool) where
  -- there is a first piece
  pub some_piece : (xs : List ℕ) → (first : List ℕ) × (rest : List (List ℕ)) × (slice_split p xs ≡ first ∷ rest)
  some_piece [] = ([], [], refl)
  some_piece (x ∷ xs) =
      let more = some_piece xs in
      elim (cases_Bool (p x)) [
        | inl yes' ↦ ([], slice_split p xs, slice_split-cons_yes p x xs yes')
        | inr no' ↦ (x ∷ more.0, more.1, slice_split-cons_no p x xs no' ∙ ap (onto_first x) more.2)
      ]

  pub slice_split-push_yes : (xs : List ℕ) (y : ℕ) → p y ≡ true → slice_split p (xs ++ y ∷ []) ≡ slice_split p xs ++ [] ∷ []
  slice_split-push_yes [] y cuts = slice_split-cons_yes p y [] cuts
  slice_split-push_yes (x ∷ xs) y cuts =
      let some = some_piece xs in
      elim (cases_Bool (p x)) [
        | inl yes' ↦
            slice_split-cons_yes p x (xs ++ y ∷ []) yes' ∙ ap (λ ps. [] ∷ ps) (slice_split-push_yes xs y cuts)
            ∙ ap (λ ps. ps ++ [] ∷ []) (sym (slice_split-cons_yes p x xs yes'))
        | inr no' ↦
            slice_split-cons_no p x (xs ++ y ∷ []) no' ∙ ap (onto_first x) (slice_split-push_yes xs y cuts ∙ ap (λ ps. ps ++ [] ∷ []) some.2)
            ∙ ap (λ ps. ps ++ [] ∷ []) (sym (slice_split-cons_no p x xs no' ∙ ap (onto_first x) some.2))
      ]

  pub slice_split-push_no : (xs : List ℕ) (y : ℕ) → p y ≡ false → slice_split p (xs ++ y ∷ []) ≡ onto_last y (slice_split p xs)
  slice_split-push_no [] y fails = slice_split-cons_no p y [] fails
  slice_split-push_no (x ∷ xs) y fails =
      let some = some_piece xs in
      elim (cases_Bool (p x)) [
        | inl yes' ↦
            slice_split-cons_yes p x (xs ++ y ∷ []) yes' ∙ ap (λ ps. [] ∷ ps) (slice_split-push_no xs y fails ∙ ap (onto_last y) some.2)
            ∙ sym (ap (onto_last y) (slice_split-cons_yes p x xs yes' ∙ ap (λ ps. [] ∷ ps) some.2))
        | inr no' ↦
            slice_split-cons_no p x (xs ++ y ∷ []) no' ∙ ap (onto_first x) (slice_split-push_no xs y fails ∙ ap (onto_last y) some.2)
            ∙ onto_both x y some.0 some.1
            ∙ sym (ap (onto_last y) (slice_split-cons_no p x xs no' ∙ ap (onto_first x) some.2))
      ]
