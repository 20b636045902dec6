-- The first that passes a test, and its place.
use Rattle.std.proofs.Common.{◌≡◌, List, [], ◌∷◌, ◌++◌, length, find, Bool, Some, option_and_then, slice_get, inl, inr, refl, subst₂, append_assoc}
use Rattle.std.proofs.lemmas.Bool.{cases_Bool}
use Rattle.std.proofs.lemmas.List.{length-append}
use Rattle.std.specs.List.{position_from}

pub slice_get-middle : {X : Type 0} (pre : List X) (x : X) (xs : List X) → slice_get (pre ++ x ∷ xs) (length pre) ≡ Some x
slice_get-middle [] x xs = refl
slice_get-middle (y ∷ pre) x xs = slice_get-middle pre x xs

found_from : {X : Type 0} (p : X → Bool) (pre xs : List X) → option_and_then (slice_get (pre ++ xs)) (position_from p (length pre) xs) ≡ find p xs
found_from p pre [] = refl
found_from p pre (x ∷ xs) = elim (cases_Bool (p x)) [
  | inl hit ↦ rw hit (slice_get-middle pre x xs)
  | inr miss ↦ rw miss (subst₂ (λ l n. option_and_then (slice_get l) (position_from p n xs) ≡ find p xs) (append_assoc pre (x ∷ []) xs) (length-append pre (x ∷ [])) (found_from p (pre ++ x ∷ []) xs))
]

-- what stands at the place of the first is the first
pub found : {X : Type 0} (p : X → Bool) (xs : List X) → option_and_then (slice_get xs) (position_from p 0 xs) ≡ find p xs
found p xs = found_from p [] xs
