-- What is found in a list, once more stands behind it.
use Rattle.std.proofs.Common.{◌≡◌, List, [], ◌∷◌, ◌++◌, find, Bool, true, false, not, ◌&&◌, is_some, Option, Some, None, inl, inr, refl, sym, ◌∙◌}
use Rattle.std.proofs.lemmas.Bool.{cases_Bool}
use Rattle.std.proofs.lemmas.List.Folds.{list_any-append}
use Rattle.std.specs.List.{list_any}

pub find_past : {X : Type 0} (p : X → Bool) (xs ys : List X) → find p xs ≡ None → find p (xs ++ ys) ≡ find p ys
find_past p [] ys none = refl
find_past p (x ∷ xs) ys none = elim (cases_Bool (p x)) [
  | inl hit ↦ absurd (let e = rw hit at none in cc)
  | inr miss ↦ rw miss (find_past p xs ys (rw miss at none))
]

pub find_before : {X : Type 0} (p : X → Bool) (xs ys : List X) (x : X) → find p xs ≡ Some x → find p (xs ++ ys) ≡ Some x
find_before p [] ys x some = absurd (let e = some in cc)
find_before p (y ∷ xs) ys x some = elim (cases_Bool (p y)) [
  | inl hit ↦ rw hit (rw hit at some)
  | inr miss ↦ rw miss (find_before p xs ys x (rw miss at some))
]

and_false : (a : Bool) → (a && false) ≡ false
and_false true = refl
and_false false = refl

lacks_by : {X : Type 0} (counts q : X → Bool) (xs : List X) (y : X) (found : Option X) → find q xs ≡ found → counts y ≡ false → (list_any counts xs && not (is_some (find q xs))) ≡ false
    → (list_any counts (xs ++ y ∷ []) && not (is_some (find q (xs ++ y ∷ [])))) ≡ false
lacks_by counts q xs y (Some x) is plain h = rw (find_before q xs (y ∷ []) x is) (and_false _)
lacks_by counts q xs y None is plain h =
    let none : list_any counts xs ≡ false = sym (and_true (list_any counts xs)) ∙ rw is at h in
    rw (list_any-append counts xs (y ∷ []), none, plain) refl
  where
    and_true : (a : Bool) → (a && true) ≡ a
    and_true true = refl
    and_true false = refl

pub lacks_no_more : {X : Type 0} (counts q : X → Bool) (xs : List X) (y : X) → counts y ≡ false → (list_any counts xs && not (is_some (find q xs))) ≡ false → (list_any counts (xs ++ y ∷ []) && not (is_some (find q (xs ++ y ∷ [])))) ≡ false
lacks_no_more counts q xs y = lacks_by counts q xs y (find q xs) refl
