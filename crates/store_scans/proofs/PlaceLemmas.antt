-- A row that was read is one of those of the table.
use Rattle.std.proofs.Common.{List, [], ◌∷◌, ◌++◌}
use Rattle.std.specs.List.{AllByRecursion, Contains}
use Rattle.std.specs.List.Sorted.{IsPermutation}
use Rattle.std.proofs.lemmas.List.Elements.{Contains-append_left, Contains-push}
use Rattle.std.proofs.lemmas.List.Sorted.{IsPermutation-sym, Contains-permutation}
use Rattle.dict_text.proofs.AllLemmas.{all_append_parts}
use Rattle.store_rows.proofs.OrderLemmas.{all_same}

module _ {X : Type 0} where
  pub last_holds : (P : X → Type 0) (all xs tail : List X) (x : X) → AllByRecursion P all → IsPermutation all ((xs ++ x ∷ []) ++ tail) → P x
  last_holds P all xs tail x h same = (all_append_parts P xs (x ∷ []) (all_append_parts P (xs ++ x ∷ []) tail (all_same P all ((xs ++ x ∷ []) ++ tail) same h)).0).1.0

  pub last_there : (all xs tail : List X) (x : X) → IsPermutation all ((xs ++ x ∷ []) ++ tail) → Contains all x
  last_there all xs tail x same =
      Contains-permutation ((xs ++ x ∷ []) ++ tail) all x (IsPermutation-sym all ((xs ++ x ∷ []) ++ tail) same)
      (Contains-append_left (xs ++ x ∷ []) tail x (Contains-push xs x))
