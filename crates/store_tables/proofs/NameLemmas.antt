-- A table that is found by its name, and the foreign keys that name it.
use Rattle.std.proofs.Common.{◌≡◌, ◌==◌, ℕ, List, [], ◌∷◌, map, find, Bool, true, false, Some, inl, inr, refl, sym, ap, ◌∙◌, arith}
use Rattle.std.proofs.lemmas.Bool.{cases_Bool}
use Rattle.std.specs.Ordering.{is_eq, nat_cmp}
use Rattle.std.specs.Cmp.Lexicographic.{slice_cmp}
use Rattle.std.specs.Char.{to_ascii_lowercase}
use Rattle.sqlite.specs.Schema.{Schema}
use Rattle.sqlite.specs.Table.{Table}
use Rattle.sqlite_schema.specs.Names.{same_name}
use Rattle.sqlite_schema.specs.declared.schema.Reference.{Reference}
use Rattle.store_tables.proofs.KitLemmas.{lowered}
use Rattle.store_tables.specs.Found.{HasTable, is_in}
use Rattle.store_tables.proofs.PlaceLemmas.{found}

same_as : (a b c : List ℕ) → same_name a b ≡ true → same_name c a ≡ same_name c b
unfolding same_name
same_as a b c h = ap (λ l. is_eq (slice_cmp nat_cmp (map to_ascii_lowercase c) l)) ((lowered a b).0 h)

find_same : {X : Type 0} (p q : X → Bool) → ((x : X) → p x ≡ q x) → (xs : List X) → find p xs ≡ find q xs
find_same p q same [] = refl
find_same p q same (x ∷ xs) = elim (cases_Bool (q x)) [
  | inl hit ↦ rw (same x, hit) refl
  | inr miss ↦ rw (same x, miss) (find_same p q same xs)
]

pub itself : (n : ℕ) → (n == n) ≡ true
itself n = search arith

module _ (schema : Schema) (at : ℕ) (table : Table) (has : HasTable schema at table) where
  pub found_is : find (λ t. same_name t.name table.name) schema.tables ≡ Some table
  found_is = let named = has.named in let is = has.is in sym (found (λ t. same_name t.name table.name) schema.tables) ∙ rw (named, is) refl

  -- a foreign key that doesn't lead into its tree doesn't name it
  pub not_parent : (ref : Reference) → is_in table.tree (find (λ t. same_name t.name ref.parent) schema.tables) ≡ false → same_name table.name ref.parent ≡ false
  not_parent ref out = elim (cases_Bool (same_name table.name ref.parent)) [
    | inl hit ↦ absurd (let parent = sym (find_same (λ t. same_name t.name table.name) (λ t. same_name t.name ref.parent) (λ t. same_as table.name ref.parent t.name hit) schema.tables) ∙ found_is in let both : true ≡ false =
        sym (itself table.tree) ∙ rw parent at out in cc)
    | inr miss ↦ miss
  ]
