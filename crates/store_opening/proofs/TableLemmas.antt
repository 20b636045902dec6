-- The table of the mark is one that a SELECT can read, and one that the product may write to is such a one.
use Rattle.std.proofs.Common.{◌≡◌, ◌==◌, ℕ, zero, suc, List, [], ◌∷◌, length, codes, filter, find, Bool, true, Some, refl, sym, ap, ◌∙◌, slice_get, inl, inr, arith}
use Rattle.std.proofs.lemmas.Bool.{cases_Bool}
use Rattle.std.proofs.lemmas.List.Sums.{length-filter}
use Rattle.sqlite.specs.Schema.{Schema}
use Rattle.sqlite.specs.Table.{Table}
use Rattle.sqlite_schema.specs.Names.{table_named}
use Rattle.store_tables.specs.Found.{HasOwn, is_further_key}
use Rattle.store_tables.specs.Tables.{mark}
use Rattle.store_tables.proofs.FoundLemmas.{place_of, passes_none}
use Rattle.store_tables.proofs.ReadLemmas.{CanSelect}
use Rattle.store_opening.specs.Marks.{HasMarkTable}

-- ---- the table of the mark is such a one

none_passes : {X : Type 0} (p : X → Bool) (xs : List X) (at : ℕ) (x : X) → slice_get xs at ≡ Some x → p x ≡ true → length (filter p xs) ≡ 0 → ⊥
none_passes p [] at x there hit none = absurd (let e = there in cc)
none_passes p (y ∷ ys) zero x there hit none =
    let same : y ≡ x = cc in
    let this : p y ≡ true = ap p same ∙ hit in
    let long = rw this at none in
    absurd (omega (arith, long))
none_passes p (y ∷ ys) (suc at) x there hit none = elim (cases_Bool (p y)) [
  | inl this ↦ absurd (let long = rw this at none in omega (arith, long))
  | inr other ↦ none_passes p ys at x there hit (rw other at none)
]

first_of_one : {X : Type 0} (p : X → Bool) (xs : List X) (at : ℕ) (x : X) → slice_get xs at ≡ Some x → p x ≡ true → length (filter p xs) ≡ 1 → find p xs ≡ Some x
first_of_one p [] at x there hit one = absurd (let e = there in cc)
first_of_one p (y ∷ ys) zero x there hit one =
    let same : y ≡ x = cc in
    let this : p y ≡ true = ap p same ∙ hit in
    rw this (ap Some same)
first_of_one p (y ∷ ys) (suc at) x there hit one = elim (cases_Bool (p y)) [
  | inl this ↦ absurd (let long = rw this at one in none_passes p ys at x there hit (omega (arith, long)))
  | inr other ↦ rw other (first_of_one p ys at x there hit (rw other at one))
]

same_tree : (n : ℕ) → (n == n) ≡ true
same_tree n = search arith

pub selects_mark : (schema : Schema) (own : HasMarkTable schema) → (at : ℕ) × CanSelect schema at (mark own.tree)
selects_mark schema own =
    let place = place_of schema.tables (table_named schema (codes "mark")) (mark own.tree) own.found in (
      place.0,
      record {
        named = place.1;
        is = place.2;
        alone = first_of_one (λ (t : Table). t.tree == own.tree) schema.tables place.0 (mark own.tree) place.2 (same_tree own.tree)
            (length-filter (λ (t : Table). t.tree == own.tree) schema.tables ∙ own.single.single);
        stored = own.single.stored;
      },
    )

pub own_mark : (schema : Schema) → HasOwn schema mark → HasMarkTable schema
own_mark schema own = record {
  tree = own.tree;
  found = let named = own.has.named in let is = own.has.is in rw (named, is) refl;
  single = record {
    stored = own.has.stored;
    single = sym (length-filter (λ (t : Table). t.tree == own.tree) schema.tables) ∙ ap length own.only;
    unkeyed = passes_none (is_further_key (mark own.tree)) schema.indexes own.keyed;
  };
}
