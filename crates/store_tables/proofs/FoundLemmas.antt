-- The tests of a found schema decide whether it has a table.
use Rattle.std.proofs.Common.{◌≡◌, ◌==◌, ℕ, zero, suc, List, [], ◌∷◌, length, filter, find, Bool, true, false, ◌||◌, Option, Some, None, option_and_then, slice_get, inl, inr, refl, sym, ap, subst, ◌∙◌, arith}
use Rattle.std.proofs.lemmas.Bool.{cases_Bool}
use Rattle.std.proofs.lemmas.List.Sums.{length-filter}
use Rattle.std.specs.List.{AllByRecursion, list_any}
use Rattle.sqlite.specs.Schema.{Schema}
use Rattle.sqlite.specs.Table.{Table}
use Rattle.sqlite_schema.specs.Names.{table_named, same_name}
use Rattle.sqlite_schema.specs.declared.schema.Reference.{Reference}
use Rattle.store_tables.specs.Found.{HasTable, HasOwn, IsAlone, is_further_key, is_in, found_table}
use Rattle.store_tables.proofs.PlaceLemmas.{found}

-- ---- a test that none passes

neither : (a b : Bool) → (a || b) ≡ false → (a ≡ false) × (b ≡ false)
neither false b h = (refl, h)
neither true b h = absurd (let e = h in cc)

pub none_passes : {X : Type 0} (p : X → Bool) (xs : List X) → list_any p xs ≡ false → AllByRecursion (λ x. p x ≡ false) xs
none_passes p [] h = tt
none_passes p (x ∷ xs) h = let both = neither (p x) (list_any p xs) h in (both.0, none_passes p xs both.1)

pub passes_none : {X : Type 0} (p : X → Bool) (xs : List X) → AllByRecursion (λ x. p x ≡ false) xs → list_any p xs ≡ false
passes_none p [] h = refl
passes_none p (x ∷ xs) h = rw h.0 (passes_none p xs h.1)

pub weaker : {X : Type 0} (P Q : X → Type 0) → ((x : X) → P x → Q x) → (xs : List X) → AllByRecursion P xs → AllByRecursion Q xs
weaker P Q f [] h = tt
weaker P Q f (x ∷ xs) h = (f x h.0, weaker P Q f xs h.1)

-- ---- the only one that passes

none_long : {X : Type 0} (xs : List X) → length xs ≡ 0 → xs ≡ []
none_long [] h = refl
none_long (x ∷ xs) h = absurd (omega (arith, h))

missed : {X : Type 0} (p : X → Bool) (xs : List X) (at : ℕ) (x : X) → slice_get xs at ≡ Some x → p x ≡ true → filter p xs ≡ [] → ⊥
missed p [] at x there hit none = absurd (let e = there in cc)
missed p (y ∷ ys) zero x there hit none =
    let same : y ≡ x = cc in
    let first : p y ≡ true = ap p same ∙ hit in
    absurd (let e = rw first at none in cc)
missed p (y ∷ ys) (suc at) x there hit none = elim (cases_Bool (p y)) [
  | inl first ↦ absurd (let e = rw first at none in cc)
  | inr other ↦ missed p ys at x there hit (rw other at none)
]

only_one : {X : Type 0} (p : X → Bool) (xs : List X) (at : ℕ) (x : X) → slice_get xs at ≡ Some x → p x ≡ true → length (filter p xs) ≡ 1 → filter p xs ≡ x ∷ []
only_one p [] at x there hit one = absurd (let e = there in cc)
only_one p (y ∷ ys) zero x there hit one =
    let same : y ≡ x = cc in
    let first : p y ≡ true = ap p same ∙ hit in
    let rest : filter p ys ≡ [] = let long = rw first at one in none_long (filter p ys) (omega (arith, long)) in
    rw (first, rest, same) refl
only_one p (y ∷ ys) (suc at) x there hit one = elim (cases_Bool (p y)) [
  | inl first ↦ absurd (let long = rw first at one in missed p ys at x there hit (none_long (filter p ys) (omega (arith, long))))
  | inr other ↦ rw other (only_one p ys at x there hit (rw other at one))
]

first_is : {X : Type 0} (p : X → Bool) (xs : List X) (x : X) → filter p xs ≡ x ∷ [] → find p xs ≡ Some x
first_is p [] x only = absurd (let e = only in cc)
first_is p (y ∷ ys) x only = elim (cases_Bool (p y)) [
  | inl first ↦ let all = rw first at only in let same : y ≡ x = cc in rw first (ap Some same)
  | inr other ↦ rw other (first_is p ys x (rw other at only))
]

-- ---- a table that is found by its name

pub place_of : {X : Type 0} (xs : List X) (o : Option ℕ) (x : X) → option_and_then (slice_get xs) o ≡ Some x → (at : ℕ) × (o ≡ Some at) × (slice_get xs at ≡ Some x)
place_of xs None x h = absurd (let e = h in cc)
place_of xs (Some at) x h = (at, refl, h)

same_tree : (n : ℕ) → (n == n) ≡ true
same_tree n = search arith

module _ (schema : Schema) where
  -- no foreign key leads into the tree
  abbrev Apart : ℕ → Type 0
  Apart tree = AllByRecursion (λ child. AllByRecursion (λ (ref : Reference). is_in tree (find (λ o. same_name o.name ref.parent) schema.tables) ≡ false) child.references) schema.tables

  abbrev leads : ℕ → Table → Bool
  leads tree child = list_any (λ (ref : Reference). is_in tree (found_table schema ref.parent)) child.references

  parent_is : (tree : ℕ) (ref : Reference) → is_in tree (found_table schema ref.parent) ≡ is_in tree (find (λ o. same_name o.name ref.parent) schema.tables)
  parent_is tree ref = ap (is_in tree) (found (λ o. same_name o.name ref.parent) schema.tables)

  apart : (tree : ℕ) → list_any (leads tree) schema.tables ≡ false → Apart tree
  apart tree h =
      weaker _ _ (λ child h. weaker _ _ (λ ref e. sym (parent_is tree ref) ∙ e) child.references (none_passes (λ (ref : Reference). is_in tree (found_table schema ref.parent)) child.references h)) schema.tables
      (none_passes (leads tree) schema.tables h)

  leads_none : (tree : ℕ) → Apart tree → list_any (leads tree) schema.tables ≡ false
  leads_none tree h =
      passes_none (leads tree) schema.tables
      (weaker _ _ (λ child h. passes_none (λ (ref : Reference). is_in tree (found_table schema ref.parent)) child.references (weaker _ _ (λ ref e. parent_is tree ref ∙ e) child.references h)) schema.tables h)

  module _ (table : ℕ → Table) (name : List ℕ) (names : (n : ℕ) → (table n).name ≡ name) (trees : (n : ℕ) → (table n).tree ≡ n) (t : Table) (there : found_table schema name ≡ Some t) where
    pub owns : t ≡ table t.tree → IsAlone schema t → HasOwn schema table
    owns same alone =
        let place = place_of schema.tables (table_named schema name) t there in
        let only : filter (λ o. o.tree == t.tree) schema.tables ≡ t ∷ [] = only_one (λ o. o.tree == t.tree) schema.tables place.0 t place.2 (same_tree t.tree) (length-filter (λ o. o.tree == t.tree) schema.tables ∙ alone.single) in
        let named : t.name ≡ name = ap (λ (o : Table). o.name) same ∙ names t.tree in
        let has : HasTable schema place.0 t = record {
          named = subst (λ n. table_named schema n ≡ Some place.0) (sym named) place.1;
          is = place.2;
          alone = first_is (λ o. o.tree == t.tree) schema.tables t only;
          stored = alone.stored;
          unreferred = apart t.tree alone.unreferred;
        } in
        record {
          at = place.0;
          tree = t.tree;
          has = subst (HasTable schema place.0) same has;
          only = subst (λ o. filter (λ o. o.tree == t.tree) schema.tables ≡ o ∷ []) same only;
          keyed = subst (λ o. AllByRecursion (λ index. is_further_key o index ≡ false) schema.indexes) same (none_passes (is_further_key t) schema.indexes alone.unkeyed);
        }

    pub is_own : HasOwn schema table → (t ≡ table t.tree) × IsAlone schema t
    is_own own =
        let named : table_named schema name ≡ Some own.at = subst (λ n. table_named schema n ≡ Some own.at) (names own.tree) own.has.named in
        let at : slice_get schema.tables own.at ≡ Some t = rw named at there in
        let is = own.has.is in
        let same : t ≡ table own.tree = cc in
        let tree : t.tree ≡ own.tree = ap (λ (o : Table). o.tree) same ∙ trees own.tree in (
          same ∙ ap table (sym tree),
          subst (IsAlone schema) (sym same) (record {
            stored = own.has.stored;
            single = sym (length-filter (λ o. o.tree == (table own.tree).tree) schema.tables) ∙ rw (trees own.tree) (ap length own.only);
            unreferred = leads_none (table own.tree).tree own.has.unreferred;
            unkeyed = passes_none (is_further_key (table own.tree)) schema.indexes own.keyed;
          }),
        )
