-- A schema in which a table was made has it, and those that it had.
use Rattle.std.proofs.Common.{◌≡◌, ◌==◌, ◌<◌, ◌+◌, ◌^◌, ℕ, zero, suc, List, [], ◌∷◌, ◌++◌, length, filter, find, map, not, Bool, true, false, ◌&&◌, ◌||◌, Option, Some, None, slice_get, inl, inr, refl, sym, ap, subst, ◌∙◌, arith, codes}
use Rattle.std.proofs.lemmas.Bool.{cases_Bool}
use Rattle.std.proofs.lemmas.List.Elements.{filter-append}
use Rattle.std.proofs.lemmas.List.Folds.{list_any-append}
use Rattle.std.specs.List.{AllByRecursion, position_from, list_any, list_all}
use Rattle.std.specs.Fmt.{digits, decimal}
use Rattle.sqlite.specs.Schema.{Schema}
use Rattle.sqlite.specs.Table.{Table}
use Rattle.sqlite.specs.Change.{created, next_tree, is_used, automatics}
use Rattle.sqlite_catalog.specs.Listing.{automatic}
use Rattle.sqlite_schema.specs.Names.{table_named, index_named, view_named, same_name}
use Rattle.sqlite_schema.specs.declared.schema.Reference.{Reference}
use Rattle.sqlite_schema.specs.declared.schema.Index.{Index}
use Rattle.store_tables.proofs.KitLemmas.{table_below, no_table, no_index, no_view, same_itself, all_from}
use Rattle.store_tables.specs.Tables.{table_of}
use Rattle.store_tables.specs.Found.{HasOwn, is_in, is_further_key}
use Rattle.store_tables.specs.Room.{HasRoom, LeavesRoom, is_referred}
use Rattle.store_tables.specs.Definitions.{IsDefinition, names_of, are_named_apart}
use Rattle.store_tables.specs.declared.tables.StoreTable.{StoreTable}
use Rattle.store_tables.specs.declared.tables.StoreTable.TheVariants.{Mark, Item, Member, Edition, Entry, Kept}
use Rattle.store_tables.proofs.PlaceLemmas.{slice_get-middle}
use Rattle.store_tables.proofs.FindLemmas.{find_past, find_before}
use Rattle.store_tables.proofs.FoundLemmas.{none_passes, weaker}

-- ---- lists with one more at their end

position_before : {X : Type 0} (p : X → Bool) (n : ℕ) (xs ys : List X) (at : ℕ) → position_from p n xs ≡ Some at → position_from p n (xs ++ ys) ≡ Some at
position_before p n [] ys at h = absurd (let e = h in cc)
position_before p n (x ∷ xs) ys at h = elim (cases_Bool (p x)) [
  | inl hit ↦ rw hit (rw hit at h)
  | inr miss ↦ rw miss (position_before p (n + 1) xs ys at (rw miss at h))
]

position_past : {X : Type 0} (p : X → Bool) (n : ℕ) (xs : List X) (y : X) → position_from p n xs ≡ None → p y ≡ true → position_from p n (xs ++ y ∷ []) ≡ Some (n + length xs)
position_past p n [] y none hit = let e : n + 0 ≡ n = omega arith in rw (hit, e) refl
position_past p n (x ∷ xs) y none hit = elim (cases_Bool (p x)) [
  | inl first ↦ absurd (let e = rw first at none in cc)
  | inr miss ↦ rw miss (position_past p (n + 1) xs y (rw miss at none) hit ∙ ap Some (omega arith))
]

-- no element passes, once more stand behind that don't
pub position_none : {X : Type 0} (p : X → Bool) (n : ℕ) (xs ys : List X) → position_from p n xs ≡ None → AllByRecursion (λ y. p y ≡ false) ys → position_from p n (xs ++ ys) ≡ None
position_none p n [] [] none all = refl
position_none p n [] (y ∷ ys) none all = rw all.0 (position_none p (n + 1) [] ys refl all.1)
position_none p n (x ∷ xs) ys none all = elim (cases_Bool (p x)) [
  | inl hit ↦ absurd (let e = rw hit at none in cc)
  | inr miss ↦ rw miss (position_none p (n + 1) xs ys (rw miss at none) all)
]

slice_before : {X : Type 0} (xs ys : List X) (at : ℕ) (x : X) → slice_get xs at ≡ Some x → slice_get (xs ++ ys) at ≡ Some x
slice_before [] ys at x h = absurd (let e = h in cc)
slice_before (y ∷ xs) ys zero x h = h
slice_before (y ∷ xs) ys (suc at) x h = slice_before xs ys at x h

all_join : {X : Type 0} (P : X → Type 0) (xs ys : List X) → AllByRecursion P xs → AllByRecursion P ys → AllByRecursion P (xs ++ ys)
all_join P [] ys a b = b
all_join P (x ∷ xs) ys a b = (a.0, all_join P xs ys a.1 b)

filter_none : {X : Type 0} (p : X → Bool) (xs : List X) → AllByRecursion (λ x. p x ≡ false) xs → filter p xs ≡ []
filter_none p [] all = refl
filter_none p (x ∷ xs) all = rw all.0 (filter_none p xs all.1)

find_none : {X : Type 0} (p : X → Bool) (xs : List X) → AllByRecursion (λ x. p x ≡ false) xs → find p xs ≡ None
find_none p [] all = refl
find_none p (x ∷ xs) all = rw all.0 (find_none p xs all.1)

-- what is found is one of the list
pub found_is : {X : Type 0} (P : X → Type 0) (p : X → Bool) (xs : List X) (x : X) → AllByRecursion P xs → find p xs ≡ Some x → P x
found_is P p [] x all h = absurd (let e = h in cc)
found_is P p (y ∷ xs) x all h = elim (cases_Bool (p y)) [
  | inl hit ↦ let e = rw hit at h in let same : y ≡ x = cc in subst P same all.0
  | inr miss ↦ found_is P p xs x all.1 (rw miss at h)
]

pub differ : (a b : ℕ) → a < b → (a == b) ≡ false
differ a b less = elim (cases_Bool (a == b)) [
  | inl same ↦ absurd (let e : a ≡ b = search arith in omega (arith, e, less))
  | inr other ↦ other
]

differ_back : (a b : ℕ) → a < b → (b == a) ≡ false
differ_back a b less = elim (cases_Bool (b == a)) [
  | inl same ↦ absurd (let e : b ≡ a = search arith in omega (arith, e, less))
  | inr other ↦ other
]

is_itself : (n : ℕ) → (n == n) ≡ true
is_itself n = search arith

-- ---- where a foreign key leads

leads_elsewhere : (tree : ℕ) (p : Table → Bool) (tables : List Table) (made : Table) → (made.tree == tree) ≡ false → (o : Option Table) → find p tables ≡ o → is_in tree o ≡ false → is_in tree (find p (tables ++ made ∷ [])) ≡ false
leads_elsewhere tree p tables made other (Some t) is h = rw (find_before p tables (made ∷ []) t is) h
leads_elsewhere tree p tables made other None is h = elim (cases_Bool (p made)) [
  | inl hit ↦ rw (find_past p tables (made ∷ []) is, hit) other
  | inr miss ↦ rw (find_past p tables (made ∷ []) is, miss) refl
]

leads_past : (p : Table → Bool) (tables : List Table) (made : Table) → AllByRecursion (λ t. t.tree < made.tree) tables → p made ≡ false → (o : Option Table) → find p tables ≡ o → is_in made.tree (find p (tables ++ made ∷ [])) ≡ false
leads_past p tables made below other (Some t) is = rw (find_before p tables (made ∷ []) t is) (differ t.tree made.tree (found_is (λ u. u.tree < made.tree) p tables t below is))
leads_past p tables made below other None is = rw (find_past p tables (made ∷ []) is, other) refl

-- ---- what a definition says of a table in its tree

module _ (table : ℕ → Table) (defined : IsDefinition table) (n : ℕ) where
  pub name_in : (table n).name ≡ (table 0).name
  name_in = ap (λ (t : Table). t.name) (defined.same n)

  pub tree_in : (table n).tree ≡ n
  tree_in = ap (λ (t : Table). t.tree) (defined.same n)

  no_references : (table n).references ≡ []
  no_references = ap (λ (t : Table). t.references) (defined.same n) ∙ defined.unreferring

-- the indexes that are made with a table
abbrev keys_of : Table → ℕ → List Index
keys_of t m = automatics t 0 m t.uniques

-- each is over its tree
over_tree : (t : Table) (P : Index → Type 0) → ((index : Index) → index.table ≡ t.tree → P index) → (at m : ℕ) (keys : List (List ℕ)) → AllByRecursion P (automatics t at m keys)
over_tree t P so at m [] = tt
over_tree t P so at m (key ∷ keys) = (so (automatic t at key m) refl, over_tree t P so (at + 1) (m + 1) keys)

other_keys : (t : Table) (m : ℕ) (o : Table) → (t.tree == o.tree) ≡ false → AllByRecursion (λ index. is_further_key o index ≡ false) (keys_of t m)
other_keys t m o other = over_tree t (λ index. is_further_key o index ≡ false) each 0 m t.uniques
  where
    each : (index : Index) → index.table ≡ t.tree → is_further_key o index ≡ false
    each index over = let e : (index.table == o.tree) ≡ false = ap (λ n. n == o.tree) over ∙ other in rw e refl

-- their names don't depend on their trees
keys_named : (t u : Table) → t.name ≡ u.name → (P : List ℕ → Type 0) (at m k : ℕ) (keys : List (List ℕ)) → AllByRecursion P (map (λ (i : Index). i.name) (automatics t at m keys))
    → AllByRecursion (λ (i : Index). P i.name) (automatics u at k keys)
keys_named t u same P at m k [] h = tt
keys_named t u same P at m k (key ∷ keys) h = (subst (λ name. P (codes "sqlite_autoindex_" ++ (name ++ (codes "_" ++ decimal (at + 1))))) same h.0, keys_named t u same P (at + 1) (m + 1) (k + 1) keys h.1)

-- ---- a schema in which one was made

abbrev with_made : Schema → (ℕ → Table) → Schema
with_made schema table =
    record schema { tables = schema.tables ++ table (next_tree schema) ∷ []; indexes = schema.indexes ++ keys_of (table (next_tree schema)) (next_tree schema + 1) }

made_is : (schema : Schema) (table : ℕ → Table) → IsDefinition table → with_made schema table ≡ created schema (table 0)
made_is schema table defined = ap (λ (t : Table). record schema { tables = schema.tables ++ t ∷ []; indexes = schema.indexes ++ keys_of t (next_tree schema + 1) }) (defined.same (next_tree schema))

module _ (schema : Schema) (table : ℕ → Table) (defined : IsDefinition table) where
  abbrev made : Table
  made = table (next_tree schema)

  below : AllByRecursion (λ t. t.tree < next_tree schema) schema.tables
  below = all_from (λ t. t.tree < next_tree schema) schema.tables (table_below schema)

  abbrev Leads : ℕ → List Table → Table → Type 0
  Leads n tables child = AllByRecursion (λ (ref : Reference). is_in n (find (λ t. same_name t.name ref.parent) tables) ≡ false) child.references

  leads_from_made : (n : ℕ) (tables : List Table) → Leads n tables made
  leads_from_made n tables = rw (no_references table defined (next_tree schema)) tt

  -- ---- it has the table that was made

  module _ (unused : is_used schema (table 0).name ≡ false) (free : is_referred schema (table 0).name ≡ false) (low : next_tree schema < 2 ^ 31)
      (owned : AllByRecursion (λ index. (index.table == next_tree schema) ≡ false) schema.indexes) where
    named : table_named (with_made schema table) made.name ≡ Some (0 + length schema.tables)
    named =
        let none : table_named schema made.name ≡ None = rw (name_in table defined (next_tree schema)) (no_table schema (table 0).name unused) in
        position_past (λ t. same_name t.name made.name) 0 schema.tables made none (same_itself made.name)

    under_it : AllByRecursion (λ t. t.tree < made.tree) schema.tables
    under_it = rw (tree_in table defined (next_tree schema)) below

    ref_past : (ref : Reference) → same_name (table 0).name ref.parent ≡ false → is_in made.tree (find (λ t. same_name t.name ref.parent) (schema.tables ++ made ∷ [])) ≡ false
    ref_past ref apart =
        let other : same_name made.name ref.parent ≡ false = ap (λ n. same_name n ref.parent) (name_in table defined (next_tree schema)) ∙ apart in
        leads_past (λ t. same_name t.name ref.parent) schema.tables made under_it other (find (λ t. same_name t.name ref.parent) schema.tables) refl

    child_past : (child : Table) → list_any (λ (ref : Reference). same_name (table 0).name ref.parent) child.references ≡ false → Leads made.tree (schema.tables ++ made ∷ []) child
    child_past child apart =
        weaker (λ (ref : Reference). same_name (table 0).name ref.parent ≡ false) (λ (ref : Reference). is_in made.tree (find (λ t. same_name t.name ref.parent) (schema.tables ++ made ∷ [])) ≡ false) ref_past child.references
        (none_passes (λ (ref : Reference). same_name (table 0).name ref.parent) child.references apart)

    unreferred : AllByRecursion (Leads made.tree (schema.tables ++ made ∷ [])) (schema.tables ++ made ∷ [])
    unreferred =
        all_join (Leads made.tree (schema.tables ++ made ∷ [])) schema.tables (made ∷ [])
        (weaker (λ child. list_any (λ (ref : Reference). same_name (table 0).name ref.parent) child.references ≡ false) (Leads made.tree (schema.tables ++ made ∷ [])) child_past schema.tables
        (none_passes (λ child. list_any (λ (ref : Reference). same_name (table 0).name ref.parent) child.references) schema.tables free))
        (leads_from_made made.tree (schema.tables ++ made ∷ []), tt)

    none_there : AllByRecursion (λ t. (t.tree == made.tree) ≡ false) schema.tables
    none_there = weaker (λ t. t.tree < made.tree) (λ t. (t.tree == made.tree) ≡ false) (λ t h. differ t.tree made.tree h) schema.tables under_it

    alone : find (λ t. t.tree == made.tree) (schema.tables ++ made ∷ []) ≡ Some made
    alone = find_past (λ t. t.tree == made.tree) schema.tables (made ∷ []) (find_none _ schema.tables none_there) ∙ rw (is_itself made.tree) refl

    only : filter (λ t. t.tree == made.tree) (schema.tables ++ made ∷ []) ≡ made ∷ []
    only = filter-append (λ t. t.tree == made.tree) schema.tables (made ∷ []) ∙ rw (filter_none _ schema.tables none_there, is_itself made.tree) refl

    no_key : (index : Index) → (index.table == next_tree schema) ≡ false → is_further_key made index ≡ false
    no_key index other =
        let e : (index.table == made.tree) ≡ false = ap (λ n. index.table == n) (tree_in table defined (next_tree schema)) ∙ other in
        rw e refl

    keyed : AllByRecursion (λ index. is_further_key made index ≡ false) (schema.indexes ++ keys_of made (next_tree schema + 1))
    keyed =
        all_join (λ index. is_further_key made index ≡ false) schema.indexes (keys_of made (next_tree schema + 1))
        (weaker (λ index. (index.table == next_tree schema) ≡ false) (λ index. is_further_key made index ≡ false) no_key schema.indexes owned) (defined.keyed (next_tree schema) (next_tree schema + 1))

    pub made_own : HasOwn (created schema (table 0)) table
    made_own = subst (λ s. HasOwn s table) (made_is schema table defined) (record {
      at = 0 + length schema.tables;
      tree = next_tree schema;
      has = record {
        named = named;
        is = let e : 0 + length schema.tables ≡ length schema.tables = omega arith in rw e (slice_get-middle schema.tables made []);
        alone = alone;
        stored = rw (tree_in table defined (next_tree schema)) low;
        unreferred = unreferred;
      };
      only = subst (λ n. filter (λ t. t.tree == n) (schema.tables ++ made ∷ []) ≡ made ∷ []) (tree_in table defined (next_tree schema)) only;
      keyed = keyed;
    })

  -- ---- and those that were there

  module _ (other : ℕ → Table) (also : IsDefinition other) (own : HasOwn schema other) where
    abbrev its : Table
    its = other own.tree

    under : its.tree < next_tree schema
    under = found_is (λ t. t.tree < next_tree schema) (λ t. t.tree == its.tree) schema.tables its below own.has.alone

    apart : (made.tree == its.tree) ≡ false
    apart = rw (tree_in table defined (next_tree schema)) (differ_back its.tree (next_tree schema) under)

    ref_kept : (ref : Reference) → is_in its.tree (find (λ t. same_name t.name ref.parent) schema.tables) ≡ false → is_in its.tree (find (λ t. same_name t.name ref.parent) (schema.tables ++ made ∷ [])) ≡ false
    ref_kept ref e = leads_elsewhere its.tree (λ t. same_name t.name ref.parent) schema.tables made apart (find (λ t. same_name t.name ref.parent) schema.tables) refl e

    child_kept : (child : Table) → Leads its.tree schema.tables child → Leads its.tree (schema.tables ++ made ∷ []) child
    child_kept child h =
        weaker (λ (ref : Reference). is_in its.tree (find (λ t. same_name t.name ref.parent) schema.tables) ≡ false) (λ (ref : Reference). is_in its.tree (find (λ t. same_name t.name ref.parent) (schema.tables ++ made ∷ [])) ≡ false)
        ref_kept child.references h

    still_unreferred : AllByRecursion (Leads its.tree (schema.tables ++ made ∷ [])) (schema.tables ++ made ∷ [])
    still_unreferred =
        all_join (Leads its.tree (schema.tables ++ made ∷ [])) schema.tables (made ∷ [])
        (weaker (Leads its.tree schema.tables) (Leads its.tree (schema.tables ++ made ∷ [])) child_kept schema.tables own.has.unreferred)
        (leads_from_made its.tree (schema.tables ++ made ∷ []), tt)

    still_keyed : AllByRecursion (λ index. is_further_key its index ≡ false) (schema.indexes ++ keys_of made (next_tree schema + 1))
    still_keyed = all_join (λ index. is_further_key its index ≡ false) schema.indexes (keys_of made (next_tree schema + 1)) own.keyed (other_keys made (next_tree schema + 1) its apart)

    still_only : filter (λ t. t.tree == own.tree) (schema.tables ++ made ∷ []) ≡ its ∷ []
    still_only =
        let e : (made.tree == own.tree) ≡ false = rw (← tree_in other also own.tree) apart in
        filter-append (λ t. t.tree == own.tree) schema.tables (made ∷ []) ∙ rw (own.only, e) refl

    pub kept_own : HasOwn (created schema (table 0)) other
    kept_own = subst (λ s. HasOwn s other) (made_is schema table defined) (record {
      at = own.at;
      tree = own.tree;
      has = record {
        named = position_before (λ t. same_name t.name its.name) 0 schema.tables (made ∷ []) own.at own.has.named;
        is = slice_before schema.tables (made ∷ []) own.at its own.has.is;
        alone = find_before (λ t. t.tree == its.tree) schema.tables (made ∷ []) its own.has.alone;
        stored = own.has.stored;
        unreferred = still_unreferred;
      };
      only = still_only;
      keyed = still_keyed;
    })

-- ---- room for the others

abbrev is_apart : List (List ℕ) → List ℕ → Bool
is_apart names name = not (list_any (λ own. same_name own name) names)

neither : (a b : Bool) → (a || b) ≡ false → (a ≡ false) × (b ≡ false)
neither false b h = (refl, h)
neither true b h = absurd (let e = h in cc)

not_true : (b : Bool) → not b ≡ true → b ≡ false
not_true false h = refl
not_true true h = absurd (let e = h in cc)

both_true : (a b : Bool) → (a && b) ≡ true → (a ≡ true) × (b ≡ true)
both_true true b h = (refl, h)
both_true false b h = absurd (let e = h in cc)

all_pass : {X : Type 0} (p : X → Bool) (xs : List X) → list_all p xs ≡ true → AllByRecursion (λ x. p x ≡ true) xs
all_pass p [] h = tt
all_pass p (x ∷ xs) h = let both = both_true (p x) (list_all p xs) h in (both.0, all_pass p xs both.1)

joined : {X Y : Type 0} (f : X → Y) (P : Y → Type 0) (Q R : X → Type 0) → ((x : X) → P (f x) → Q x → R x) → (xs : List X) → AllByRecursion P (map f xs) → AllByRecursion Q xs → AllByRecursion R xs
joined f P Q R so [] a b = tt
joined f P Q R so (x ∷ xs) a b = (so x a.0 b.0, joined f P Q R so xs a.1 b.1)

module _ (schema : Schema) (table : ℕ → Table) (defined : IsDefinition table) where
  -- its keys are the same in each tree
  same_keys : (n : ℕ) → (table n).uniques ≡ (table 0).uniques
  same_keys n = ap (λ (t : Table). t.uniques) (defined.same n)

  free_still : (name : List ℕ) → is_apart (names_of (table 0)) name ≡ true → is_used schema name ≡ false → is_used (with_made schema table) name ≡ false
  free_still name other free =
      let made = table (next_tree schema) in
      let none = none_passes (λ own. same_name own name) (names_of (table 0)) (not_true (list_any (λ own. same_name own name) (names_of (table 0))) other) in
      let mine : same_name (table (next_tree schema)).name name ≡ false = ap (λ n. same_name n name) (name_in table defined (next_tree schema)) ∙ none.0 in
      let keys : AllByRecursion (λ (i : Index). same_name i.name name ≡ false) (keys_of (table (next_tree schema)) (next_tree schema + 1)) =
      subst (λ uniques. AllByRecursion (λ (i : Index). same_name i.name name ≡ false) (automatics (table (next_tree schema)) 0 (next_tree schema + 1) uniques)) (sym (same_keys (next_tree schema)))
      (keys_named (table 0) (table (next_tree schema)) (sym (name_in table defined (next_tree schema))) (λ own. same_name own name ≡ false) 0 0 (next_tree schema + 1) (table 0).uniques none.1) in
      let t : table_named (with_made schema table) name ≡ None = position_none (λ t. same_name t.name name) 0 schema.tables (table (next_tree schema) ∷ []) (no_table schema name free) (mine, tt) in
      let i : index_named (with_made schema table) name ≡ None = position_none (λ (i : Index). same_name i.name name) 0 schema.indexes (keys_of (table (next_tree schema)) (next_tree schema + 1)) (no_index schema name free) keys in
      let v : view_named schema name ≡ None = no_view schema name free in
      rw (t, i, v) refl

  pub unused_still : (name : List ℕ) → list_any (λ own. same_name own name) (names_of (table 0)) ≡ false → is_used schema name ≡ false → is_used (created schema (table 0)) name ≡ false
  unused_still name apart free = subst (λ s. is_used s name ≡ false) (made_is schema table defined) (free_still name (ap not apart) free)

  unreferred_still : (name : List ℕ) → is_referred schema name ≡ false → is_referred (with_made schema table) name ≡ false
  unreferred_still name free =
      list_any-append (λ child. list_any (λ (ref : Reference). same_name name ref.parent) child.references) schema.tables (table (next_tree schema) ∷ []) ∙ rw (free, no_references table defined (next_tree schema)) refl

  pub room_kept : (other : Table) → are_named_apart (table 0) other ≡ true → LeavesRoom schema other → LeavesRoom (created schema (table 0)) other
  room_kept other names room =
      let apart = all_pass (is_apart (names_of (table 0))) (names_of other) names in
      subst (λ s. LeavesRoom s other) (made_is schema table defined) (record {
        unused = free_still other.name apart.0 room.unused;
        unreferred = unreferred_still other.name room.unreferred;
        unindexed = joined (λ (i : Index). i.name) (λ name. is_apart (names_of (table 0)) name ≡ true) (λ (i : Index). is_used schema i.name ≡ false) (λ (i : Index). is_used (with_made schema table) i.name ≡ false)
            (λ i a f. free_still i.name a f)
            (automatics other 0 0 other.uniques) apart.1 room.unindexed;
      })

-- ---- the tables of schema 1

pub store_defined : (t : StoreTable) → IsDefinition (table_of t)
store_defined Mark = record { same = λ n. refl; unreferring = refl; keyed = λ n m. tt }
store_defined Item = record { same = λ n. refl; unreferring = refl; keyed = λ n m. (rw (is_itself n) refl, tt) }
store_defined Member = record { same = λ n. refl; unreferring = refl; keyed = λ n m. (rw (is_itself n) refl, (rw (is_itself n) refl, tt)) }
store_defined Edition = record { same = λ n. refl; unreferring = refl; keyed = λ n m. tt }
store_defined Entry = record { same = λ n. refl; unreferring = refl; keyed = λ n m. (rw (is_itself n) refl, tt) }
store_defined Kept = record { same = λ n. refl; unreferring = refl; keyed = λ n m. (rw (is_itself n) refl, (rw (is_itself n) refl, tt)) }

pub store_apart : (w o : StoreTable) → (w ≡ o → ⊥) → are_named_apart (table_of w 0) (table_of o 0) ≡ true
unfolding same_name
store_apart Mark Mark other = absurd (other refl)
store_apart Mark Item other = refl
store_apart Mark Member other = refl
store_apart Mark Edition other = refl
store_apart Mark Entry other = refl
store_apart Mark Kept other = refl
store_apart Item Mark other = refl
store_apart Item Item other = absurd (other refl)
store_apart Item Member other = refl
store_apart Item Edition other = refl
store_apart Item Entry other = refl
store_apart Item Kept other = refl
store_apart Member Mark other = refl
store_apart Member Item other = refl
store_apart Member Member other = absurd (other refl)
store_apart Member Edition other = refl
store_apart Member Entry other = refl
store_apart Member Kept other = refl
store_apart Edition Mark other = refl
store_apart Edition Item other = refl
store_apart Edition Member other = refl
store_apart Edition Edition other = absurd (other refl)
store_apart Edition Entry other = refl
store_apart Edition Kept other = refl
store_apart Entry Mark other = refl
store_apart Entry Item other = refl
store_apart Entry Member other = refl
store_apart Entry Edition other = refl
store_apart Entry Entry other = absurd (other refl)
store_apart Entry Kept other = refl
store_apart Kept Mark other = refl
store_apart Kept Item other = refl
store_apart Kept Member other = refl
store_apart Kept Edition other = refl
store_apart Kept Entry other = refl
store_apart Kept Kept other = absurd (other refl)

-- ---- room for all is room for each

six : (a b c d e f g h : Bool) → (a || b || c || d || e || f || g || h) ≡ false → (a ≡ false) × (b ≡ false) × (c ≡ false) × (d ≡ false) × (e ≡ false) × (f ≡ false)
six a b c d e f g h none =
    let n7 = neither (a || b || c || d || e || f || g) h none in
    let n6 = neither (a || b || c || d || e || f) g n7.0 in
    let n5 = neither (a || b || c || d || e) f n6.0 in
    let n4 = neither (a || b || c || d) e n5.0 in
    let n3 = neither (a || b || c) d n4.0 in
    let n2 = neither (a || b) c n3.0 in
    let n1 = neither a b n2.0 in
    (n1.0, n1.1, n2.1, n3.1, n4.1, n5.1)

all_six : (a b c d e f : Bool) → (a || b || c || d || e || f) ≡ false → (a ≡ false) × (b ≡ false) × (c ≡ false) × (d ≡ false) × (e ≡ false) × (f ≡ false)
all_six a b c d e f none =
    let n5 = neither (a || b || c || d || e) f none in
    let n4 = neither (a || b || c || d) e n5.0 in
    let n3 = neither (a || b || c) d n4.0 in
    let n2 = neither (a || b) c n3.0 in
    let n1 = neither a b n2.0 in
    (n1.0, n1.1, n2.1, n3.1, n4.1, n5.1)

module _ (schema : Schema) (room : HasRoom schema) where
  names : (is_used schema (codes "mark") ≡ false) × (is_used schema (codes "item") ≡ false) × (is_used schema (codes "member") ≡ false) × (is_used schema (codes "edition") ≡ false) × (is_used schema (codes "entry") ≡ false)
      × (is_used schema (codes "kept") ≡ false)
  names = six (is_used schema (codes "mark")) (is_used schema (codes "item")) (is_used schema (codes "member")) (is_used schema (codes "edition")) (is_used schema (codes "entry")) (is_used schema (codes "kept"))
      (is_used schema (codes "word")) (is_used schema (codes "gram")) room.unused

  referred : (is_referred schema (codes "mark") ≡ false) × (is_referred schema (codes "item") ≡ false) × (is_referred schema (codes "member") ≡ false) × (is_referred schema (codes "edition") ≡ false)
      × (is_referred schema (codes "entry") ≡ false) × (is_referred schema (codes "kept") ≡ false)
  referred = six (is_referred schema (codes "mark")) (is_referred schema (codes "item")) (is_referred schema (codes "member")) (is_referred schema (codes "edition")) (is_referred schema (codes "entry"))
      (is_referred schema (codes "kept")) (is_referred schema (codes "word")) (is_referred schema (codes "gram")) room.unreferred

  indexes : (is_used schema (codes "sqlite_autoindex_item_1") ≡ false) × (is_used schema (codes "sqlite_autoindex_member_1") ≡ false) × (is_used schema (codes "sqlite_autoindex_member_2") ≡ false)
      × (is_used schema (codes "sqlite_autoindex_entry_1") ≡ false) × (is_used schema (codes "sqlite_autoindex_kept_1") ≡ false) × (is_used schema (codes "sqlite_autoindex_kept_2") ≡ false)
  indexes = all_six (is_used schema (codes "sqlite_autoindex_item_1")) (is_used schema (codes "sqlite_autoindex_member_1")) (is_used schema (codes "sqlite_autoindex_member_2")) (is_used schema (codes "sqlite_autoindex_entry_1"))
      (is_used schema (codes "sqlite_autoindex_kept_1")) (is_used schema (codes "sqlite_autoindex_kept_2")) room.unindexed

  pub room_for : (o : StoreTable) → LeavesRoom schema (table_of o 0)
  unfolding digits
  room_for Mark = record { unused = names.0; unreferred = referred.0; unindexed = tt }
  room_for Item = record { unused = names.1; unreferred = referred.1; unindexed = (indexes.0, tt) }
  room_for Member = record { unused = names.2; unreferred = referred.2; unindexed = (indexes.1, (indexes.2, tt)) }
  room_for Edition = record { unused = names.3; unreferred = referred.3; unindexed = tt }
  room_for Entry = record { unused = names.4; unreferred = referred.4; unindexed = (indexes.3, tt) }
  room_for Kept = record { unused = names.5; unreferred = referred.5; unindexed = (indexes.4, (indexes.5, tt)) }
