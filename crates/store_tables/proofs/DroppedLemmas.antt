-- A schema from which a table was dropped has the others that it had, and room for that table.
use Rattle.std.proofs.Common.{◌≡◌, ◌==◌, ◌+◌, ℕ, List, [], ◌∷◌, filter, find, not, Bool, true, false, ◌&&◌, codes, is_some, Option, Some, None, slice_get, inl, inr, refl, sym, ap, subst, ◌∙◌, arith}
use Rattle.std.proofs.lemmas.Bool.{cases_Bool}
use Rattle.std.specs.List.{AllByRecursion, position_from, list_any}
use Rattle.sqlite.specs.Schema.{Schema}
use Rattle.sqlite.specs.Table.{Table}
use Rattle.sqlite.specs.Change.{without_table, is_used, automatics}
use Rattle.sqlite.specs.Does.{lacks_sequence}
use Rattle.sqlite_schema.specs.Names.{table_named, index_named, view_named, same_name}
use Rattle.sqlite_schema.specs.declared.schema.Reference.{Reference}
use Rattle.sqlite_schema.specs.declared.schema.Index.{Index}
use Rattle.store_tables.proofs.KitLemmas.{no_table, no_index, no_view, same_itself}
use Rattle.store_tables.specs.Definitions.{IsDefinition}
use Rattle.store_tables.specs.Found.{HasOwn, is_in, is_further_key}
use Rattle.store_tables.specs.Room.{LeavesRoom, is_referred}
use Rattle.store_tables.proofs.PlaceLemmas.{found}
use Rattle.store_tables.proofs.FoundLemmas.{weaker, none_passes, passes_none, place_of}
use Rattle.store_tables.proofs.NameLemmas.{not_parent}
use Rattle.store_tables.proofs.MadeLemmas.{name_in, tree_in}

-- ---- lists from which some are gone

module _ {X : Type 0} (q : X → Bool) where
  pub all_left : (P : X → Type 0) (xs : List X) → AllByRecursion P xs → AllByRecursion P (filter q xs)
  all_left P [] all = tt
  all_left P (x ∷ xs) all = elim (cases_Bool (q x)) [ inl left ↦ rw left (all.0, all_left P xs all.1) | inr gone ↦ rw gone (all_left P xs all.1) ]

  find_left : (p : X → Bool) (xs : List X) (x : X) → find p xs ≡ Some x → q x ≡ true → find p (filter q xs) ≡ Some x
  find_left p [] x is stays = absurd (let e = is in cc)
  find_left p (y ∷ xs) x is stays = elim (cases_Bool (p y)) [
    | inl hit ↦ (let e = rw hit at is in let same : y ≡ x = cc in let left : q y ≡ true = ap q same ∙ stays in rw left (rw hit (ap Some same)))
    | inr miss ↦ elim (cases_Bool (q y)) [ inl left ↦ rw left (rw miss (find_left p xs x (rw miss at is) stays)) | inr gone ↦ rw gone (find_left p xs x (rw miss at is) stays) ]
  ]

  filter_left : (p : X → Bool) → ((x : X) → p x ≡ true → q x ≡ true) → (xs : List X) → filter p (filter q xs) ≡ filter p xs
  filter_left p stays [] = refl
  filter_left p stays (x ∷ xs) = elim (cases_Bool (p x)) [
    | inl hit ↦ (let left = stays x hit in rw left (rw hit (ap (λ l. x ∷ l) (filter_left p stays xs))))
    | inr miss ↦ elim (cases_Bool (q x)) [ inl left ↦ rw (left, miss) (filter_left p stays xs) | inr gone ↦ rw (gone, miss) (filter_left p stays xs) ]
  ]

  pub none_left : (p : X → Bool) (n m : ℕ) (xs : List X) → position_from p n xs ≡ None → position_from p m (filter q xs) ≡ None
  none_left p n m [] none = refl
  none_left p n m (x ∷ xs) none = elim (cases_Bool (p x)) [
    | inl hit ↦ absurd (let e = rw hit at none in cc)
    | inr miss ↦ elim (cases_Bool (q x)) [ inl left ↦ rw left (rw miss (none_left p (n + 1) (m + 1) xs (rw miss at none))) | inr gone ↦ rw gone (none_left p (n + 1) m xs (rw miss at none)) ]
  ]

  none_passing : (p : X → Bool) (n : ℕ) (xs : List X) → AllByRecursion (λ x. p x ≡ true → q x ≡ false) xs → position_from p n (filter q xs) ≡ None
  none_passing p n [] all = refl
  none_passing p n (x ∷ xs) all = elim (cases_Bool (q x)) [
    | inl left ↦ elim (cases_Bool (p x)) [ inl hit ↦ absurd (let both : true ≡ false = sym left ∙ all.0 hit in cc) | inr miss ↦ rw left (rw miss (none_passing p (n + 1) xs all.1)) ]
    | inr gone ↦ rw gone (none_passing p n xs all.1)
  ]

-- ---- where a foreign key leads

leads_nowhere : (tree : ℕ) (p : Table → Bool) (ts : List Table) → filter (λ t. t.tree == tree) ts ≡ [] → is_in tree (find p ts) ≡ false
leads_nowhere tree p [] none = refl
leads_nowhere tree p (t ∷ ts) none = elim (cases_Bool (t.tree == tree)) [
  | inl here ↦ absurd (let e = rw here at none in cc)
  | inr away ↦ elim (cases_Bool (p t)) [ inl hit ↦ rw hit away | inr miss ↦ rw miss (leads_nowhere tree p ts (rw away at none)) ]
]

leads_past : (tree : ℕ) (p : Table → Bool) (ts : List Table) (it : Table) → filter (λ t. t.tree == tree) ts ≡ it ∷ [] → p it ≡ false → is_in tree (find p ts) ≡ false
leads_past tree p [] it only other = refl
leads_past tree p (t ∷ ts) it only other = elim (cases_Bool (t.tree == tree)) [
  | inl here ↦ (let e = rw here at only in let same : t ≡ it = cc in let miss : p t ≡ false = ap p same ∙ other in let rest : filter (λ t. t.tree == tree) ts ≡ [] = cc in rw miss (leads_nowhere tree p ts rest))
  | inr away ↦ elim (cases_Bool (p t)) [ inl hit ↦ rw hit away | inr miss ↦ rw miss (leads_past tree p ts it (rw away at only) other) ]
]

-- ---- the table that goes

not_it : (n tree : ℕ) → (n == tree) ≡ false → not (n == tree) ≡ true
not_it n tree other = rw other refl

module _ (schema : Schema) (table : ℕ → Table) (defined : IsDefinition table) (own : HasOwn schema table) where
  abbrev left : Schema
  left = without_table schema own.tree

  abbrev stays : Table → Bool
  stays t = not (t.tree == own.tree)

  -- no foreign key names it
  unnamed : (ref : Reference) → is_in (table own.tree).tree (find (λ t. same_name t.name ref.parent) schema.tables) ≡ false → same_name (table 0).name ref.parent ≡ false
  unnamed ref out = subst (λ name. same_name name ref.parent ≡ false) (name_in table defined own.tree) (not_parent schema own.at (table own.tree) own.has ref out)

  pub dropped_unreferred : is_referred left (table 0).name ≡ false
  dropped_unreferred =
      passes_none (λ child. list_any (λ (ref : Reference). same_name (table 0).name ref.parent) child.references) (filter stays schema.tables)
      (all_left stays (λ child. list_any (λ (ref : Reference). same_name (table 0).name ref.parent) child.references ≡ false) schema.tables
      (weaker (λ child. AllByRecursion (λ (ref : Reference). is_in (table own.tree).tree (find (λ t. same_name t.name ref.parent) schema.tables) ≡ false) child.references)
      (λ child. list_any (λ (ref : Reference). same_name (table 0).name ref.parent) child.references ≡ false)
      (λ child h. passes_none (λ (ref : Reference). same_name (table 0).name ref.parent) child.references
      (weaker (λ (ref : Reference). is_in (table own.tree).tree (find (λ t. same_name t.name ref.parent) schema.tables) ≡ false) (λ (ref : Reference). same_name (table 0).name ref.parent ≡ false) unnamed child.references h))
      schema.tables own.has.unreferred))

  -- what had no name that is in use has none
  pub free_left : (name : List ℕ) → is_used schema name ≡ false → is_used left name ≡ false
  free_left name free =
      let t : table_named left name ≡ None = none_left stays (λ t. same_name t.name name) 0 0 schema.tables (no_table schema name free) in
      let i : index_named left name ≡ None = none_left (λ (i : Index). not (i.table == own.tree)) (λ (i : Index). same_name i.name name) 0 0 schema.indexes (no_index schema name free) in
      let v : view_named schema name ≡ None = no_view schema name free in
      rw (t, i, v) refl

  -- and what was the name of its own indexes alone has none
  pub freed_left : (name : List ℕ) → table_named schema name ≡ None → view_named schema name ≡ None → AllByRecursion (λ (i : Index). same_name i.name name ≡ true → i.table ≡ own.tree) schema.indexes → is_used left name ≡ false
  freed_left name table view mine =
      let t : table_named left name ≡ None = none_left stays (λ t. same_name t.name name) 0 0 schema.tables table in
      let i : index_named left name ≡ None = none_passing (λ (i : Index). not (i.table == own.tree)) (λ (i : Index). same_name i.name name) 0 schema.indexes
      (weaker (λ (i : Index). same_name i.name name ≡ true → i.table ≡ own.tree) (λ (i : Index). same_name i.name name ≡ true → not (i.table == own.tree) ≡ false) (λ i over hit. its_own i.table (over hit)) schema.indexes mine) in
      rw (t, i, view) refl
    where
      its_own : (n : ℕ) → n ≡ own.tree → not (n == own.tree) ≡ false
      its_own n is = let e : (n == own.tree) ≡ true = search arith in rw e refl

  -- ---- no table waits for its counter

  abbrev counts : Table → Bool
  counts t = t.is_counted

  abbrev is_counter : Table → Bool
  is_counter t = same_name t.name (codes "sqlite_sequence")

  lacks_by_name : (s : Schema) → lacks_sequence s ≡ (list_any counts s.tables && not (is_some (find is_counter s.tables)))
  lacks_by_name s = ap (λ (o : Option Table). list_any counts s.tables && not (is_some o)) (found is_counter s.tables)

  pub counted_left : same_name (table 0).name (codes "sqlite_sequence") ≡ false → lacks_sequence schema ≡ false → lacks_sequence left ≡ false
  counted_left other lacks = lacks_by_name left ∙ by (find is_counter schema.tables) refl
    where
      and_false : (a : Bool) → (a && false) ≡ false
      and_false true = refl
      and_false false = refl

      and_true : (a : Bool) → (a && true) ≡ a
      and_true true = refl
      and_true false = refl

      only_own : filter (λ t. t.tree == own.tree) schema.tables ≡ table own.tree ∷ []
      only_own = own.only

      by : (o : Option Table) → find is_counter schema.tables ≡ o → (list_any counts (filter stays schema.tables) && not (is_some (find is_counter (filter stays schema.tables)))) ≡ false
      by (Some s) is =
          let miss : is_counter (table own.tree) ≡ false = ap (λ n. same_name n (codes "sqlite_sequence")) (name_in table defined own.tree) ∙ other in
          let away : (s.tree == own.tree) ≡ false = subst (λ o. is_in own.tree o ≡ false) is (leads_past own.tree is_counter schema.tables (table own.tree) only_own miss) in
          rw (find_left stays is_counter schema.tables s is (not_it s.tree own.tree away)) (and_false _)
      by None is =
          let any : list_any counts schema.tables ≡ false = sym (and_true (list_any counts schema.tables)) ∙ sym (ap (λ (o : Option Table). list_any counts schema.tables && not (is_some o)) is) ∙ sym (lacks_by_name schema) ∙ lacks in
          rw (passes_none counts (filter stays schema.tables) (all_left stays (λ t. counts t ≡ false) schema.tables (none_passes counts schema.tables any))) refl

  unreferred_left : (name : List ℕ) → is_referred schema name ≡ false → is_referred left name ≡ false
  unreferred_left name free = passes_none (λ child. list_any (λ (ref : Reference). same_name name ref.parent) child.references) (filter stays schema.tables) (all_left stays _ schema.tables (none_passes _ schema.tables free))

  pub dropped_room : (other : Table) → LeavesRoom schema other → LeavesRoom left other
  dropped_room other room = record {
    unused = free_left other.name room.unused;
    unreferred = unreferred_left other.name room.unreferred;
    unindexed = weaker (λ (i : Index). is_used schema i.name ≡ false) (λ (i : Index). is_used left i.name ≡ false) (λ i free. free_left i.name free) (automatics other 0 0 other.uniques) room.unindexed;
  }

  -- ---- and those that stay

  module _ (other : ℕ → Table) (also : IsDefinition other) (apart : same_name (other 0).name (table 0).name ≡ false) (its : HasOwn schema other) where
    abbrev it : Table
    it = other its.tree

    -- they are in two trees
    two : (its.tree == own.tree) ≡ false
    two = elim (cases_Bool (its.tree == own.tree)) [
      | inl same ↦ absurd (
          let trees : its.tree ≡ own.tree = search arith in
          let both : it ∷ [] ≡ table own.tree ∷ [] = sym its.only ∙ ap (λ (n : ℕ). filter (λ t. t.tree == n) schema.tables) trees ∙ own.only in
          let one : it ≡ table own.tree = cc in
          let name : (other 0).name ≡ (table 0).name = sym (name_in other also its.tree) ∙ ap (λ (t : Table). t.name) one ∙ name_in table defined own.tree in
          let e : same_name (table 0).name (table 0).name ≡ false = subst (λ n. same_name n (table 0).name ≡ false) name apart in
          let is = same_itself (table 0).name in
          cc)
      | inr other' ↦ other'
    ]

    it_stays : stays it ≡ true
    it_stays = let e : it.tree ≡ its.tree = tree_in other also its.tree in rw e (not_it its.tree own.tree two)

    only_left : filter (λ t. t.tree == its.tree) (filter stays schema.tables) ≡ it ∷ []
    only_left = filter_left stays (λ t. t.tree == its.tree) in_it schema.tables ∙ its.only
      where
        in_it : (t : Table) → (t.tree == its.tree) ≡ true → stays t ≡ true
        in_it t here = let e : t.tree ≡ its.tree = search arith in rw e (not_it its.tree own.tree two)

    named_it : find (λ t. same_name t.name it.name) schema.tables ≡ Some it
    named_it = let named = its.has.named in let is = its.has.is in sym (found (λ t. same_name t.name it.name) schema.tables) ∙ rw (named, is) refl

    -- it is found by its name
    pub still_found : find (λ t. same_name t.name (other 0).name) left.tables ≡ Some it
    still_found = subst (λ n. find (λ t. same_name t.name n) (filter stays schema.tables) ≡ Some it) (name_in other also its.tree) (find_left stays (λ t. same_name t.name it.name) schema.tables it named_it it_stays)

    place : (at : ℕ) × (table_named left it.name ≡ Some at) × (slice_get (filter stays schema.tables) at ≡ Some it)
    place = place_of (filter stays schema.tables) (table_named left it.name) it
        (found (λ t. same_name t.name it.name) (filter stays schema.tables) ∙ find_left stays (λ t. same_name t.name it.name) schema.tables it named_it it_stays)

    only_in : filter (λ t. t.tree == it.tree) (filter stays schema.tables) ≡ it ∷ []
    only_in = subst (λ n. filter (λ t. t.tree == n) (filter stays schema.tables) ≡ it ∷ []) (sym (tree_in other also its.tree)) only_left

    ref_left : (ref : Reference) → is_in it.tree (find (λ t. same_name t.name ref.parent) schema.tables) ≡ false → is_in it.tree (find (λ t. same_name t.name ref.parent) (filter stays schema.tables)) ≡ false
    ref_left ref out = leads_past it.tree (λ t. same_name t.name ref.parent) (filter stays schema.tables) it only_in (not_parent schema its.at it its.has ref out)

    pub dropped_own : HasOwn left other
    dropped_own = record {
      at = place.0;
      tree = its.tree;
      has = record {
        named = place.1;
        is = place.2;
        alone = find_left stays (λ t. t.tree == it.tree) schema.tables it its.has.alone it_stays;
        stored = its.has.stored;
        unreferred = all_left stays (λ child. AllByRecursion (λ (ref : Reference). is_in it.tree (find (λ t. same_name t.name ref.parent) (filter stays schema.tables)) ≡ false) child.references) schema.tables
            (weaker (λ child. AllByRecursion (λ (ref : Reference). is_in it.tree (find (λ t. same_name t.name ref.parent) schema.tables) ≡ false) child.references)
            (λ child. AllByRecursion (λ (ref : Reference). is_in it.tree (find (λ t. same_name t.name ref.parent) (filter stays schema.tables)) ≡ false) child.references)
            (λ child h. weaker (λ (ref : Reference). is_in it.tree (find (λ t. same_name t.name ref.parent) schema.tables) ≡ false)
            (λ (ref : Reference). is_in it.tree (find (λ t. same_name t.name ref.parent) (filter stays schema.tables)) ≡ false) ref_left child.references h) schema.tables its.has.unreferred);
      };
      only = only_left;
      keyed = all_left (λ (i : Index). not (i.table == own.tree)) (λ index. is_further_key it index ≡ false) schema.indexes its.keyed;
    }
