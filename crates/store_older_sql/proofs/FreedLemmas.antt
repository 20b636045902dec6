-- What a dropped table frees.
use Rattle.std.proofs.Common.{◌≡◌, ◌==◌, ◌&&◌, ◌||◌, ◌+◌, ℕ, zero, suc, Bool, true, false, not, List, [], ◌∷◌, map, filter, Some, slice_get, refl, sym, ap, subst, ◌∙◌, inl, inr, arith}
use Rattle.std.proofs.lemmas.Bool.{cases_Bool, or_parts, or_cases, or_from, or_left, or_right}
use Rattle.std.specs.List.{AllByRecursion, list_any}
use Rattle.sqlite.specs.Effect.{Database, IsDatabase}
use Rattle.sqlite.specs.Schema.{Schema}
use Rattle.sqlite.specs.Table.{Table}
use Rattle.sqlite.specs.Change.{is_used, automatics, without_table}
use Rattle.sqlite_rules.specs.Lists.{Has}
use Rattle.sqlite_rules.proofs.ListLemmas.{has_got, has_kept, has_filtered, some_has, some_from, all_has}
use Rattle.sqlite_schema.specs.Names.{same_name}
use Rattle.sqlite_schema.specs.declared.schema.Index.{Index}
use Rattle.sqlite_schema.specs.declared.schema.View.{View as Stored}
use Rattle.sqlite_catalog.specs.Listing.{automatic, IsGuarded}
use Rattle.sqlite_catalog.proofs.StepLemmas.{named_once, same_itself}
use Rattle.store_tables.specs.Definitions.{IsDefinition, names_of}
use Rattle.store_tables.specs.Found.{HasOwn}
use Rattle.store_tables.specs.Room.{LeavesRoom, is_referred}
use Rattle.store_tables.proofs.MadeLemmas.{name_in, tree_in}
use Rattle.store_older_sql.specs.Drops.{IsDropped}
use Rattle.store_older_sql.proofs.DroppedLemmas.{own_in, drop_unreferred}
use Rattle.store_tables.specs.OwnNames.{is_own_name}
use Rattle.store_older_sql.proofs.ApartLemmas.{any_none, same_through, other_through, listed, table_index, table_view, index_view, index_index}
use Rattle.store_tables.proofs.UsedLemmas.{in_lists, used_is, gone_any, kept_any, none_any, any_map, and_false, and_true}

equal_is : (n m : ℕ) → (n == m) ≡ true → n ≡ m
equal_is n m e = search arith

is_equal : (n m : ℕ) → n ≡ m → (n == m) ≡ true
is_equal n m e = search arith

not_false : (b : Bool) → not b ≡ false → b ≡ true
not_false true e = refl
not_false false e = absurd (let h = e in cc)

gone_is : (b : Bool) → b ≡ true → not b ≡ false
gone_is b e = ap not e

module _ (db : Database) (whole : IsDatabase db) (table : ℕ → Table) (defined : IsDefinition table) (own : HasOwn db.schema table) where
  abbrev it : Table
  it = table own.tree

  abbrev over : Index → Bool
  over i = i.table == it.tree

  pub has_it : Has db.schema.tables it
  has_it = has_got db.schema.tables own.at it own.has.is

  pub only_it : (t : Table) → Has db.schema.tables t → (t.tree == it.tree) ≡ true → t ≡ it
  only_it t h here =
      let all : filter (λ (o : Table). o.tree == it.tree) db.schema.tables ≡ it ∷ [] = subst (λ n. filter (λ (o : Table). o.tree == n) db.schema.tables ≡ it ∷ []) (sym (tree_in table defined own.tree)) own.only in
      let there = subst (λ (l : List Table). Has l t) all (has_kept (λ (o : Table). o.tree == it.tree) db.schema.tables t h here) in
      elim there [ inl same ↦ same | inr none ↦ absurd none ]

  -- the names that it has, told by the lists
  pub own_is : (name : List ℕ) → is_own_name db.schema it name ≡ (same_name it.name name || list_any (λ (i : Index). same_name i.name name) (filter over db.schema.indexes))
  own_is name = ap (λ b. same_name it.name name || b) (any_map (λ (i : Index). i.name) (λ n. same_name n name) (filter over db.schema.indexes))

  abbrev left : Schema
  left = without_table db.schema it.tree

  abbrev stays : Table → Bool
  stays t = not (t.tree == it.tree)

  abbrev stays_over : Index → Bool
  stays_over i = not (i.table == it.tree)

  module _ (name : List ℕ) where
    abbrev Ends : Type 0
    Ends = in_lists name (filter stays db.schema.tables) (filter stays_over db.schema.indexes) db.schema.views ≡ false

    by_table : same_name it.name name ≡ true → Ends
    by_table hit =
        or_from _ _ (or_from _ _
        (gone_any (λ (t : Table). same_name t.name name) stays db.schema.tables (λ t h same.
        gone_is _ (is_equal t.tree it.tree (ap (λ (u : Table). u.tree) (named_once db.schema.tables t it (listed db whole).named h has_it (same_through t.name it.name name same hit))))))
        (gone_any (λ (i : Index). same_name i.name name) stays_over db.schema.indexes (λ i h same. absurd (let e = same_through it.name i.name name hit same in let both : true ≡ false = sym e ∙ table_index db whole it i has_it h in cc))))
        (none_any (λ (w : Stored). same_name w.name name) db.schema.views (λ w h. other_through it.name w.name name hit (table_view db whole it w has_it h)))

    by_index : (i : Index) → Has db.schema.indexes i → i.table ≡ it.tree → same_name i.name name ≡ true → Ends
    by_index i k mine hit =
        or_from _ _ (or_from _ _
        (gone_any (λ (t : Table). same_name t.name name) stays db.schema.tables (λ t h same. absurd (let e = same_through t.name i.name name same hit in let both : true ≡ false = sym e ∙ table_index db whole t i h k in cc)))
        (gone_any (λ (j : Index). same_name j.name name) stays_over db.schema.indexes (λ j h same. elim (cases_Bool (j.table == it.tree)) [
          | inl its ↦ gone_is _ its
          | inr away ↦ absurd (
              let e = same_through i.name j.name name hit same in
              let other : same_name i.name j.name ≡ false = index_index db whole i j k h (λ tables. let is : (j.table == it.tree) ≡ true = is_equal j.table it.tree (sym tables ∙ mine) in let both : true ≡ false = sym is ∙ away in cc) in
              let both : true ≡ false = sym e ∙ other in cc)
        ])))
        (none_any (λ (w : Stored). same_name w.name name) db.schema.views (λ w h. other_through i.name w.name name hit (index_view db whole i w k h)))

    ended : is_own_name db.schema it name ≡ true → Ends
    ended mine = elim (or_cases _ _ (sym (own_is name) ∙ mine)) [
      | inl hit ↦ by_table hit
      | inr some ↦ (let i = some_has (λ (i : Index). same_name i.name name) (filter over db.schema.indexes) some in let within = has_filtered over db.schema.indexes i.0 i.1 in by_index i.0 within.0 (equal_is i.0.table it.tree within.1) i.2)
    ]

    same : is_own_name db.schema it name ≡ false → in_lists name (filter stays db.schema.tables) (filter stays_over db.schema.indexes) db.schema.views ≡ in_lists name db.schema.tables db.schema.indexes db.schema.views
    same other =
        let p = or_parts _ _ (sym (own_is name) ∙ other) in
        let t = kept_any (λ (t : Table). same_name t.name name) stays db.schema.tables (λ t h gone. ap (λ (u : Table). same_name u.name name) (only_it t h (not_false _ gone)) ∙ p.0) in
        let i = kept_any (λ (i : Index). same_name i.name name) stays_over db.schema.indexes
        (λ i h gone. any_none (λ (j : Index). same_name j.name name) (filter over db.schema.indexes) i p.1 (has_kept over db.schema.indexes i h (not_false _ gone))) in
        rw (t, i) refl

    pub left_used : is_used left name ≡ (is_used db.schema name && not (is_own_name db.schema it name))
    left_used = elim (cases_Bool (is_own_name db.schema it name)) [
      | inl mine ↦ used_is left name ∙ ended mine ∙ sym (ap (λ b. is_used db.schema name && not b) mine ∙ and_false (is_used db.schema name))
      | inr other ↦ used_is left name ∙ same other ∙ sym (used_is db.schema name) ∙ sym (ap (λ b. is_used db.schema name && not b) other ∙ and_true (is_used db.schema name))
    ]

  -- ---- its keys have their indexes

  mine_by : (index : Index) → Has db.schema.indexes index → index.table ≡ it.tree → (name : List ℕ) → same_name index.name name ≡ true → is_own_name db.schema it name ≡ true
  mine_by index h over_it name hit = own_is name ∙ or_right _ _ (some_from (λ (i : Index). same_name i.name name) (filter over db.schema.indexes) index (has_kept over db.schema.indexes index h (is_equal index.table it.tree over_it)) hit)

  mine_itself : (name : List ℕ) → same_name (table 0).name name ≡ true → is_own_name db.schema it name ≡ true
  mine_itself name hit = own_is name ∙ or_left _ _ (ap (λ n. same_name n name) (name_in table defined own.tree) ∙ hit)

  guarded : IsGuarded db.schema.indexes it
  guarded = all_has (IsGuarded db.schema.indexes) db.schema.tables it whole.lists.guarded has_it

  uniques_are : it.uniques ≡ (table 0).uniques
  uniques_are = ap (λ (t : Table). t.uniques) (defined.same own.tree)

  mine_keys : (keys : List (List ℕ)) (at tree : ℕ) → ((k : ℕ) (key : List ℕ) → slice_get keys k ≡ Some key → slice_get it.uniques (at + k) ≡ Some key)
      → AllByRecursion (λ (i : Index). (name : List ℕ) → same_name i.name name ≡ true → is_own_name db.schema it name ≡ true) (automatics (table 0) at tree keys)
  mine_keys [] at tree those = tt
  mine_keys (key ∷ keys) at tree those =
      let here : slice_get it.uniques at ≡ Some key = subst (λ n. slice_get it.uniques n ≡ Some key) (omega arith) (those zero key refl) in
      let g = guarded at key here in
      let named : (automatic it at key g.0).name ≡ (automatic (table 0) at key tree).name = ap (λ (n : List ℕ). (automatic (record (table 0) { name = n }) at key tree).name) (name_in table defined own.tree) in (
        (λ name hit. mine_by (automatic it at key g.0) g.1 refl name (ap (λ n. same_name n name) named ∙ hit)),
        mine_keys keys (at + 1) (tree + 1) (λ k other is. subst (λ n. slice_get it.uniques n ≡ Some other) (omega arith) (those (suc k) other is)),
      )

  all_names : AllByRecursion (λ n. (name : List ℕ) → same_name n name ≡ true → is_own_name db.schema it name ≡ true) (names_of (table 0))
  all_names = (
    mine_itself,
    mapped (automatics (table 0) 0 0 (table 0).uniques)
        (mine_keys (table 0).uniques 0 0 (λ k key is. subst (λ (l : List (List ℕ)). slice_get l (0 + k) ≡ Some key) (sym uniques_are) (subst (λ n. slice_get (table 0).uniques n ≡ Some key) (omega arith) is))),
  )
    where
      mapped : (is : List Index) → AllByRecursion (λ (i : Index). (name : List ℕ) → same_name i.name name ≡ true → is_own_name db.schema it name ≡ true) is
          → AllByRecursion (λ n. (name : List ℕ) → same_name n name ≡ true → is_own_name db.schema it name ≡ true) (map (λ (i : Index). i.name) is)
      mapped [] all = tt
      mapped (i ∷ is) all = (all.0, mapped is all.1)

  pub owned_names : (name : List ℕ) → list_any (λ n. same_name n name) (names_of (table 0)) ≡ true → is_own_name db.schema it name ≡ true
  owned_names name hit = let n = some_has (λ n. same_name n name) (names_of (table 0)) hit in all_has (λ n. (name : List ℕ) → same_name n name ≡ true → is_own_name db.schema it name ≡ true) (names_of (table 0)) n.0 all_names n.1 name n.2

-- ---- after the drop

module _ (table : ℕ → Table) (defined : IsDefinition table) (old new : Database) (whole : IsDatabase old) (dropped : IsDropped (table 0).name old new) (own : HasOwn old.schema table) where
  schema_is : new.schema ≡ without_table old.schema (table own.tree).tree
  schema_is = dropped.schema (table own.tree) (own_in table defined old own)

  pub freed_exactly : (name : List ℕ) → is_used new.schema name ≡ (is_used old.schema name && not (is_own_name old.schema (table own.tree) name))
  freed_exactly name = ap (λ (s : Schema). is_used s name) schema_is ∙ left_used old whole table defined own name

  freed_own : (name : List ℕ) → is_own_name old.schema (table own.tree) name ≡ true → is_used new.schema name ≡ false
  freed_own name mine = freed_exactly name ∙ ap (λ b. is_used old.schema name && not b) mine ∙ and_false (is_used old.schema name)

  freed_names : AllByRecursion (λ n. is_used new.schema n ≡ false) (names_of (table 0))
  freed_names = each (names_of (table 0)) (all_names old whole table defined own)
    where
      each : (ns : List (List ℕ)) → AllByRecursion (λ n. (name : List ℕ) → same_name n name ≡ true → is_own_name old.schema (table own.tree) name ≡ true) ns → AllByRecursion (λ n. is_used new.schema n ≡ false) ns
      each [] all = tt
      each (n ∷ ns) all = (freed_own n (all.0 n (same_itself n)), each ns all.1)

  unmapped : (is : List Index) → AllByRecursion (λ n. is_used new.schema n ≡ false) (map (λ (i : Index). i.name) is) → AllByRecursion (λ (i : Index). is_used new.schema i.name ≡ false) is
  unmapped [] all = tt
  unmapped (i ∷ is) all = (all.0, unmapped is all.1)

  pub room_again : (other : Table) → names_of other ≡ names_of (table 0) → LeavesRoom new.schema other
  room_again other names =
      let free = subst (AllByRecursion (λ n. is_used new.schema n ≡ false)) (sym names) freed_names in
      let name : other.name ≡ (table 0).name = ap first_of_all names in
      record {
        unused = free.0;
        unreferred = subst (λ n. is_referred new.schema n ≡ false) (sym name) (drop_unreferred table defined old new dropped own);
        unindexed = unmapped (automatics other 0 0 other.uniques) free.1;
      }
    where
      first_of_all : List (List ℕ) → List ℕ
      first_of_all [] = []
      first_of_all (n ∷ ns) = n
