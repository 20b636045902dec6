-- What a DELETE does to the rows of a table.
use Rattle.std.proofs.Common.{◌≡◌, ◌≢◌, ◌==◌, ℕ, ℤ, List, [], ◌∷◌, map, filter, find, length, Bool, true, false, not, Option, Some, None, Ok, unwrap_or, option_and_then, option_map, inl, inr, refl, sym, ap, subst, ◌∙◌}
use Rattle.std.proofs.lemmas.Bool.{cases_Bool}
use Rattle.std.proofs.lemmas.List.{length-map}
use Rattle.std.proofs.lemmas.List.Sorted.{IsPermutation-map, length_permutation}
use Rattle.std.specs.List.{AllByRecursion, IsDistinct, flat_map, filter_map}
use Rattle.std.specs.List.Sorted.{IsPermutation}
use Rattle.sqlite.specs.declared.types.Value.TheVariants.{Null, Int}
use Rattle.sqlite.specs.Order.{Row, column}
use Rattle.sqlite.specs.Tree.{Trees, rowid}
use Rattle.sqlite.specs.Table.{Table}
use Rattle.sqlite.specs.Schema.{Schema}
use Rattle.sqlite.specs.Term.{Term, col}
use Rattle.sqlite.specs.Command.TheVariants.{Delete}
use Rattle.sqlite.specs.Edit.{Edit, edit_of}
use Rattle.sqlite.specs.Rowids.TheVariants.{Given}
use Rattle.sqlite.specs.Does.{Tally}
use Rattle.sqlite.specs.Rows.{Written, Task, Deletes}
use Rattle.sqlite.specs.Effect.{Database, IsDatabase, SparesFrozen, Answers}
use Rattle.sqlite.specs.State.{State, Writes}
use Rattle.sqlite.proofs.Callers.{one_step}
use Rattle.sqlite_rules.specs.Edit.{Applies, id_in, without_all, taken_by}
use Rattle.sqlite_rules.specs.Calls.{ids_of}
use Rattle.sqlite_rules.specs.Action.{works, work_for, work_by, pairs, deed_for}
use Rattle.sqlite_rules.specs.declared.action.Deed.{Deed}
use Rattle.sqlite_schema.specs.Rules.{key_in, key_places, declared_order}
use Rattle.sqlite_schema.specs.Names.{same_name}
use Rattle.sqlite_schema.specs.declared.schema.Keys.{Keys}
use Rattle.sqlite_schema.specs.declared.schema.Keys.TheVariants.{Enforced}
use Rattle.sqlite_schema.specs.declared.schema.Reference.{Reference}
use Rattle.sqlite_schema.specs.declared.program.Program.{Program}
use Rattle.sqlite_value.specs.declared.keys.Order.{Order}
use Rattle.store_tables.specs.Found.{HasTable, is_in}
use Rattle.store_tables.specs.Effects.{HasApartRowids, IsRemoved, SameOthers, count_in, rows_of, table_in, shown, same_value}
use Rattle.store_tables.proofs.InsertLemmas.{went, same_value as same_ok, same_some}
use Rattle.store_tables.proofs.DeleteLemmas.{doomed}
use Rattle.store_tables.proofs.ListLemmas.{lists, passes}
use Rattle.store_tables.proofs.RemoveLemmas.{removed, all_map}

-- ---- no foreign key leads into the table, so none acts

by_order : (tree : ℕ) (moves : List (Row × Row)) (child : Table) (ref : Reference) (deed : Deed) (t : Table) (places : List ℕ) (o : Option Order) → t.tree == tree ≡ false
    → work_by 0 tree moves child ref (Some deed) (option_map (λ (o : Order). (t.tree, places, o)) o) ≡ None
by_order tree moves child ref deed t places None other = refl
by_order tree moves child ref deed t places (Some o) other = rw other refl

by_places : (tree : ℕ) (moves : List (Row × Row)) (child : Table) (ref : Reference) (deed : Deed) (t : Table) (places : Option (List ℕ)) → t.tree == tree ≡ false
    → work_by 0 tree moves child ref (Some deed) (option_and_then (key_in t) places) ≡ None
by_places tree moves child ref deed t None other = refl
by_places tree moves child ref deed t (Some places) other = by_order tree moves child ref deed t places (declared_order t places) other

by_parent : (tree : ℕ) (moves : List (Row × Row)) (child : Table) (ref : Reference) (deed : Option Deed) (found : Option Table) → is_in tree found ≡ false
    → work_by 0 tree moves child ref deed (option_and_then (λ t. option_and_then (key_in t) (key_places t ref.parent_columns)) found) ≡ None
by_parent tree moves child ref None found other = refl
by_parent tree moves child ref (Some deed) None other = refl
by_parent tree moves child ref (Some deed) (Some t) other = by_places tree moves child ref deed t (key_places t ref.parent_columns) other

module _ (schema : Schema) (keys : Keys) (tree : ℕ) (olds : List Row) where
  abbrev IsApart : Reference → Type 0
  IsApart ref = is_in tree (find (λ t. same_name t.name ref.parent) schema.tables) ≡ false

  works_in : (child : Table) (refs : List Reference) → AllByRecursion IsApart refs → filter_map (work_for schema keys 0 tree olds [] child) refs ≡ []
  works_in child [] h = refl
  works_in child (ref ∷ refs) h = rw (by_parent tree (pairs olds []) child ref (deed_for keys true ref) (find (λ t. same_name t.name ref.parent) schema.tables) h.0) (works_in child refs h.1)

  works_among : (tables : List Table) → AllByRecursion (λ child. AllByRecursion IsApart child.references) tables → flat_map (λ child. filter_map (work_for schema keys 0 tree olds [] child) child.references) tables ≡ []
  works_among [] h = refl
  works_among (t ∷ tables) h = rw (works_in t t.references h.0) (works_among tables h.1)

-- ---- the rows that go

ids_shown : (rows : List Row) → map (λ r. id_in (rowid r)) (map (λ r. column r 0 ∷ []) rows) ≡ map (λ r. id_in (rowid r)) rows
ids_shown [] = refl
ids_shown (r ∷ rows) = ap (λ rest. id_in (rowid r) ∷ rest) (ids_shown rows)

firsts_shown : (table : Table) (rows : List Row) → map (λ r. column r 0) (map (shown table) rows) ≡ map (λ r. column r 0) rows
firsts_shown table [] = refl
firsts_shown table (r ∷ rows) = ap (λ rest. column r 0 ∷ rest) (firsts_shown table rows)

apart_below : (table : Table) (rows : List Row) → HasApartRowids (map (shown table) rows) → HasApartRowids rows
apart_below table rows h = record {
  integers = all_map (shown table) (λ r. (n : ℤ) × (column r 0 ≡ Int n)) rows h.integers;
  apart = subst (IsDistinct same_value) (firsts_shown table rows) h.apart;
}

filter_shown : (table : Table) (p q : Row → Bool) → ((r : Row) → p r ≡ q (shown table r)) → (rows : List Row) → map (shown table) (filter p rows) ≡ filter q (map (shown table) rows)
filter_shown table p q same [] = refl
filter_shown table p q same (r ∷ rows) = elim (cases_Bool (q (shown table r))) [
  | inl stays ↦ rw (same r, stays) (ap (λ rest. shown table r ∷ rest) (filter_shown table p q same rows))
  | inr goes ↦ rw (same r, goes) (filter_shown table p q same rows)
]

module _ (old new : State) (at : ℕ) (table : Table) (has : HasTable old.now.schema at table) (tests : List Term) (text : List ℕ) (params : Row) (count : ℕ) where
  abbrev db : Trees
  db = old.now.trees

  abbrev pub program : Program
  program = record { lets = []; body = doomed table tests }

  abbrev pub edit : List Row → Edit
  edit rows = edit_of db table (ids_of rows) Given 0 []

  abbrev with : Trees → Database
  with next = record { schema = old.now.schema; trees = next }

  pub no_works : (rows : List Row) → works old.now.schema Enforced 0 table.tree (taken_by db (edit rows)) (edit rows).news ≡ []
  no_works rows = works_among old.now.schema Enforced table.tree (taken_by db (edit rows)) old.now.schema.tables has.unreferred

  abbrev pub task : Task
  task = record { limit = old.step_limit; keys = Enforced; schema = old.now.schema; table = table; params = params }

  -- what was taken out is one step, and as many rows as were chosen
  pub took : (it : Written) → Deletes task program db (Ok it)
      → (rows : List Row) × (next : Trees) × Answers old.now program params rows × Applies old.now.schema Enforced db (edit rows) next × (it.trees ≡ next) × (length it.rows ≡ length rows)
  took it h =
      let given = went h in
      let written = went given.2 in
      let trees : it.trees ≡ written.0 = ap (λ (it : Written). it.trees) (same_ok written.2) in
      let step = one_step old.now.schema Enforced db written.0 (edit given.0) (no_works given.0) written.1 in
      let long = ap (λ (it : Written). length it.rows) (same_ok written.2) ∙ length-map (ids_of given.0) _ ∙ length-map given.0 _ in
      (given.0, written.0, given.1, step, trees, long)

  deleted : Writes old new None (Delete at program) text params count
      → (rows : List Row) × (next : Trees) × Answers old.now program params rows × Applies old.now.schema Enforced db (edit rows) next × (new.now ≡ with next) × (count ≡ length rows)
  deleted w =
      let is = has.is in
      let done = went (rw is at w.changed) in
      let told = same_ok (went (went done.2).2).2 in
      let now = ap (λ (p : Tally × Database). p.1) told in
      let rows = ap (λ (p : Tally × Database). unwrap_or p.0.rows 0) told in
      let gone = took done.0 done.1 in
      (gone.0, gone.1, gone.2, gone.3, now ∙ ap (λ t. record { schema = old.now.schema; trees = t }) gone.4, w.counted ∙ rows ∙ gone.5)

  rows_in : (trees : Trees) → rows_of table.name (with trees) ≡ map (shown table) (trees table.tree)
  rows_in trees = let named = has.named in let is = has.is in rw (named, is) refl

  table_is : table_in table.name old.now ≡ Some table
  table_is = let named = has.named in let is = has.is in rw (named, is) refl

  same_others : (next : Trees) → AllByRecursion (λ t. t.tree ≢ table.tree → next t.tree ≡ db t.tree) old.now.schema.tables → SameOthers table.name old.now (with next)
  same_others next all other is_other = subst (λ (o : Table). AllByRecursion (λ t. t.tree ≢ o.tree → next t.tree ≡ db t.tree) old.now.schema.tables) (same_some (sym table_is ∙ is_other)) all

  module _ (apart : HasApartRowids (rows_of table.name old.now)) (test : Row → Bool) (tested : (r : Row) → passes params tests r ≡ test (shown table r)) where
    chosen_rows : (rows : List Row) → Answers old.now program params rows → IsPermutation (map (λ r. column r 0 ∷ []) (filter (passes params tests) (db table.tree))) rows
    chosen_rows rows answers = lists table.tree tests (col 1 0 ∷ []) [] params (λ r. column r 0 ∷ []) (λ _. []) (λ r. refl) (λ r. refl) db rows (answers.answer Null)

    pub left_rows : (rows : List Row) → Answers old.now program params rows → without_all (db table.tree) (ids_of rows) ≡ filter (λ r. not (passes params tests r)) (db table.tree)
    left_rows rows answers =
        let ids = IsPermutation-map (λ r. id_in (rowid r)) _ _ (chosen_rows rows answers) in
        removed (passes params tests) (db table.tree) (ids_of rows) (apart_below table (db table.tree) (subst HasApartRowids (rows_in db) apart)) (subst (λ l. IsPermutation l (ids_of rows)) (ids_shown _) ids)

    pub removes : Writes old new None (Delete at program) text params count → IsRemoved table.name test old.now new.now
    removes w =
        let done = deleted w in
        let next = done.1 in
        let left : next table.tree ≡ filter (λ r. not (passes params tests r)) (db table.tree) = done.3.rows ∙ left_rows done.0 done.2 in
        let made : IsRemoved table.name test old.now (with next) = record {
          schema = refl;
          rows = rows_in next ∙ ap (map (shown table)) left ∙ filter_shown table (λ r. not (passes params tests r)) (λ r. not (test r)) (λ r. ap not (tested r)) (db table.tree) ∙ sym (ap (filter (λ r. not (test r))) (rows_in db));
          others = same_others next done.3.tables;
          unread = subst (SparesFrozen old.now) done.4 w.frozen;
          sound = subst IsDatabase done.4 w.sound;
        } in
        subst (IsRemoved table.name test old.now) (sym done.4) made

    -- it answers how many rows passed the test
    pub counts : Writes old new None (Delete at program) text params count → count ≡ count_in table.name test old.now
    counts w =
        let done = deleted w in
        let rows = db table.tree in
        let shown_ones = filter_shown table (passes params tests) test tested rows in
        done.5 ∙ length_permutation _ _ (chosen_rows done.0 done.2) ∙ length-map (filter (passes params tests) rows) _ ∙ sym (length-map (filter (passes params tests) rows) (shown table)) ∙ ap length shown_ones
        ∙ sym (ap (λ all. length (filter test all)) (rows_in db))
