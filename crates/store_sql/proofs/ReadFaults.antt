-- The texts that read a table take their values; why one is refused: by the store, or at the limit on steps.
use Rattle.std.proofs.Common.{◌≡◌, ◌≤◌, ◌==◌, ◌^◌, ℕ, List, [], ◌∷◌, length, find, nat_le, true, false, Ok, Err, Some, Option, Result, IsTrue, IfOk, IfErr, Bool, arith, Vec, refl, lit≤, ℤ, codes, None}
use Rattle.std.specs.declared.alloc.Global.{Global}
use Rattle.sqlite.specs.Order.{Row}
use Rattle.sqlite.specs.Schema.{Schema}
use Rattle.sqlite.specs.Table.{Table}
use Rattle.sqlite.specs.Term.{Term}
use Rattle.sqlite.specs.declared.types.Value.TheVariants.{Int, Text}
use Rattle.sqlite.specs.declared.error.Error.{Error}
use Rattle.sqlite.specs.State.{State, HasCleanDisk, Survives, CommitsShowing, Shown, IsUnchanged, FailsToQuery}
use Rattle.sqlite_resolve.specs.declared.scope.Output.{Output}
use Rattle.sqlite_resolve.specs.declared.state.Carried.{Carried}
use Rattle.sqlite_typing.specs.Types.{accepts_program}
use Rattle.sqlite_value.specs.declared.keys.Key.{Key}
use Rattle.sqlite_ast.specs.declared.Sort.{Sort}
use Rattle.sqlite_ast.specs.declared.Expr.{Expr}
use Rattle.sqlite_syntax.specs.declared.statement.Parsed.{Parsed}
use Rattle.sqlite_tied.specs.Compute.{everything}
use Rattle.store_tables.specs.Tables.{mark, item, member, edition, entry, kept, table_of}
use Rattle.store_tables.specs.Effects.{Has, shown, FailsToRead}
use Rattle.store_sql.specs.Reads.{IsSelection, select_mark, select_item, select_member, select_kept, select_one_edition, select_some_entries, select_one_kept, select_kept_by_id, select_by_rowid}
use Rattle.store_tables.proofs.ReadLemmas.{query_over, outputs_of, rowid_expr, rowid_shown, all_shown, source_of, core_with, select_with}
use Rattle.store_sql.proofs.ReadTexts.{ReadsTable, key_at, test_one_edition, test_some_entries, test_one_kept, read_mark, read_item, read_member, read_kept, read_one_edition, read_some_entries, read_one_kept}
use Rattle.store_sql.proofs.ReadTexts.{reads_table, sort_by, of_column}
use Rattle.store_sql.proofs.ListingLemmas.{IsQuery, TakesValues, CanRead, can_read, read_fails, query, selects, reads_nothing_else}
use Rattle.store_tables.proofs.ListLemmas.{passes}
use Rattle.sqlite.specs.Compile.{first}
use Rattle.sqlite_resolve.specs.Lowering.{nothing as none_carried}
use Rattle.store_tables.specs.declared.tables.StoreTable.{StoreTable}
use Rattle.store_tables.specs.declared.tables.StoreTable.TheVariants.{Mark, Item, Member, Edition, Entry, Kept}
use Rattle.store_tables.proofs.TextLemmas.{parsed_or}

-- the text is one statement, and takes these values
pub record Takes {X : Type 0} (text : List ℕ) (p : Parsed) (table : ℕ → Table) (tests : List Term) (order : List (Term × Key)) (given : X → Row) : Type 0 where
  pub whole : length text ≤ p.tail
  pub names : (x : X) → length (given x) ≡ length p.names
  pub typed : (schema : Schema) (at tree : ℕ) → find (λ t. t.tree == (table tree).tree) schema.tables ≡ Some (table tree) → nat_le (2 ^ 31) (table tree).tree ≡ false → (x : X)
      → accepts_program schema [] (query_over at (table tree) tests order) (given x) ≡ true

abbrev pub nothing : Unit {0} → Row
nothing _ = []

abbrev pub a_number : ℤ → Row
a_number n = Int n ∷ []

abbrev pub a_text : List ℕ → Row
a_text t = Text t ∷ []

pub takes_mark : Takes select_mark read_mark mark [] (key_at 0 ∷ []) nothing
unfolding everything read_mark
takes_mark = record { whole = lit≤ tt; names = λ x. refl; typed = λ schema at tree alone low x. rw (low, alone) refl }

pub takes_item : Takes select_item read_item item [] (key_at 0 ∷ []) nothing
unfolding everything read_item
takes_item = record { whole = lit≤ tt; names = λ x. refl; typed = λ schema at tree alone low x. rw (low, alone) refl }

pub takes_member : Takes select_member read_member member [] (key_at 1 ∷ key_at 2 ∷ []) nothing
unfolding everything read_member
takes_member = record { whole = lit≤ tt; names = λ x. refl; typed = λ schema at tree alone low x. rw (low, alone) refl }

pub takes_kept : Takes select_kept read_kept kept [] (key_at 2 ∷ []) nothing
unfolding everything read_kept
takes_kept = record { whole = lit≤ tt; names = λ x. refl; typed = λ schema at tree alone low x. rw (low, alone) refl }

pub takes_one_edition : Takes select_one_edition read_one_edition edition test_one_edition (key_at 0 ∷ []) a_number
unfolding everything read_one_edition
takes_one_edition = record { whole = lit≤ tt; names = λ x. refl; typed = λ schema at tree alone low x. rw (low, alone) refl }

pub takes_some_entries : Takes select_some_entries read_some_entries entry test_some_entries (key_at 2 ∷ []) a_number
unfolding everything read_some_entries
takes_some_entries = record { whole = lit≤ tt; names = λ x. refl; typed = λ schema at tree alone low x. rw (low, alone) refl }

pub takes_one_kept : Takes select_one_kept read_one_kept kept test_one_kept (key_at 2 ∷ []) a_text
unfolding everything read_one_kept
takes_one_kept = record { whole = lit≤ tt; names = λ x. refl; typed = λ schema at tree alone low x. rw (low, alone) refl }

module _ (text : List ℕ) (p : Parsed) (table : ℕ → Table) (condition : Option Expr) (tests' : List Term) (left : ℕ) (sorted : List Sort) (order : List (Term × Key)) (columns : List ℕ) (rest : ℕ) (last : Carried)
    (r : ReadsTable text p table condition tests' left sorted order columns rest last) where
  abbrev outs : ℕ → ℕ → List Output
  outs at tree = outputs_of at (table tree)

  abbrev is_query : IsQuery text p table outs tests' order
  is_query = query text p table condition tests' left sorted order columns rest last r

  module _ {X : Type 0} (given : X → Row) (w : Takes text p table tests' order given) (x : X) where
    pub takes_values : TakesValues text p table outs tests' order (given x)
    takes_values = record { whole = w.whole; names = w.names x; typed = λ schema at tree alone low. w.typed schema at tree alone low x }

    -- the whole list that is asked of it
    pub list_fails : (old new : State) → (IsTrue old.is_open → CanRead table old.now) → (result : Result (Vec Row Global) Error) → IfErr result (FailsToQuery text (given x) old new) → IfErr result (FailsToRead old new)
    list_fails old new has (Ok rows) h = tt
    list_fails old new has (Err e) h = read_fails text p table outs tests' order is_query (given x) takes_values old new has e h

    pub fails_to_list : (old new : State) → (IsTrue old.is_open → Has table old.now) → (result : Result (Vec Row Global) Error) → IfErr result (FailsToQuery text (given x) old new) → IfErr result (FailsToRead old new)
    fails_to_list old new has = list_fails old new (λ open'. can_read table old.now (has open'))

    -- the rows that pass a test are the answer to a connection that asks for the list, or it is told why there is none; nothing is written
    pub asked : (named : (tree : ℕ) → (table tree).name ≡ (table 0).name) (test : Row → Bool) → ((tree : ℕ) (row : Row) → passes (given x) tests' row ≡ test (shown (table tree) row))
        → (old new : State) (result : Result (Vec Row Global) Error) → (HasCleanDisk old → IsTrue old.is_open → Has table old.now) → Survives old new (CommitsShowing text (given x) old)
        → (HasCleanDisk new → IfOk result (λ rows. Shown text (given x) old new rows.items)) → (HasCleanDisk new → IfErr result (FailsToQuery text (given x) old new))
        → (HasCleanDisk new → IfOk result (λ rows. IsSelection (table 0).name test columns old.now rows.items × IsUnchanged old new) × IfErr result (FailsToRead old new)) × Survives old new (λ _. ⊥)
    asked named test tested old new result has writes ok err = (
      λ clean. (
        selects text p table condition tests' left sorted order columns rest last r named (given x) test tested old new result (has (omega (arith, writes.clean, clean))) (ok clean),
        fails_to_list old new (has (omega (arith, writes.clean, clean))) result (err clean),
      ),
      reads_nothing_else text p table condition tests' left sorted order columns rest last r named (given x) test tested old new writes,
    )

-- ---- in the order of the rowids, and the kept replies in that of their ids

unfoldable pub read_kept_by_id : Parsed
unfolding everything
read_kept_by_id = parsed_or (first (select_kept_by_id))

pub reads_kept_by_id : ReadsTable (select_kept_by_id) read_kept_by_id kept None [] 99999 (sort_by (codes "2") ∷ []) (key_at 1 ∷ []) (1 ∷ []) 99997 of_column
unfolding everything read_kept_by_id rowid_expr rowid_shown all_shown source_of core_with select_with sort_by
reads_kept_by_id = reads_table refl (λ tree. refl) refl (λ tree. refl) (λ at tree. refl) (λ at tree. refl)
    (λ schema at tree is. refl) (λ schema at tree. refl) (λ at tree params r. refl) (λ tree params r. refl) (λ a b. refl) (λ schema at tree alone low. rw (low, alone) refl)

pub takes_kept_by_id : Takes (select_kept_by_id) read_kept_by_id kept [] (key_at 1 ∷ []) nothing
unfolding everything read_kept_by_id
takes_kept_by_id = record { whole = lit≤ tt; names = λ x. refl; typed = λ schema at tree alone low x. rw (low, alone) refl }

unfoldable pub read_by_rowid : StoreTable → Parsed
unfolding everything
read_by_rowid table = parsed_or (first (select_by_rowid table))

pub reads_by_rowid : (table : StoreTable) → ReadsTable (select_by_rowid table) (read_by_rowid table) (table_of table) None [] 99999 (sort_by (codes "1") ∷ []) (key_at 0 ∷ []) (0 ∷ []) 99997 none_carried
unfolding everything read_by_rowid rowid_expr rowid_shown all_shown source_of core_with select_with sort_by
reads_by_rowid Mark = reads_table refl (λ tree. refl) refl (λ tree. refl) (λ at tree. refl) (λ at tree. refl) (λ schema at tree is. refl) (λ schema at tree. refl) (λ at tree params r. refl) (λ tree params r. refl) (λ a b. refl)
    (λ schema at tree alone low. rw (low, alone) refl)
reads_by_rowid Item = reads_table refl (λ tree. refl) refl (λ tree. refl) (λ at tree. refl) (λ at tree. refl) (λ schema at tree is. refl) (λ schema at tree. refl) (λ at tree params r. refl) (λ tree params r. refl) (λ a b. refl)
    (λ schema at tree alone low. rw (low, alone) refl)
reads_by_rowid Member = reads_table refl (λ tree. refl) refl (λ tree. refl) (λ at tree. refl) (λ at tree. refl) (λ schema at tree is. refl) (λ schema at tree. refl) (λ at tree params r. refl) (λ tree params r. refl) (λ a b. refl)
    (λ schema at tree alone low. rw (low, alone) refl)
reads_by_rowid Edition = reads_table refl (λ tree. refl) refl (λ tree. refl) (λ at tree. refl) (λ at tree. refl) (λ schema at tree is. refl) (λ schema at tree. refl) (λ at tree params r. refl) (λ tree params r. refl) (λ a b. refl)
    (λ schema at tree alone low. rw (low, alone) refl)
reads_by_rowid Entry = reads_table refl (λ tree. refl) refl (λ tree. refl) (λ at tree. refl) (λ at tree. refl) (λ schema at tree is. refl) (λ schema at tree. refl) (λ at tree params r. refl) (λ tree params r. refl) (λ a b. refl)
    (λ schema at tree alone low. rw (low, alone) refl)
reads_by_rowid Kept = reads_table refl (λ tree. refl) refl (λ tree. refl) (λ at tree. refl) (λ at tree. refl) (λ schema at tree is. refl) (λ schema at tree. refl) (λ at tree params r. refl) (λ tree params r. refl) (λ a b. refl)
    (λ schema at tree alone low. rw (low, alone) refl)

pub takes_by_rowid : (table : StoreTable) → Takes (select_by_rowid table) (read_by_rowid table) (table_of table) [] (key_at 0 ∷ []) nothing
unfolding everything read_by_rowid
takes_by_rowid Mark = record { whole = lit≤ tt; names = λ x. refl; typed = λ schema at tree alone low x. rw (low, alone) refl }
takes_by_rowid Item = record { whole = lit≤ tt; names = λ x. refl; typed = λ schema at tree alone low x. rw (low, alone) refl }
takes_by_rowid Member = record { whole = lit≤ tt; names = λ x. refl; typed = λ schema at tree alone low x. rw (low, alone) refl }
takes_by_rowid Edition = record { whole = lit≤ tt; names = λ x. refl; typed = λ schema at tree alone low x. rw (low, alone) refl }
takes_by_rowid Entry = record { whole = lit≤ tt; names = λ x. refl; typed = λ schema at tree alone low x. rw (low, alone) refl }
takes_by_rowid Kept = record { whole = lit≤ tt; names = λ x. refl; typed = λ schema at tree alone low x. rw (low, alone) refl }
