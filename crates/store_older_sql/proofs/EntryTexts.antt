-- The texts that read and drop the entries.
use Rattle.std.proofs.Common.{◌≡◌, ◌⊎◌, ◌≤◌, ℕ, ℤ, List, [], ◌∷◌, codes, length, Some, Ok, Err, refl, lit≤, ◌∙◌}
use Rattle.sqlite.specs.Order.{Row, column}
use Rattle.sqlite.specs.State.{State, Executes, ExecutesInside, Fails, IsUnchanged}
use Rattle.sqlite.specs.declared.error.Error.{Error}
use Rattle.sqlite.specs.declared.types.Value.TheVariants.{Int}
use Rattle.sqlite.specs.Kind.TheVariants.{Integer}
use Rattle.sqlite.specs.Term.{Term, col, op2}
use Rattle.sqlite.specs.Compile.{first}
use Rattle.sqlite.specs.Collation.TheVariants.{Binary}
use Rattle.sqlite_sql.specs.declared.ops.BinaryOp.TheVariants as by
use Rattle.sqlite_sql.specs.declared.ops.CompareOp.TheVariants as compare
use Rattle.sqlite_tied.specs.Compute.{everything}
use Rattle.sqlite_syntax.specs.declared.statement.Parsed.{Parsed}
use Rattle.store_tables.specs.Definitions.{names_of}
use Rattle.store_tables.specs.Tables.{needed}
use Rattle.store_older_sql.specs.Drops.{IsDropped}
use Rattle.store_tables.specs.Effects.{Has, equals_number, shown}
use Rattle.store_tables.specs.Refusals.{RefusesToDrop}
use Rattle.store_tables.proofs.CompareLemmas.{and_true, equals_is}
use Rattle.store_tables.proofs.DeleteLemmas.{column_expr, parameter_expr, equals_expr, tests_equals}
use Rattle.store_older_sql.proofs.DropLemmas.{ReadsDrop, drops, fails}
use Rattle.store_tables.proofs.ListLemmas.{passes}
use Rattle.store_sql.proofs.ReadFaults.{Takes, a_number}
use Rattle.store_tables.proofs.ReadLemmas.{rowid_expr, rowid_shown, all_shown, source_of, core_with, select_with, outputs_of}
use Rattle.store_sql.proofs.ReadTexts.{ReadsTable, key_at, sort_by, of_column}
use Rattle.store_tables.proofs.TextLemmas.{parsed_or}
use Rattle.store_tables.specs.Tables as first_tables
use Rattle.store_tables.specs.Keyed.{old_entry, entry_with_keys as shown_entry}
use Rattle.store_older_sql.specs.Entries.{entry_table_of, entry_drop_text, entry_select_text}
use Rattle.store_older_sql.specs.declared.entries.EntryForm.{EntryForm}
use Rattle.store_older_sql.specs.declared.entries.EntryForm.TheVariants.{Plain, Keyed, Shown}

-- ---- DROP

unfoldable pub read_drop : Parsed
unfolding everything
read_drop = parsed_or (first entry_drop_text)

reads_bare : ReadsDrop entry_drop_text read_drop first_tables.entry
unfolding everything read_drop
reads_bare = record { read = refl; statement = λ tree. refl; formats = refl; unreserved = λ tree. refl; uncounted = λ tree. refl; named = λ tree. refl }

reads_keyed : ReadsDrop entry_drop_text read_drop old_entry
unfolding everything read_drop
reads_keyed = record { read = refl; statement = λ tree. refl; formats = refl; unreserved = λ tree. refl; uncounted = λ tree. refl; named = λ tree. refl }

reads_shown : ReadsDrop entry_drop_text read_drop shown_entry
unfolding everything read_drop
reads_shown = record { read = refl; statement = λ tree. refl; formats = refl; unreserved = λ tree. refl; uncounted = λ tree. refl; named = λ tree. refl }

whole_drop : (length entry_drop_text ≤ read_drop.tail) × (0 ≡ length read_drop.names)
unfolding everything read_drop
whole_drop = (lit≤ tt, refl)

pub drops_entry : (form : EntryForm) (old new : State) (count : ℕ) → Has (entry_table_of form) old.now → Executes entry_drop_text [] old new (Ok count) → IsDropped (codes "entry") old.now new.now
drops_entry Plain old new count = drops entry_drop_text read_drop first_tables.entry reads_bare old new count
drops_entry Keyed old new count = drops entry_drop_text read_drop old_entry reads_keyed old new count
drops_entry Shown old new count = drops entry_drop_text read_drop shown_entry reads_shown old new count

pub drop_fails_in : (form : EntryForm) (old new : State) (e : Error) → Has (entry_table_of form) old.now → ExecutesInside 0 entry_drop_text [] old new (Err e) → (RefusesToDrop (codes "entry") old e × IsUnchanged old new) ⊎ Fails old new ⊥ e
drop_fails_in Plain old new e has = fails entry_drop_text read_drop first_tables.entry reads_bare whole_drop.0 whole_drop.1 old new has.0 has.1 has.2 e
drop_fails_in Keyed old new e has = fails entry_drop_text read_drop old_entry reads_keyed whole_drop.0 whole_drop.1 old new has.0 has.1 has.2 e
drop_fails_in Shown old new e has = fails entry_drop_text read_drop shown_entry reads_shown whole_drop.0 whole_drop.1 old new has.0 has.1 has.2 e

-- ---- SELECT

unfoldable pub read_select : Parsed
unfolding everything
read_select = parsed_or (first entry_select_text)

abbrev pub test_select : List Term
test_select = op2 (by.Compare compare.Eq Binary) (col 1 1) (col 0 0) ∷ []

pub reads_select : ReadsTable entry_select_text read_select old_entry (Some (equals_expr (codes "edition"))) test_select 99996 (sort_by (codes "3") ∷ []) (key_at 2 ∷ []) (2 ∷ []) 99994 of_column
unfolding everything read_select rowid_expr rowid_shown all_shown source_of core_with select_with sort_by column_expr parameter_expr equals_expr
reads_select = record {
  read = refl;
  statement = λ tree. refl;
  formats = refl;
  no_rowid = λ tree. refl;
  few = λ at tree. refl;
  some = λ at tree. refl;
  tests = λ schema at tree is. tests_equals schema at (old_entry tree) is (codes "edition") 0 (needed (codes "edition") Integer) refl refl (outputs_of at (old_entry tree)) refl (rw is refl) 99999 refl refl refl;
  sorts = λ schema at tree. refl;
  shows = λ at tree params r. refl;
  keyed = λ tree params r. refl;
  compares = λ a b. refl;
  accepted = λ schema at tree alone low. rw (low, alone) refl;
}

pub takes_select : Takes entry_select_text read_select old_entry test_select (key_at 2 ∷ []) a_number
unfolding everything read_select
takes_select = record { whole = lit≤ tt; names = λ x. refl; typed = λ schema at tree alone low x. rw (low, alone) refl }

pub old_read : (tree : ℕ) (n : ℤ) (row : Row) → passes (Int n ∷ []) test_select row ≡ equals_number 1 n (shown (old_entry tree) row)
old_read tree n row = and_true _ ∙ equals_is (column row 1) n

-- the same over schema 4, whose rows have one column more

pub selects_shown : ReadsTable entry_select_text read_select shown_entry (Some (equals_expr (codes "edition"))) test_select 99996 (sort_by (codes "3") ∷ []) (key_at 2 ∷ []) (2 ∷ []) 99994 of_column
unfolding everything read_select rowid_expr rowid_shown all_shown source_of core_with select_with sort_by column_expr parameter_expr equals_expr
selects_shown = record {
  read = refl;
  statement = λ tree. refl;
  formats = refl;
  no_rowid = λ tree. refl;
  few = λ at tree. refl;
  some = λ at tree. refl;
  tests = λ schema at tree is. tests_equals schema at (shown_entry tree) is (codes "edition") 0 (needed (codes "edition") Integer) refl refl (outputs_of at (shown_entry tree)) refl (rw is refl) 99999 refl refl refl;
  sorts = λ schema at tree. refl;
  shows = λ at tree params r. refl;
  keyed = λ tree params r. refl;
  compares = λ a b. refl;
  accepted = λ schema at tree alone low. rw (low, alone) refl;
}

pub takes_shown : Takes entry_select_text read_select shown_entry test_select (key_at 2 ∷ []) a_number
unfolding everything read_select
takes_shown = record { whole = lit≤ tt; names = λ x. refl; typed = λ schema at tree alone low x. rw (low, alone) refl }

pub shown_read : (tree : ℕ) (n : ℤ) (row : Row) → passes (Int n ∷ []) test_select row ≡ equals_number 1 n (shown (shown_entry tree) row)
shown_read tree n row = and_true _ ∙ equals_is (column row 1) n

-- ---- the names

pub form_names : (form other : EntryForm) → names_of (entry_table_of form 0) ≡ names_of (entry_table_of other 0)
form_names Plain Plain = refl
form_names Plain Keyed = refl
form_names Plain Shown = refl
form_names Keyed Plain = refl
form_names Keyed Keyed = refl
form_names Keyed Shown = refl
form_names Shown Plain = refl
form_names Shown Keyed = refl
form_names Shown Shown = refl
