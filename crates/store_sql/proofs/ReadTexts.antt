-- The texts that read a table whole.
use Rattle.std.proofs.Common.{◌≡◌, ℕ, ◌-◌, List, [], ◌∷◌, codes, Ok, Some, None, refl, length, nat_lt, nat_le, true, false, find, ◌==◌, ◌^◌, map, Option, slice_get}
use Rattle.sqlite.specs.Term.{Term, col, op2, eval_all}
use Rattle.sqlite_sql.specs.declared.ops.BinaryOp.TheVariants as by
use Rattle.sqlite_sql.specs.declared.ops.CompareOp.TheVariants as compare
use Rattle.sqlite.specs.Kind.TheVariants.{Integer, Text}
use Rattle.store_tables.proofs.DeleteLemmas.{column_expr, parameter_expr, equals_expr, tests_equals}
use Rattle.sqlite_resolve.specs.Body.{tests}
use Rattle.sqlite.specs.Compile.{first}
use Rattle.sqlite.specs.Schema.{Schema}
use Rattle.sqlite.specs.Table.{Table}
use Rattle.sqlite.specs.Collation.TheVariants.{Binary}
use Rattle.sqlite_value.specs.declared.keys.Key.{Key}
use Rattle.sqlite_tied.specs.Compute.{everything}
use Rattle.sqlite_syntax.specs.declared.statement.Parsed.{Parsed}
use Rattle.sqlite_ast.specs.declared.Statement.TheVariants as written
use Rattle.sqlite_ast.specs.declared.Expr.{Expr, roll-Expr}
use Rattle.sqlite_ast.specs.declared.Expr.TheOpen.{Expr-F}
use Rattle.sqlite_ast.specs.declared.Sort.{Sort, roll-Sort}
use Rattle.sqlite_resolve.specs.Lowering.{fresh, max_budget, nothing}
use Rattle.sqlite_typing.specs.Types.{accepts_program}
use Rattle.sqlite_resolve.specs.Expr.{lower}
use Rattle.sqlite_resolve.specs.Order.{sorts}
use Rattle.sqlite_resolve.specs.declared.state.Carried.{Carried}
use Rattle.sqlite_schema.specs.Names.{column_named}
use Rattle.store_tables.specs.Tables.{needed, mark, item, member, edition, entry, kept}
use Rattle.store_tables.specs.Effects.{shown}
use Rattle.store_sql.specs.Reads.{select_mark, select_item, select_member, select_kept, select_one_edition, select_some_entries, select_one_kept, by_columns}
use Rattle.sqlite.specs.Order.{Row, column}
use Rattle.sqlite.specs.Query.{key_cmp}
use Rattle.store_tables.proofs.TextLemmas.{parsed_or}
use Rattle.store_tables.proofs.ReadLemmas.{rowid_expr, rowid_shown, all_shown, source_of, core_with, select_with, select_of, plainly, outputs_of, context_of, query_over}

unfoldable pub sort_by : List ℕ → Sort
sort_by digits = roll-Sort (record { key = roll-Expr (Expr-F.Integer digits); descending = false; nulls_first = None })

abbrev pub key_at : ℕ → Term × Key
key_at place = (col 1 place, record { collation = Binary; descending = false })

abbrev pub of_column : Carried
of_column = record { collation = Some Binary; is_written = false }

-- the text reads the rows of this table that pass these tests, in this order, in whatever tree it is
pub record ReadsTable (text : List ℕ) (p : Parsed) (table : ℕ → Table) (condition : Option Expr) (filter : List Term) (left : ℕ) (sorted : List Sort) (order : List (Term × Key)) (columns : List ℕ) (rest : ℕ) (last : Carried) : Type 0 where
  pub read : first text ≡ Ok p
  pub statement : (tree : ℕ) → p.statement ≡ written.Select (select_of (table tree).name condition sorted)
  pub formats : p.formats ≡ []
  pub no_rowid : (tree : ℕ) → column_named (table tree) (codes "rowid") ≡ None
  pub few : (at tree : ℕ) → nat_lt 2000 (length (outputs_of at (table tree))) ≡ false
  pub some : (at tree : ℕ) → nat_lt 1 (length (outputs_of at (table tree))) ≡ true
  pub tests : (schema : Schema) (at tree : ℕ) → slice_get schema.tables at ≡ Some (table tree)
      → tests lower (context_of schema at (table tree) (outputs_of at (table tree)) false true) [] condition (record (fresh 2 max_budget) { budget = max_budget - 1 }) ≡ Ok (filter, plainly left nothing)
  pub sorts : (schema : Schema) (at tree : ℕ) → sorts lower (context_of schema at (table tree) (outputs_of at (table tree)) false true) (outputs_of at (table tree)) sorted (plainly left nothing) ≡ Ok (order, plainly rest last)
  pub shows : (at tree : ℕ) (params r : Row) → eval_all (query_over at (table tree) filter order).project (params ∷ r ∷ []) ≡ shown (table tree) r
  pub keyed : (tree : ℕ) (params r : Row) → eval_all (map (λ (k : Term × Key). k.0) order) (params ∷ r ∷ []) ≡ map (column (shown (table tree) r)) columns
  pub compares : (a b : Row) → key_cmp 0 (map (λ (k : Term × Key). k.1) order) (map (column a) columns) (map (column b) columns) ≡ by_columns columns a b
  pub accepted : (schema : Schema) (at tree : ℕ) → find (λ t. t.tree == (table tree).tree) schema.tables ≡ Some (table tree) → nat_le (2 ^ 31) (table tree).tree ≡ false
      → accepts_program schema [] (query_over at (table tree) filter order) [] ≡ true

-- each part of it computes
pub reads_table : {text : List ℕ} {p : Parsed} {table : ℕ → Table} {condition : Option Expr} {filter : List Term} {left : ℕ} {sorted : List Sort} {order : List (Term × Key)} {columns : List ℕ} {rest : ℕ} {last : Carried}
    → first text ≡ Ok p
    → ((tree : ℕ) → p.statement ≡ written.Select (select_of (table tree).name condition sorted))
    → p.formats ≡ []
    → ((tree : ℕ) → column_named (table tree) (codes "rowid") ≡ None)
    → ((at tree : ℕ) → nat_lt 2000 (length (outputs_of at (table tree))) ≡ false)
    → ((at tree : ℕ) → nat_lt 1 (length (outputs_of at (table tree))) ≡ true)
    → ((schema : Schema) (at tree : ℕ) → slice_get schema.tables at ≡ Some (table tree)
    → tests lower (context_of schema at (table tree) (outputs_of at (table tree)) false true) [] condition (record (fresh 2 max_budget) { budget = max_budget - 1 }) ≡ Ok (filter, plainly left nothing))
    → ((schema : Schema) (at tree : ℕ) → sorts lower (context_of schema at (table tree) (outputs_of at (table tree)) false true) (outputs_of at (table tree)) sorted (plainly left nothing) ≡ Ok (order, plainly rest last))
    → ((at tree : ℕ) (params r : Row) → eval_all (query_over at (table tree) filter order).project (params ∷ r ∷ []) ≡ shown (table tree) r)
    → ((tree : ℕ) (params r : Row) → eval_all (map (λ (k : Term × Key). k.0) order) (params ∷ r ∷ []) ≡ map (column (shown (table tree) r)) columns)
    → ((a b : Row) → key_cmp 0 (map (λ (k : Term × Key). k.1) order) (map (column a) columns) (map (column b) columns) ≡ by_columns columns a b)
    → ((schema : Schema) (at tree : ℕ) → find (λ t. t.tree == (table tree).tree) schema.tables ≡ Some (table tree) → nat_le (2 ^ 31) (table tree).tree ≡ false → accepts_program schema [] (query_over at (table tree) filter order) [] ≡ true)
    → ReadsTable text p table condition filter left sorted order columns rest last
reads_table read statement formats no_rowid few some tests sorts shows keyed compares accepted = record {
  read = read;
  statement = statement;
  formats = formats;
  no_rowid = no_rowid;
  few = few;
  some = some;
  tests = tests;
  sorts = sorts;
  shows = shows;
  keyed = keyed;
  compares = compares;
  accepted = accepted;
}

unfoldable pub read_mark : Parsed
unfolding everything
read_mark = parsed_or (first select_mark)

pub reads_mark : ReadsTable select_mark read_mark mark None [] 99999 (sort_by (codes "2") ∷ []) (key_at 0 ∷ []) (1 ∷ []) 99997 nothing
unfolding everything read_mark rowid_expr rowid_shown all_shown source_of core_with select_with sort_by
reads_mark = reads_table refl (λ tree. refl) refl (λ tree. refl) (λ at tree. refl) (λ at tree. refl)
    (λ schema at tree is. refl) (λ schema at tree. refl) (λ at tree params r. refl) (λ tree params r. refl) (λ a b. refl) (λ schema at tree alone low. rw (low, alone) refl)

unfoldable pub read_item : Parsed
unfolding everything
read_item = parsed_or (first select_item)

pub reads_item : ReadsTable select_item read_item item None [] 99999 (sort_by (codes "2") ∷ []) (key_at 0 ∷ []) (1 ∷ []) 99997 nothing
unfolding everything read_item rowid_expr rowid_shown all_shown source_of core_with select_with sort_by
reads_item = reads_table refl (λ tree. refl) refl (λ tree. refl) (λ at tree. refl) (λ at tree. refl)
    (λ schema at tree is. refl) (λ schema at tree. refl) (λ at tree params r. refl) (λ tree params r. refl) (λ a b. refl) (λ schema at tree alone low. rw (low, alone) refl)

unfoldable pub read_member : Parsed
unfolding everything
read_member = parsed_or (first select_member)

pub reads_member : ReadsTable select_member read_member member None [] 99999 (sort_by (codes "2") ∷ sort_by (codes "3") ∷ []) (key_at 1 ∷ key_at 2 ∷ []) (1 ∷ 2 ∷ []) 99995 of_column
unfolding everything read_member rowid_expr rowid_shown all_shown source_of core_with select_with sort_by
reads_member = reads_table refl (λ tree. refl) refl (λ tree. refl) (λ at tree. refl) (λ at tree. refl)
    (λ schema at tree is. refl) (λ schema at tree. refl) (λ at tree params r. refl) (λ tree params r. refl) (λ a b. refl) (λ schema at tree alone low. rw (low, alone) refl)

unfoldable pub read_kept : Parsed
unfolding everything
read_kept = parsed_or (first select_kept)

pub reads_kept : ReadsTable select_kept read_kept kept None [] 99999 (sort_by (codes "3") ∷ []) (key_at 2 ∷ []) (2 ∷ []) 99997 of_column
unfolding everything read_kept rowid_expr rowid_shown all_shown source_of core_with select_with sort_by
reads_kept = reads_table refl (λ tree. refl) refl (λ tree. refl) (λ at tree. refl) (λ at tree. refl)
    (λ schema at tree is. refl) (λ schema at tree. refl) (λ at tree params r. refl) (λ tree params r. refl) (λ a b. refl) (λ schema at tree alone low. rw (low, alone) refl)

unfoldable pub read_one_edition : Parsed
unfolding everything
read_one_edition = parsed_or (first select_one_edition)

abbrev pub test_one_edition : List Term
test_one_edition = op2 (by.Compare compare.Eq Binary) (col 1 0) (col 0 0) ∷ []

pub reads_one_edition : ReadsTable select_one_edition read_one_edition edition (Some (equals_expr (codes "number"))) test_one_edition 99996 (sort_by (codes "2") ∷ []) (key_at 0 ∷ []) (1 ∷ []) 99994 nothing
unfolding everything read_one_edition rowid_expr rowid_shown all_shown source_of core_with select_with sort_by column_expr parameter_expr equals_expr
reads_one_edition = record {
  read = refl;
  statement = λ tree. refl;
  formats = refl;
  no_rowid = λ tree. refl;
  few = λ at tree. refl;
  some = λ at tree. refl;
  tests = λ schema at tree is. tests_equals schema at (edition tree) is (codes "number") 0 (needed (codes "number") Integer) refl refl (outputs_of at (edition tree)) refl (refl) 99999 refl refl refl;
  sorts = λ schema at tree. refl;
  shows = λ at tree params r. refl;
  keyed = λ tree params r. refl;
  compares = λ a b. refl;
  accepted = λ schema at tree alone low. rw (low, alone) refl;
}

unfoldable pub read_some_entries : Parsed
unfolding everything
read_some_entries = parsed_or (first select_some_entries)

abbrev pub test_some_entries : List Term
test_some_entries = op2 (by.Compare compare.Eq Binary) (col 1 1) (col 0 0) ∷ []

pub reads_some_entries : ReadsTable select_some_entries read_some_entries entry (Some (equals_expr (codes "edition"))) test_some_entries 99996 (sort_by (codes "3") ∷ []) (key_at 2 ∷ []) (2 ∷ []) 99994 of_column
unfolding everything read_some_entries rowid_expr rowid_shown all_shown source_of core_with select_with sort_by column_expr parameter_expr equals_expr
reads_some_entries = record {
  read = refl;
  statement = λ tree. refl;
  formats = refl;
  no_rowid = λ tree. refl;
  few = λ at tree. refl;
  some = λ at tree. refl;
  tests = λ schema at tree is. tests_equals schema at (entry tree) is (codes "edition") 0 (needed (codes "edition") Integer) refl refl (outputs_of at (entry tree)) refl (rw is refl) 99999 refl refl refl;
  sorts = λ schema at tree. refl;
  shows = λ at tree params r. refl;
  keyed = λ tree params r. refl;
  compares = λ a b. refl;
  accepted = λ schema at tree alone low. rw (low, alone) refl;
}

unfoldable pub read_one_kept : Parsed
unfolding everything
read_one_kept = parsed_or (first select_one_kept)

abbrev pub test_one_kept : List Term
test_one_kept = op2 (by.Compare compare.Eq Binary) (col 1 1) (col 0 0) ∷ []

pub reads_one_kept : ReadsTable select_one_kept read_one_kept kept (Some (equals_expr (codes "id"))) test_one_kept 99996 (sort_by (codes "3") ∷ []) (key_at 2 ∷ []) (2 ∷ []) 99994 of_column
unfolding everything read_one_kept rowid_expr rowid_shown all_shown source_of core_with select_with sort_by column_expr parameter_expr equals_expr
reads_one_kept = record {
  read = refl;
  statement = λ tree. refl;
  formats = refl;
  no_rowid = λ tree. refl;
  few = λ at tree. refl;
  some = λ at tree. refl;
  tests = λ schema at tree is. tests_equals schema at (kept tree) is (codes "id") 0 (needed (codes "id") Text) refl refl (outputs_of at (kept tree)) refl (rw is refl) 99999 refl refl refl;
  sorts = λ schema at tree. refl;
  shows = λ at tree params r. refl;
  keyed = λ tree params r. refl;
  compares = λ a b. refl;
  accepted = λ schema at tree alone low. rw (low, alone) refl;
}
