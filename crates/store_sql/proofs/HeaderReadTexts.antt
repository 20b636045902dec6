-- The texts that read headers: all of them, also row by row, and one.
use Rattle.std.proofs.Common.{◌≡◌, ℕ, ℤ, List, [], ◌∷◌, codes, Some, None, refl, ◌∙◌, lit≤}
use Rattle.sqlite.specs.declared.types.Value.TheVariants.{Int}
use Rattle.sqlite.specs.Order.{Row, column}
use Rattle.sqlite.specs.Kind.TheVariants.{Integer}
use Rattle.sqlite.specs.Term.{Term, col, op2}
use Rattle.sqlite.specs.Compile.{first}
use Rattle.sqlite.specs.Collation.TheVariants.{Binary}
use Rattle.sqlite_sql.specs.declared.ops.BinaryOp.TheVariants as by
use Rattle.sqlite_sql.specs.declared.ops.CompareOp.TheVariants as compare
use Rattle.sqlite_tied.specs.Compute.{everything}
use Rattle.sqlite_resolve.specs.Lowering.{nothing}
use Rattle.sqlite_syntax.specs.declared.statement.Parsed.{Parsed}
use Rattle.store_tables.specs.Tables.{needed}
use Rattle.store_tables.specs.Effects.{equals_number, shown}
use Rattle.store_tables.proofs.CompareLemmas.{and_true, equals_is}
use Rattle.store_tables.proofs.DeleteLemmas.{column_expr, parameter_expr, equals_expr, tests_equals}
use Rattle.store_tables.proofs.ListLemmas.{passes}
use Rattle.store_sql.proofs.ReadFaults.{Takes, a_number, nothing as no_values}
use Rattle.store_tables.proofs.ReadLemmas.{rowid_expr, rowid_shown, all_shown, source_of, core_with, select_with, outputs_of}
use Rattle.store_sql.proofs.ReadTexts.{ReadsTable, reads_table, key_at, sort_by}
use Rattle.store_tables.proofs.TextLemmas.{parsed_or}
use Rattle.store_sql.specs.HeaderTable.{header}
use Rattle.store_sql.specs.HeaderTexts.{header_one_text, header_rowid_text}
use Rattle.store_sql.specs.HeaderScans.{header_query}
use Rattle.store_sql.proofs.ScanLemmas.{ReadsScan, listing_scan}

-- ---- all

unfoldable pub read_by_rowid : Parsed
unfolding everything
read_by_rowid = parsed_or (first header_rowid_text)

pub reads_by_rowid : ReadsTable header_rowid_text read_by_rowid header None [] 99999 (sort_by (codes "1") ∷ []) (key_at 0 ∷ []) (0 ∷ []) 99997 nothing
unfolding everything read_by_rowid rowid_expr rowid_shown all_shown source_of core_with select_with sort_by
reads_by_rowid = reads_table refl (λ tree. refl) refl (λ tree. refl) (λ at tree. refl) (λ at tree. refl)
    (λ schema at tree is. refl) (λ schema at tree. refl) (λ at tree params r. refl) (λ tree params r. refl) (λ a b. refl) (λ schema at tree alone low. rw (low, alone) refl)

pub takes_by_rowid : Takes header_rowid_text read_by_rowid header [] (key_at 0 ∷ []) no_values
unfolding everything read_by_rowid
takes_by_rowid = record { whole = lit≤ tt; names = λ x. refl; typed = λ schema at tree alone low x. rw (low, alone) refl }

pub reads : ReadsScan header_query
reads = listing_scan header_rowid_text read_by_rowid header _ _ _ _ _ _ _ _ reads_by_rowid no_values takes_by_rowid tt (λ tree. refl) (λ tree row. refl)

-- ---- one

unfoldable pub read_one : Parsed
unfolding everything
read_one = parsed_or (first header_one_text)

abbrev pub test_one : List Term
test_one = op2 (by.Compare compare.Eq Binary) (col 1 0) (col 0 0) ∷ []

pub reads_one : ReadsTable header_one_text read_one header (Some (equals_expr (codes "number"))) test_one 99996 (sort_by (codes "2") ∷ []) (key_at 0 ∷ []) (1 ∷ []) 99994 nothing
unfolding everything read_one rowid_expr rowid_shown all_shown source_of core_with select_with sort_by column_expr parameter_expr equals_expr
reads_one = record {
  read = refl;
  statement = λ tree. refl;
  formats = refl;
  no_rowid = λ tree. refl;
  few = λ at tree. refl;
  some = λ at tree. refl;
  tests = λ schema at tree is. tests_equals schema at (header tree) is (codes "number") 0 (needed (codes "number") Integer) refl refl (outputs_of at (header tree)) refl (refl) 99999 refl refl refl;
  sorts = λ schema at tree. refl;
  shows = λ at tree params r. refl;
  keyed = λ tree params r. refl;
  compares = λ a b. refl;
  accepted = λ schema at tree alone low. rw (low, alone) refl;
}

pub takes_one : Takes header_one_text read_one header test_one (key_at 0 ∷ []) a_number
unfolding everything read_one
takes_one = record { whole = lit≤ tt; names = λ x. refl; typed = λ schema at tree alone low x. rw (low, alone) refl }

pub one_read : (tree : ℕ) (n : ℤ) (row : Row) → passes (Int n ∷ []) test_one row ≡ equals_number 1 n (shown (header tree) row)
one_read tree n row = and_true _ ∙ equals_is (column row 0) n
