-- The texts that read parts: all of them, those of a file, and one; what is read row by row.
use Rattle.std.proofs.Common.{◌≡◌, ℕ, ℤ, List, [], ◌∷◌, codes, true, false, Some, None, Ok, refl, lit≤, slice_get}
use Rattle.sqlite.specs.declared.types.Value.TheVariants.{Int}
use Rattle.sqlite.specs.Order.{Row, column}
use Rattle.sqlite.specs.Schema.{Schema}
use Rattle.sqlite.specs.Term.{Term, col, op2}
use Rattle.sqlite.specs.Compile.{first}
use Rattle.sqlite.specs.Collation.TheVariants.{Binary}
use Rattle.sqlite_sql.specs.declared.ops.BinaryOp.TheVariants as by
use Rattle.sqlite_sql.specs.declared.ops.CompareOp.TheVariants as compare
use Rattle.sqlite_tied.specs.Compute.{everything}
use Rattle.sqlite_resolve.specs.Body.{tests}
use Rattle.sqlite_resolve.specs.Expr.{lower}
use Rattle.sqlite_resolve.specs.Scope.{Context}
use Rattle.sqlite_resolve.specs.Lowering.{nothing}
use Rattle.sqlite_resolve.specs.declared.state.Carried.{Carried}
use Rattle.sqlite_syntax.specs.declared.statement.Parsed.{Parsed}
use Rattle.sqlite_ast.specs.declared.Expr.{Expr}
use Rattle.sqlite_ast.specs.declared.Binary.TheVariants as binary
use Rattle.store_tables.specs.Effects.{shown}
use Rattle.store_tables.proofs.CompareLemmas.{equals_is}
use Rattle.store_tables.proofs.ListLemmas.{passes}
use Rattle.store_sql.proofs.ReadFaults.{Takes, nothing as no_values}
use Rattle.store_tables.proofs.ReadLemmas.{rowid_expr, rowid_shown, all_shown, source_of, core_with, select_with, outputs_of, plainly, context_of}
use Rattle.store_sql.proofs.ReadTexts.{ReadsTable, reads_table, sort_by, key_at}
use Rattle.store_tables.proofs.TextLemmas.{parsed_or}
use Rattle.store_sql.specs.ChosenParts.{is_of_file, is_numbered}
use Rattle.store_sql.specs.PartTable.{part}
use Rattle.store_sql.specs.PartTexts.{part_rowid_text, file_text, part_one_text}
use Rattle.store_sql.specs.PartScans.{PartScan, part_query}
use Rattle.store_sql.specs.PartScans.PartScan.{ByRowid, OfFile}
use Rattle.store_sql.proofs.ConditionLemmas.{name_expr, given_expr, binary_expr, compare_expr, and_expr, Names, Combines, lower_compare, lower_and}
use Rattle.store_sql.proofs.ScanLemmas.{ReadsScan, selection_scan}
use Rattle.store_sql.proofs.ValueLemmas.{two_same, three_same}

abbrev pub of_column : Carried
of_column = record { collation = Some Binary; is_written = false }

-- ---- all

unfoldable pub read_by_rowid : Parsed
unfolding everything
read_by_rowid = parsed_or (first part_rowid_text)

pub reads_by_rowid : ReadsTable part_rowid_text read_by_rowid part None [] 99999 (sort_by (codes "1") ∷ []) (key_at 0 ∷ []) (0 ∷ []) 99997 nothing
unfolding everything read_by_rowid rowid_expr rowid_shown all_shown source_of core_with select_with sort_by
reads_by_rowid = reads_table refl (λ tree. refl) refl (λ tree. refl) (λ at tree. refl) (λ at tree. refl)
    (λ schema at tree is. refl) (λ schema at tree. refl) (λ at tree params r. refl) (λ tree params r. refl) (λ a b. refl) (λ schema at tree alone low. rw (low, alone) refl)

pub takes_by_rowid : Takes part_rowid_text read_by_rowid part [] (key_at 0 ∷ []) no_values
unfolding everything read_by_rowid
takes_by_rowid = record { whole = lit≤ tt; names = λ x. refl; typed = λ schema at tree alone low x. rw (low, alone) refl }

-- ---- those of a file, and one of them

abbrev edition_is : Term
edition_is = op2 (by.Compare compare.Eq Binary) (col 1 1) (col 0 0)

abbrev file_is : Term
file_is = op2 (by.Compare compare.Eq Binary) (col 1 2) (col 0 1)

abbrev number_is : Term
number_is = op2 (by.Compare compare.Eq Binary) (col 1 3) (col 0 2)

abbrev of_edition : Expr
of_edition = compare_expr binary.Eq None (codes "edition") 1

abbrev of_file : Expr
of_file = compare_expr binary.Eq None (codes "file") 2

abbrev of_number : Expr
of_number = compare_expr binary.Eq None (codes "number") 3

module _ (schema : Schema) (at tree : ℕ) (is : slice_get schema.tables at ≡ Some (part tree)) where
  abbrev cx : Context
  cx = context_of schema at (part tree) (outputs_of at (part tree)) false true

  edition_named : Names cx 2 None (codes "edition") (col 1 1) of_column
  unfolding everything
  edition_named s = rw (is, is) refl

  file_named : Names cx 2 None (codes "file") (col 1 2) of_column
  unfolding everything
  file_named s = rw (is, is) refl

  number_named : Names cx 2 None (codes "number") (col 1 3) of_column
  unfolding everything
  number_named s = rw (is, is) refl

  edition_equals : Combines cx 2 binary.Eq (col 1 1) (col 0 0) edition_is of_column nothing
  unfolding everything
  edition_equals = record { no_truth = λ y. refl; no_alias = λ y. refl; no_word = λ y. refl; combines = λ s. rw is refl }

  file_equals : Combines cx 2 binary.Eq (col 1 2) (col 0 1) file_is of_column nothing
  unfolding everything
  file_equals = record { no_truth = λ y. refl; no_alias = λ y. refl; no_word = λ y. refl; combines = λ s. rw is refl }

  number_equals : Combines cx 2 binary.Eq (col 1 3) (col 0 2) number_is of_column nothing
  unfolding everything
  number_equals = record { no_truth = λ y. refl; no_alias = λ y. refl; no_word = λ y. refl; combines = λ s. rw is refl }

abbrev pub test_file : List Term
test_file = edition_is ∷ file_is ∷ []

abbrev within_file : Expr
within_file = and_expr of_edition of_file

file_tests : (schema : Schema) (at tree : ℕ) → slice_get schema.tables at ≡ Some (part tree) → tests lower (context_of schema at (part tree) (outputs_of at (part tree)) false true) [] (Some within_file) (plainly 99999 nothing)
    ≡ Ok (test_file, plainly 99992 nothing)
unfolding tests
file_tests schema at tree is =
    let here = cx schema at tree is in
    let one = lower_compare here 2 binary.Eq None (codes "edition") (col 1 1) edition_is of_column 1 (edition_named schema at tree is) (edition_equals schema at tree is) 697 99998 refl refl refl in
    let two = lower_compare here 2 binary.Eq None (codes "file") (col 1 2) file_is of_column 2 (file_named schema at tree is) (file_equals schema at tree is) 697 99995 refl refl refl in
    let all = lower_and here 2 of_edition of_file edition_is file_is 699 99999 99995 99992 refl one two nothing in
    rw all refl

abbrev pub a_file : ℤ × ℤ → Row
a_file x = Int x.0 ∷ Int x.1 ∷ []

unfoldable pub read_file : Parsed
unfolding everything
read_file = parsed_or (first file_text)

pub reads_file : ReadsTable file_text read_file part (Some within_file) test_file 99992 (sort_by (codes "4") ∷ []) (key_at 3 ∷ []) (3 ∷ []) 99990 of_column
unfolding everything read_file rowid_expr rowid_shown all_shown source_of core_with select_with sort_by name_expr given_expr binary_expr
reads_file = record {
  read = refl;
  statement = λ tree. refl;
  formats = refl;
  no_rowid = λ tree. refl;
  few = λ at tree. refl;
  some = λ at tree. refl;
  tests = λ schema at tree is. file_tests schema at tree is;
  sorts = λ schema at tree. refl;
  shows = λ at tree params r. refl;
  keyed = λ tree params r. refl;
  compares = λ a b. refl;
  accepted = λ schema at tree alone low. rw (low, alone) refl;
}

pub takes_file : Takes file_text read_file part test_file (key_at 3 ∷ []) a_file
unfolding everything read_file
takes_file = record { whole = lit≤ tt; names = λ x. refl; typed = λ schema at tree alone low x. rw (low, alone) refl }

pub file_read : (tree : ℕ) (n f : ℤ) (row : Row) → passes (Int n ∷ Int f ∷ []) test_file row ≡ is_of_file n f (shown (part tree) row)
file_read tree n f row = two_same _ _ _ _ (equals_is (column row 1) n) (equals_is (column row 2) f)

abbrev pub test_one : List Term
test_one = edition_is ∷ file_is ∷ number_is ∷ []

abbrev with_number : Expr
with_number = and_expr (and_expr of_edition of_file) of_number

one_tests : (schema : Schema) (at tree : ℕ) → slice_get schema.tables at ≡ Some (part tree) → tests lower (context_of schema at (part tree) (outputs_of at (part tree)) false true) [] (Some with_number) (plainly 99999 nothing)
    ≡ Ok (test_one, plainly 99988 nothing)
unfolding tests
one_tests schema at tree is =
    let here = cx schema at tree is in
    let one = lower_compare here 2 binary.Eq None (codes "edition") (col 1 1) edition_is of_column 1 (edition_named schema at tree is) (edition_equals schema at tree is) 696 99997 refl refl refl in
    let two = lower_compare here 2 binary.Eq None (codes "file") (col 1 2) file_is of_column 2 (file_named schema at tree is) (file_equals schema at tree is) 696 99994 refl refl refl in
    let three = lower_compare here 2 binary.Eq None (codes "number") (col 1 3) number_is of_column 3 (number_named schema at tree is) (number_equals schema at tree is) 697 99991 refl refl refl in
    let front = lower_and here 2 of_edition of_file edition_is file_is 698 99998 99994 99991 refl one two in
    let all = lower_and here 2 (and_expr of_edition of_file) of_number (op2 by.And edition_is file_is) number_is 699 99999 99991 99988 refl front three nothing in
    rw all refl

abbrev pub a_numbered : ℤ × ℤ × ℤ → Row
a_numbered x = Int x.0 ∷ Int x.1 ∷ Int x.2 ∷ []

unfoldable pub read_one : Parsed
unfolding everything
read_one = parsed_or (first part_one_text)

pub reads_one : ReadsTable part_one_text read_one part (Some with_number) test_one 99988 (sort_by (codes "4") ∷ []) (key_at 3 ∷ []) (3 ∷ []) 99986 of_column
unfolding everything read_one rowid_expr rowid_shown all_shown source_of core_with select_with sort_by name_expr given_expr binary_expr
reads_one = record {
  read = refl;
  statement = λ tree. refl;
  formats = refl;
  no_rowid = λ tree. refl;
  few = λ at tree. refl;
  some = λ at tree. refl;
  tests = λ schema at tree is. one_tests schema at tree is;
  sorts = λ schema at tree. refl;
  shows = λ at tree params r. refl;
  keyed = λ tree params r. refl;
  compares = λ a b. refl;
  accepted = λ schema at tree alone low. rw (low, alone) refl;
}

pub takes_one : Takes part_one_text read_one part test_one (key_at 3 ∷ []) a_numbered
unfolding everything read_one
takes_one = record { whole = lit≤ tt; names = λ x. refl; typed = λ schema at tree alone low x. rw (low, alone) refl }

pub one_read : (tree : ℕ) (n f m : ℤ) (row : Row) → passes (Int n ∷ Int f ∷ Int m ∷ []) test_one row ≡ is_numbered n f m (shown (part tree) row)
one_read tree n f m row = three_same _ _ _ _ _ _ (equals_is (column row 1) n) (equals_is (column row 2) f) (equals_is (column row 3) m)

-- ---- row by row

pub reads : (what : PartScan) → ReadsScan (part_query what)
reads ByRowid = selection_scan part_rowid_text read_by_rowid part _ _ _ _ _ _ _ _ reads_by_rowid no_values takes_by_rowid tt (λ tree. refl) (λ _. true) (λ tree row. refl)
reads (OfFile n f) = selection_scan file_text read_file part _ _ _ _ _ _ _ _ reads_file a_file takes_file (n, f) (λ tree. refl) (is_of_file n f) (λ tree row. file_read tree n f row)
