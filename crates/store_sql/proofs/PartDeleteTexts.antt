-- The texts that take out parts, what they do, and why they are refused.
use Rattle.std.proofs.Common.{◌≡◌, ℕ, ℤ, List, [], ◌∷◌, codes, true, false, Some, None, Ok, refl, ◌∙◌, lit≤, slice_get}
use Rattle.sqlite.specs.Kind.TheVariants.{Integer}
use Rattle.sqlite.specs.declared.types.Value.TheVariants.{Int}
use Rattle.sqlite.specs.Order.{column}
use Rattle.sqlite.specs.Schema.{Schema}
use Rattle.sqlite.specs.Term.{Term, col, op2}
use Rattle.sqlite.specs.Compile.{first}
use Rattle.sqlite.specs.Collation.TheVariants.{Binary}
use Rattle.sqlite_sql.specs.declared.ops.BinaryOp.TheVariants as by
use Rattle.sqlite_sql.specs.declared.ops.CompareOp.TheVariants as compare
use Rattle.sqlite_tied.specs.Compute.{everything}
use Rattle.sqlite_resolve.specs.Body.{tests}
use Rattle.sqlite_resolve.specs.Expr.{lower}
use Rattle.sqlite_resolve.specs.Scope.{Context}
use Rattle.sqlite_resolve.specs.Lowering.{fresh, max_budget, nothing}
use Rattle.sqlite_syntax.specs.declared.statement.Parsed.{Parsed}
use Rattle.sqlite_ast.specs.declared.Expr.{Expr}
use Rattle.sqlite_ast.specs.declared.Binary.TheVariants as binary
use Rattle.store_tables.specs.Tables.{needed}
use Rattle.store_tables.specs.Effects.{equals_number}
use Rattle.store_tables.proofs.CompareLemmas.{and_true, equals_is}
use Rattle.store_tables.proofs.DeleteLemmas.{column_expr, parameter_expr, equals_expr, tests_equals}
use Rattle.store_sql.proofs.DeleteTexts.{Takes, ReadsDelete, TakesOut}
use Rattle.store_tables.proofs.ReadLemmas.{context_of}
use Rattle.store_tables.proofs.TextLemmas.{parsed_or}
use Rattle.store_sql.specs.ChosenParts.{is_part_from}
use Rattle.store_sql.specs.PartTable.{part}
use Rattle.store_sql.specs.PartTexts.{part_delete_text, delete_from_text}
use Rattle.store_sql.proofs.ConditionLemmas.{name_expr, given_expr, binary_expr, compare_expr, and_expr, Names, Combines, lower_compare, lower_and}
use Rattle.store_sql.proofs.PartReadTexts.{of_column}
use Rattle.store_sql.proofs.ValueLemmas.{from_number, three_same}

-- ---- of an edition

abbrev test_edition : List Term
test_edition = op2 (by.Compare compare.Eq Binary) (col 1 1) (col 0 0) ∷ []

unfoldable pub read_delete : Parsed
unfolding everything
read_delete = parsed_or (first part_delete_text)

reads_delete : ReadsDelete part_delete_text read_delete part (Some (equals_expr (codes "edition"))) test_edition 99997
unfolding everything read_delete column_expr parameter_expr equals_expr
reads_delete = record {
  read = refl;
  statement = λ tree. refl;
  formats = refl;
  tests = λ schema at tree is. tests_equals schema at (part tree) is (codes "edition") 0 (needed (codes "edition") Integer) refl refl [] refl (rw is refl) max_budget refl refl refl;
  accepted = λ schema tree alone low. rw (low, alone) refl;
}

takes_delete : (n : ℤ) → Takes part_delete_text read_delete part test_edition (Int n ∷ [])
unfolding everything read_delete
takes_delete n = record { whole = lit≤ tt; names = refl; typed = λ schema tree alone low. rw (low, alone) refl }

pub parts_go : (n : ℤ) → TakesOut part_delete_text (Int n ∷ []) part (equals_number 1 n)
parts_go n = record {
  parsed = read_delete;
  condition = Some (equals_expr (codes "edition"));
  filter = test_edition;
  left = 99997;
  reads = reads_delete;
  takes = takes_delete n;
  named = λ tree. refl;
  tested = λ tree row. and_true _ ∙ equals_is (column row 1) n;
}

-- ---- of a file of it, from a number on

abbrev edition_is : Term
edition_is = op2 (by.Compare compare.Eq Binary) (col 1 1) (col 0 0)

abbrev file_is : Term
file_is = op2 (by.Compare compare.Eq Binary) (col 1 2) (col 0 1)

abbrev number_is : Term
number_is = op2 (by.Compare compare.Ge Binary) (col 1 3) (col 0 2)

abbrev of_edition : Expr
of_edition = compare_expr binary.Eq None (codes "edition") 1

abbrev of_file : Expr
of_file = compare_expr binary.Eq None (codes "file") 2

abbrev of_number : Expr
of_number = compare_expr binary.Ge None (codes "number") 3

abbrev test_from : List Term
test_from = edition_is ∷ file_is ∷ number_is ∷ []

abbrev from_number_on : Expr
from_number_on = and_expr (and_expr of_edition of_file) of_number

module _ (schema : Schema) (at tree : ℕ) (is : slice_get schema.tables at ≡ Some (part tree)) where
  abbrev cx : Context
  cx = context_of schema at (part tree) [] false true

  edition_named : Names cx 2 None (codes "edition") (col 1 1) of_column
  unfolding everything
  edition_named s = rw (is, is) refl

  file_named : Names cx 2 None (codes "file") (col 1 2) of_column
  unfolding everything
  file_named s = rw (is, is) refl

  number_named : Names cx 2 None (codes "number") (col 1 3) of_column
  unfolding everything
  number_named s = rw (is, is) refl

  edition_equals : Combines cx 2 binary.Eq (col 1 1) (col 0 0) edition_is of_column nothing
  unfolding everything
  edition_equals = record { no_truth = λ y. refl; no_alias = λ y. refl; no_word = λ y. refl; combines = λ s. rw is refl }

  file_equals : Combines cx 2 binary.Eq (col 1 2) (col 0 1) file_is of_column nothing
  unfolding everything
  file_equals = record { no_truth = λ y. refl; no_alias = λ y. refl; no_word = λ y. refl; combines = λ s. rw is refl }

  number_from : Combines cx 2 binary.Ge (col 1 3) (col 0 2) number_is of_column nothing
  unfolding everything
  number_from = record { no_truth = λ y. refl; no_alias = λ y. refl; no_word = λ y. refl; combines = λ s. rw is refl }

from_tests : (schema : Schema) (at tree : ℕ) → slice_get schema.tables at ≡ Some (part tree) → tests lower (context_of schema at (part tree) [] false true) [] (Some from_number_on) (fresh 2 max_budget)
    ≡ Ok (test_from, record (fresh 2 max_budget) { budget = 99989 })
unfolding tests
from_tests schema at tree is =
    let here = cx schema at tree is in
    let one = lower_compare here 2 binary.Eq None (codes "edition") (col 1 1) edition_is of_column 1 (edition_named schema at tree is) (edition_equals schema at tree is) 696 99998 refl refl refl in
    let two = lower_compare here 2 binary.Eq None (codes "file") (col 1 2) file_is of_column 2 (file_named schema at tree is) (file_equals schema at tree is) 696 99995 refl refl refl in
    let three = lower_compare here 2 binary.Ge None (codes "number") (col 1 3) number_is of_column 3 (number_named schema at tree is) (number_from schema at tree is) 697 99992 refl refl refl in
    let front = lower_and here 2 of_edition of_file edition_is file_is 698 99999 99995 99992 refl one two in
    let all = lower_and here 2 (and_expr of_edition of_file) of_number (op2 by.And edition_is file_is) number_is 699 100000 99992 99989 refl front three nothing in
    rw all refl

unfoldable pub read_from : Parsed
unfolding everything
read_from = parsed_or (first delete_from_text)

reads_from : ReadsDelete delete_from_text read_from part (Some from_number_on) test_from 99989
unfolding everything read_from name_expr given_expr binary_expr
reads_from = record {
  read = refl;
  statement = λ tree. refl;
  formats = refl;
  tests = λ schema at tree is. from_tests schema at tree is;
  accepted = λ schema tree alone low. rw (low, alone) refl;
}

takes_from : (n f m : ℤ) → Takes delete_from_text read_from part test_from (Int n ∷ Int f ∷ Int m ∷ [])
unfolding everything read_from
takes_from n f m = record { whole = lit≤ tt; names = refl; typed = λ schema tree alone low. rw (low, alone) refl }

pub rest_goes : (n f m : ℤ) → TakesOut delete_from_text (Int n ∷ Int f ∷ Int m ∷ []) part (is_part_from n f m)
rest_goes n f m = record {
  parsed = read_from;
  condition = Some from_number_on;
  filter = test_from;
  left = 99989;
  reads = reads_from;
  takes = takes_from n f m;
  named = λ tree. refl;
  tested = λ tree row. three_same _ _ _ _ _ _ (equals_is (column row 1) n) (equals_is (column row 2) f) (from_number (column row 3) m);
}
