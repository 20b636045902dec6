-- The texts that make the table of headers, write a row of it and take one out: what they do, and why they are refused.
use Rattle.std.proofs.Common.{◌≡◌, ◌⊎◌, ◌≤◌, ℕ, ℤ, List, [], ◌∷◌, codes, length, Some, Ok, Err, refl, ◌∙◌, lit≤}
use Rattle.sqlite.specs.Kind.TheVariants.{Integer}
use Rattle.sqlite.specs.Order.{column}
use Rattle.sqlite.specs.State.{State, Executes, ExecutesInside, Fails, IsUnchanged}
use Rattle.sqlite.specs.declared.error.Error.{Error}
use Rattle.sqlite.specs.declared.types.Value.TheVariants.{Null, Int, Text}
use Rattle.sqlite.specs.Term.{Term, lit, col, op2}
use Rattle.sqlite.specs.Collation.TheVariants.{Binary}
use Rattle.sqlite.specs.Source.TheVariants.{Values}
use Rattle.sqlite.specs.Compile.{first}
use Rattle.sqlite_sql.specs.declared.ops.BinaryOp.TheVariants as by
use Rattle.sqlite_sql.specs.declared.ops.CompareOp.TheVariants as compare
use Rattle.sqlite_tied.specs.Compute.{everything}
use Rattle.sqlite_trees.specs.Sound.{fits_kind, is_free_name, begins, same_name}
use Rattle.sqlite_value.specs.Order.{value_cmp}
use Rattle.sqlite_resolve.specs.Lowering.{max_budget}
use Rattle.sqlite_syntax.specs.declared.statement.Parsed.{Parsed}
use Rattle.store_tables.specs.Records.{HeaderRecord}
use Rattle.store_tables.specs.Tables.{needed}
use Rattle.store_tables.specs.Creates.{IsFree, IsMade}
use Rattle.store_tables.specs.Effects.{equals_number}
use Rattle.store_tables.specs.Refusals.{RefusesToMake}
use Rattle.store_sql.proofs.InsertTexts.{AddsRow, given_row}
use Rattle.store_tables.proofs.CompareLemmas.{and_true, equals_is}
use Rattle.store_tables.proofs.CreateLemmas.{ReadsCreate, makes, Stands, make_fails}
use Rattle.store_tables.proofs.DeleteLemmas.{column_expr, parameter_expr, equals_expr, tests_equals}
use Rattle.store_sql.proofs.DeleteTexts.{Takes, ReadsDelete, TakesOut}
use Rattle.store_tables.proofs.InsertLemmas.{cast_null}
use Rattle.store_tables.proofs.TextLemmas.{parsed_or, ReadsInsert}
use Rattle.store_sql.specs.HeaderRecords.{header_row}
use Rattle.store_sql.specs.HeaderTable.{header}
use Rattle.store_sql.specs.HeaderTexts.{header_create_text, header_insert_text, header_delete_text}

-- ---- CREATE

unfoldable pub read_create : Parsed
unfolding everything
read_create = parsed_or (first header_create_text)

reads_create : ReadsCreate header_create_text read_create (header 0)
unfolding everything read_create
reads_create = record { read = refl; statement = refl; formats = refl; name = refl; plain = refl; table_is = refl; timeless = refl; defined = refl; unreserved = refl; itself = refl; whole = λ shape. refl; uncounted = refl }

create_stands : Stands header_create_text read_create (header 0)
unfolding everything read_create fits_kind is_free_name begins same_name value_cmp lib.Ieee.is_nan lib.Ieee.lt
create_stands = record { whole = lit≤ tt; names = refl; is_text = refl; named = refl; unreserved = refl; formed = refl; fits = refl; short = lit≤ tt; plain = refl; keys = λ key h. absurd h }

pub makes_header : (old new : State) (count : ℕ) → IsFree old.now.schema (header 0).name → Executes header_create_text [] old new (Ok count) → IsMade (header 0) old.now new.now
makes_header old new count = makes header_create_text read_create (header 0) reads_create old new count

pub make_fails_in : (old new : State) → IsFree old.now.schema (header 0).name → (e : Error) → ExecutesInside 0 header_create_text [] old new (Err e) → (RefusesToMake (header 0) old e × IsUnchanged old new) ⊎ Fails old new ⊥ e
make_fails_in = make_fails header_create_text read_create (header 0) reads_create create_stands

-- ---- INSERT

abbrev header_terms : List Term
header_terms = col 0 0 ∷ lit Null ∷ col 0 1 ∷ col 0 2 ∷ col 0 3 ∷ []

unfoldable pub read_insert : Parsed
unfolding everything
read_insert = parsed_or (first header_insert_text)

reads_insert : ReadsInsert header_insert_text read_insert header (Values header_terms 5)
unfolding everything read_insert
reads_insert = record { read = refl; statement = λ tree. refl; formats = refl; timeless = λ tree. refl; rows = λ schema tree. refl }

whole_insert : (length header_insert_text ≤ read_insert.tail) × (4 ≡ length read_insert.names)
unfolding everything read_insert
whole_insert = (lit≤ tt, refl)

pub adds_header : (h : HeaderRecord) → AddsRow header_insert_text header (header_row h)
adds_header h =
    given_row header_insert_text read_insert (codes "edition") (header 0).columns (header 0).key (header 0).primary (header 0).uniques (header 0).orders header_terms 5 reads_insert (header_row h) whole_insert refl refl
    h.number (Null ∷ Text h.owner ∷ Text h.title ∷ Text h.info ∷ []) refl (λ tree. refl) (rw cast_null refl) refl

-- ---- DELETE

abbrev test_number : List Term
test_number = op2 (by.Compare compare.Eq Binary) (col 1 0) (col 0 0) ∷ []

unfoldable pub read_delete : Parsed
unfolding everything
read_delete = parsed_or (first header_delete_text)

reads_delete : ReadsDelete header_delete_text read_delete header (Some (equals_expr (codes "number"))) test_number 99997
unfolding everything read_delete column_expr parameter_expr equals_expr
reads_delete = record {
  read = refl;
  statement = λ tree. refl;
  formats = refl;
  tests = λ schema at tree is. tests_equals schema at (header tree) is (codes "number") 0 (needed (codes "number") Integer) refl refl [] refl refl max_budget refl refl refl;
  accepted = λ schema tree alone low. rw (low, alone) refl;
}

takes_delete : (n : ℤ) → Takes header_delete_text read_delete header test_number (Int n ∷ [])
unfolding everything read_delete
takes_delete n = record { whole = lit≤ tt; names = refl; typed = λ schema tree alone low. rw (low, alone) refl }

pub header_goes : (n : ℤ) → TakesOut header_delete_text (Int n ∷ []) header (equals_number 1 n)
header_goes n = record {
  parsed = read_delete;
  condition = Some (equals_expr (codes "number"));
  filter = test_number;
  left = 99997;
  reads = reads_delete;
  takes = takes_delete n;
  named = λ tree. refl;
  tested = λ tree row. and_true _ ∙ equals_is (column row 0) n;
}
