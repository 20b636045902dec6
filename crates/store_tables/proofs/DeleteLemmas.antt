-- What `DELETE FROM table` and `DELETE FROM table WHERE column = ?1` stand for, over any schema that has the table.
use Rattle.std.proofs.Common.{◌≡◌, ℕ, suc, ◌-◌, pos, negsuc, List, [], ◌∷◌, Bool, true, false, Some, None, Option, Ok, refl, slice_get, nat_lt}
use Rattle.sqlite.specs.Term.{Term, lit, col, op2}
use Rattle.sqlite.specs.Table.{Table}
use Rattle.sqlite.specs.Schema.{Schema}
use Rattle.sqlite.specs.Query.{Query, inner, end}
use Rattle.sqlite.specs.declared.types.Value.TheVariants.{Int}
use Rattle.sqlite_sql.specs.declared.ops.BinaryOp.TheVariants as by
use Rattle.sqlite_sql.specs.declared.ops.CompareOp.TheVariants as compare
use Rattle.sqlite_value.specs.declared.keys.Collation.TheVariants.{Binary}
use Rattle.sqlite_resolve.specs.Scope.{Name, column, Context, find as find_name, in_level, only, hit, column_in, term_of, column_at, declared, is_among}
use Rattle.sqlite_resolve.specs.Expr.{lower_to, lower, node, opened, passes, operation, both, wanted_truth, tests_truth, tests_alias, combine}
use Rattle.sqlite_resolve.specs.Compare.{compared}
use Rattle.sqlite_resolve.specs.Lowering.{fresh, max_budget, spend, begin, finish, nothing, chosen}
use Rattle.sqlite_resolve.specs.declared.state.State.{State}
use Rattle.sqlite_resolve.specs.declared.scope.Output.{Output}
use Rattle.sqlite_resolve.specs.declared.state.Carried.{Carried}
use Rattle.sqlite_resolve.specs.Body.{tests}
use Rattle.sqlite_resolve.specs.Write.{deleted, picked}
use Rattle.sqlite_resolve.specs.Program.{program as program'}
use Rattle.sqlite_schema.specs.Names.{column_named, place_of}
use Rattle.sqlite_schema.specs.declared.schema.Column.{Column}
use Rattle.sqlite_schema.specs.declared.program.Program.{Program}
use Rattle.sqlite_draft.specs.declared.query.Draft.{Draft}
use Rattle.sqlite_typing.specs.Types.{accepts_program}
use Rattle.sqlite_tied.specs.Compute.{everything}
use Rattle.sqlite_ast.specs.declared.Expr.{Expr, out-Expr, roll-Expr}
use Rattle.sqlite_ast.specs.declared.Expr.TheOpen.{Expr-F}
use Rattle.sqlite_ast.specs.declared.Binary.TheVariants as binary
use Rattle.sqlite_ast.specs.declared.Statement.TheVariants as written
use Rattle.sqlite_syntax.specs.declared.statement.Parsed.{Parsed}
use Rattle.sqlite.specs.Command.TheVariants.{Delete}
use Rattle.sqlite.specs.Compile.{compiled, first, planned, meaning, command, delete, with_command, returning, shows, timed}
use Rattle.sqlite.specs.Listing.{understood}
use Rattle.store_tables.specs.Found.{HasTable}
use Rattle.store_tables.proofs.ReadLemmas.{context_of}

-- ---- `column = ?1`

unfoldable pub column_expr : Name → Expr
column_expr name = roll-Expr (Expr-F.Column None name)

unfoldable pub parameter_expr : Expr
parameter_expr = roll-Expr (Expr-F.Parameter 1)

unfoldable pub equals_expr : Name → Expr
equals_expr name = roll-Expr (Expr-F.Binary binary.Eq (column_expr name) parameter_expr)

pub out_column : (name : Name) → out-Expr (column_expr name) ≡ Expr-F.Column None name
unfolding everything column_expr
out_column name = refl

out_parameter : out-Expr parameter_expr ≡ Expr-F.Parameter 1
unfolding everything parameter_expr
out_parameter = refl

out_equals : (name : Name) → out-Expr (equals_expr name) ≡ Expr-F.Binary binary.Eq (column_expr name) parameter_expr
unfolding everything equals_expr column_expr parameter_expr
out_equals name = refl

abbrev pub after : ℕ → State → Carried → State
after n s carried = record s { budget = s.budget - n; written = None; last = carried }

module _ (schema : Schema) (at : ℕ) (table : Table) (is : slice_get schema.tables at ≡ Some table) (name : Name) (k : ℕ) (c : Column) (place : column_named table name ≡ Some k) (has : slice_get table.columns k ≡ Some c)
    (shows : List Output) where
  module _ (may_aggregate may_alias : Bool) where
    column_is : (s : State) → column (context_of schema at table shows may_aggregate may_alias) None name s ≡ Ok (col 1 (place_of table k), record s { last = declared table k c })
    unfolding column find_name in_level only hit column_in term_of column_at is_among
    column_is s = rw (is, place, is, has) refl

    pub lower_column : (d : ℕ) (s : State) → nat_lt 1 s.budget ≡ true → s.written ≡ None → lower_to (suc d) (context_of schema at table shows may_aggregate may_alias) (column_expr name) s
        ≡ Ok (col 1 (place_of table k), after 1 s (declared table k c))
    unfolding lower_to node opened spend begin finish passes
    lower_column d s rich clear = rw (rich, out_column name, clear, column_is (record s { budget = s.budget - 1; written = None; last = nothing })) refl

  abbrev cx : Context
  cx = context_of schema at table shows false true

  lower_parameter : (d : ℕ) (s : State) → nat_lt 1 s.budget ≡ true → s.written ≡ None → lower_to (suc d) cx parameter_expr s ≡ Ok (col 0 0, after 1 s nothing)
  unfolding lower_to node opened spend begin finish passes
  lower_parameter d s rich clear = rw (rich, out_parameter, clear) refl

  abbrev test : Term
  test = op2 (by.Compare compare.Eq Binary) (col 1 (place_of table k)) (col 0 0)

  module _ (plain : chosen (declared table k c) nothing ≡ Binary) (compares : compared cx (by.Compare compare.Eq Binary) (col 1 (place_of table k)) (col 0 0) ≡ test) where
    module _ (b : ℕ) (rich : nat_lt 1 b ≡ true) (second : nat_lt 1 (b - 1) ≡ true) (third : nat_lt 1 (b - 1 - 1) ≡ true) where
      abbrev begun : State
      begun = record (fresh 2 max_budget) { budget = b - 1 }

      both_is : both (lower_to 699) cx binary.Eq (column_expr name) parameter_expr begun ≡ Ok (test, record begun { budget = b - 1 - 1 - 1; last = nothing })
      unfolding both tests_truth tests_alias combine
      both_is = rw (lower_column false true 698 begun second refl, lower_parameter 698 (after 1 begun (declared table k c)) third refl, plain, compares) refl

      lower_equals : lower cx (equals_expr name) (record (fresh 2 max_budget) { budget = b }) ≡ Ok (test, record (fresh 2 max_budget) { budget = b - 1 - 1 - 1 })
      unfolding lower_to node opened spend begin finish passes operation wanted_truth
      lower_equals = rw (rich, out_equals name, both_is) refl

      pub tests_equals : tests lower cx [] (Some (equals_expr name)) (record (fresh 2 max_budget) { budget = b }) ≡ Ok (test ∷ [], record (fresh 2 max_budget) { budget = b - 1 - 1 - 1 })
      unfolding tests
      tests_equals = rw lower_equals refl

-- ---- DELETE, by a test that is read so

abbrev pub doomed : Table → List Term → Query
doomed table filter = record { from = inner table.tree end; filter = filter; group = None; project = col 1 0 ∷ []; distinct = false; collations = []; order = []; limit = lit (Int (negsuc 0)); offset = lit (Int (pos 0)) }

module _ (schema : Schema) (at : ℕ) (table : Table) (has : HasTable schema at table) (test : Option Expr) (filter : List Term) (left : ℕ)
    (tests_are : tests lower (context_of schema at table [] false true) [] test (fresh 2 max_budget) ≡ Ok (filter, record (fresh 2 max_budget) { budget = left })) (accepted : accepts_program schema [] (doomed table filter) [] ≡ true) where
  abbrev draft : Draft
  draft = record { from = inner table.tree end; filter = filter; group = None; project = col 1 0 ∷ []; distinct = false; collations = []; order = []; limit = lit (Int (negsuc 0)); offset = lit (Int (pos 0)) }

  deleted_is : deleted schema at table test ≡ Ok draft
  unfolding deleted picked
  deleted_is = rw tests_are refl

  abbrev program : Program
  program = record { lets = []; body = doomed table filter }

  program_is : program' schema [] draft ≡ Ok program
  unfolding program'
  program_is = rw accepted refl

  delete_is : delete schema table.name test ≡ Ok (Delete at program)
  unfolding delete
  delete_is = let named = has.named in let is = has.is in rw (named, is, deleted_is, program_is) refl

  planned_is : (p : Parsed) → p.statement ≡ written.Delete table.name test [] → p.formats ≡ [] → planned schema p ≡ Ok ([], (Delete at program, None))
  unfolding planned meaning command returning shows timed
  planned_is p statement formats = rw (statement, formats, delete_is) refl

  pub delete_text_is : (text : List ℕ) (p : Parsed) → first text ≡ Ok p → p.statement ≡ written.Delete table.name test [] → p.formats ≡ [] → understood schema text ≡ Ok (with_command p ([], (Delete at program, None)))
  unfolding compiled understood
  delete_text_is text p read statement formats = rw (read, planned_is p statement formats) refl
