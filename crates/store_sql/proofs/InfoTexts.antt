-- The text that reads the infos of the headers of a number.
use Rattle.std.proofs.Common.{◌≡◌, ◌-◌, ◌==◌, ◌^◌, ℕ, ℤ, Bool, List, [], ◌∷◌, map, filter, codes, find, nat_le, true, false, cond, Ok, Err, Some, None, Option, Result, IfOk, IfErr, IsTrue, Vec, refl, sym, ap, subst}
use Rattle.std.proofs.Common.{subst₂, ◌∙◌, lit≤, slice_get}
use Rattle.std.proofs.lemmas.Bool.{lt-leb}
use Rattle.std.specs.List.Sorted.{IsPermutation}
use Rattle.std.specs.declared.alloc.Global.{Global}
use Rattle.sqlite.specs.declared.types.Value.TheVariants.{Int}
use Rattle.sqlite.specs.Order.{Row}
use Rattle.sqlite.specs.Schema.{Schema}
use Rattle.sqlite.specs.Table.{Table}
use Rattle.sqlite.specs.Term.{col}
use Rattle.sqlite.specs.Kind.TheVariants.{Integer, Text}
use Rattle.sqlite.specs.Compile.{first, with_command}
use Rattle.sqlite.specs.Listing.{understood, reads_listing}
use Rattle.sqlite.specs.State.{State, Shown, Survives, CommitsShowing, FailsToQuery, IsUnchanged}
use Rattle.sqlite.specs.declared.error.Error.{Error}
use Rattle.sqlite.proofs.StateLemmas.{survives_weaker}
use Rattle.sqlite_tied.specs.Compute.{everything}
use Rattle.sqlite_ast.specs.declared.Core.{out-Core}
use Rattle.sqlite_ast.specs.declared.Select.{out-Select}
use Rattle.sqlite_ast.specs.declared.Shown.{Shown as Shown', out-Shown}
use Rattle.sqlite_ast.specs.declared.Expr.{Expr}
use Rattle.sqlite_ast.specs.declared.Expr.TheOpen.{Shown-F}
use Rattle.sqlite_ast.specs.declared.Statement.TheVariants as written
use Rattle.sqlite_resolve.specs.Body.{result, outputs, tests, shown as shown', heading, is_column, declared as declared_name}
use Rattle.sqlite_resolve.specs.Expr.{lower}
use Rattle.sqlite_resolve.specs.Lowering.{fresh, max_budget, nothing}
use Rattle.sqlite_resolve.specs.Order.{sorts}
use Rattle.sqlite_resolve.specs.Scope.{Name, find as find_name, in_level, only, hit, column_in, is_among, declared}
use Rattle.sqlite_resolve.specs.Select.{outermost}
use Rattle.sqlite_resolve.specs.declared.scope.Output.{Output}
use Rattle.sqlite_resolve.specs.declared.state.Carried.{Carried}
use Rattle.sqlite_schema.specs.Names.{column_named, place_of}
use Rattle.sqlite_schema.specs.declared.schema.Column.{Column}
use Rattle.sqlite_syntax.specs.declared.statement.Parsed.{Parsed}
use Rattle.sqlite_typing.specs.Types.{accepts_program}
use Rattle.store_tables.specs.Tables.{needed}
use Rattle.store_tables.specs.Effects.{Has, equals_number, shown, FailsToRead}
use Rattle.store_tables.proofs.DeleteLemmas.{column_expr, parameter_expr, equals_expr, out_column, lower_column, tests_equals}
use Rattle.store_tables.proofs.ListLemmas.{passes}
use Rattle.store_sql.proofs.NumberTexts.{column_shown}
use Rattle.store_sql.proofs.ListingLemmas.{IsQuery, ShowsRow, command_with, TakesValues, read_rows, shown_answers, query_fails}
use Rattle.store_tables.proofs.ReadLemmas.{CanSelect, source_of, core_with, select_with, context_of, level_of, left_of, plainly, query_with, understood_is}
use Rattle.store_sql.proofs.ReadTexts.{of_column}
use Rattle.store_tables.proofs.SilentLemmas.{commits_none, shown_open}
use Rattle.store_tables.proofs.TextLemmas.{parsed_or}
use Rattle.store_sql.specs.Infos.{informed, headers_with}
use Rattle.store_sql.specs.HeaderTable.{header}
use Rattle.store_sql.specs.HeaderTexts.{info_text}
use Rattle.store_sql.proofs.HeaderReadTexts.{test_one, one_read}

-- ---- two columns

abbrev two : Name → Name → List Shown'
two one other = column_shown one ∷ column_shown other ∷ []

out_two : (one other table : Name) (test : Option Expr) → (out-Core (core_with (two one other) table test)).shown ≡ two one other
unfolding everything core_with
out_two one other table test = refl

out_shown : (name : Name) → out-Shown (column_shown name) ≡ Shown-F.One (column_expr name) None name
unfolding everything column_shown
out_shown name = refl

abbrev output : Name → ℕ → Carried → Output
output name place carried = record { name = name; is_alias = false; is_column = true; term = col 1 place; carried = carried }

module _ (schema : Schema) (at : ℕ) (table : Table) (has : CanSelect schema at table) where
  heading_column : (name : Name) (k : ℕ) (c : Column) → column_named table name ≡ Some k → slice_get table.columns k ≡ Some c → heading (context_of schema at table [] true true) (column_expr name) name ≡ c.name
  unfolding heading find_name in_level only hit column_in is_among declared_name
  heading_column name k c place there = let is = has.is in rw (out_column name, is, place) (rw (is, there) refl)

  module _ (one : Name) (k : ℕ) (c : Column) (place : column_named table one ≡ Some k) (there : slice_get table.columns k ≡ Some c) (other : Name) (l : ℕ) (d : Column) (place' : column_named table other ≡ Some l)
      (there' : slice_get table.columns l ≡ Some d) (test : Option Expr) where
    two_are : result lower (outermost schema) (level_of at table) (core_with (two one other) table.name test) (fresh 2 max_budget)
        ≡ Ok (output c.name (place_of table k) (declared table k c) ∷ output d.name (place_of table l) (declared table l d) ∷ [], record (left_of (max_budget - 1 - 1)) { last = declared table l d })
    unfolding result outputs shown' is_column
    two_are = rw (
      out_two one other table.name test,
      out_shown one,
      lower_column schema at table has.is one k c place there [] true true 699 (fresh 2 max_budget) refl refl,
      heading_column one k c place there,
      out_column one,
      out_shown other,
      lower_column schema at table has.is other l d place' there' [] true true 699 (record (left_of (max_budget - 1)) { last = declared table k c }) refl refl,
      heading_column other l d place' there',
      out_column other,
    ) refl

-- ---- the text

unfoldable pub read_info : Parsed
unfolding everything
read_info = parsed_or (first info_text)

abbrev info : Column
info = needed (codes "info") Text

abbrev number : Column
number = needed (codes "number") Integer

abbrev shows : List Shown'
shows = two (codes "info") (codes "number")

abbrev condition : Option Expr
condition = Some (equals_expr (codes "number"))

abbrev pub infos_of : ℕ → ℕ → List Output
infos_of at tree = output (codes "info") 4 of_column ∷ output (codes "number") 0 nothing ∷ []

is_read : first info_text ≡ Ok read_info
unfolding everything read_info
is_read = refl

is_select : (tree : ℕ) → read_info.statement ≡ written.Select (select_with shows (header tree).name condition [])
unfolding everything read_info column_expr column_shown parameter_expr equals_expr source_of core_with select_with
is_select tree = refl

is_ordered : (tree : ℕ) → (out-Select (select_with shows (header tree).name condition [])).order ≡ []
unfolding everything column_expr column_shown parameter_expr equals_expr source_of core_with select_with
is_ordered tree = refl

formats_none : read_info.formats ≡ []
unfolding everything read_info
formats_none = refl

info_place : (tree : ℕ) → column_named (header tree) (codes "info") ≡ Some 3
unfolding everything
info_place tree = refl

number_place : (tree : ℕ) → column_named (header tree) (codes "number") ≡ Some 0
unfolding everything
number_place tree = refl

fourth : (tree : ℕ) → place_of (header tree) 3 ≡ 4
unfolding everything
fourth tree = refl

zeroth : (tree : ℕ) → place_of (header tree) 0 ≡ 0
unfolding everything
zeroth tree = refl

text_carried : (tree : ℕ) → declared (header tree) 3 info ≡ of_column
unfolding everything
text_carried tree = refl

nothing_carried : (tree : ℕ) → declared (header tree) 0 number ≡ nothing
unfolding everything
nothing_carried tree = refl

results : (schema : Schema) (at tree : ℕ) (has : CanSelect schema at (header tree)) → result lower (outermost schema) (level_of at (header tree)) (core_with shows (header tree).name condition) (fresh 2 max_budget)
    ≡ Ok (infos_of at tree, left_of 99998)
results schema at tree has =
    let core = core_with shows (header tree).name condition in
    subst₂ (λ (k : ℕ) (c : Carried). result lower (outermost schema) (level_of at (header tree)) core (fresh 2 max_budget)
    ≡ Ok (output (codes "info") 4 of_column ∷ output (codes "number") k c ∷ [], record (left_of 99998) { last = c })) (zeroth tree) (nothing_carried tree)
    (subst₂ (λ (k : ℕ) (c : Carried). result lower (outermost schema) (level_of at (header tree)) core (fresh 2 max_budget)
    ≡ Ok (output (codes "info") k c ∷ output (codes "number") (place_of (header tree) 0) (declared (header tree) 0 number) ∷ [], record (left_of 99998) { last = declared (header tree) 0 number })) (fourth tree)
    (text_carried tree)
    (two_are schema at (header tree) has (codes "info") 3 info (info_place tree) refl (codes "number") 0 number (number_place tree) refl condition))

is_tested : (schema : Schema) (at tree : ℕ) → slice_get schema.tables at ≡ Some (header tree) → tests lower (context_of schema at (header tree) (infos_of at tree) false true) [] condition (left_of 99998)
    ≡ Ok (test_one, plainly 99995 nothing)
unfolding everything column_expr parameter_expr equals_expr
is_tested schema at tree is = tests_equals schema at (header tree) is (codes "number") 0 number refl refl (infos_of at tree) refl refl 99998 refl refl refl

unsorted : (schema : Schema) (at tree : ℕ) → sorts lower (context_of schema at (header tree) (infos_of at tree) false true) (infos_of at tree) [] (plainly 99995 nothing) ≡ Ok ([], plainly 99995 nothing)
unfolding everything
unsorted schema at tree = refl

takes_none : (schema : Schema) (at tree : ℕ) → find (λ t. t.tree == (header tree).tree) schema.tables ≡ Some (header tree) → nat_le (2 ^ 31) (header tree).tree ≡ false
    → accepts_program schema [] (query_with (header tree).tree (infos_of at tree) test_one []) [] ≡ true
unfolding everything
takes_none schema at tree alone low = rw (low, alone) refl

takes_number : (n : ℤ) (schema : Schema) (at tree : ℕ) → find (λ t. t.tree == (header tree).tree) schema.tables ≡ Some (header tree) → nat_le (2 ^ 31) (header tree).tree ≡ false
    → accepts_program schema [] (query_with (header tree).tree (infos_of at tree) test_one []) (Int n ∷ []) ≡ true
unfolding everything
takes_number n schema at tree alone low = rw (low, alone) refl

compiles : (schema : Schema) (at tree : ℕ) (has : CanSelect schema at (header tree)) → (understood schema info_text ≡ Ok (with_command read_info ([], (command_with (header tree).tree (infos_of at tree) test_one [], None))))
    × (reads_listing schema info_text ≡ false)
compiles schema at tree has =
    understood_is schema at (header tree) has shows (infos_of at tree) 99998 condition (results schema at tree has) test_one 99995 nothing (is_tested schema at tree has.is) [] [] 99995 nothing (unsorted schema at tree)
    (is_ordered tree) (takes_none schema at tree has.alone (lt-leb (2 ^ 31) (header tree).tree has.stored)) info_text read_info is_read (is_select tree) formats_none

query_info : IsQuery info_text read_info header infos_of test_one []
query_info = record {
  select = select_with shows (codes "edition") condition [];
  read = is_read;
  statement = is_select 0;
  means = λ schema at tree has. (compiles schema at tree has).0;
  unlisted = λ schema at tree has. (compiles schema at tree has).1;
}

takes_info : (n : ℤ) → TakesValues info_text read_info header infos_of test_one [] (Int n ∷ [])
unfolding everything read_info
takes_info n = record { whole = lit≤ tt; names = refl; typed = takes_number n }

shows_info : ShowsRow header infos_of [] [] (λ tree row. informed (shown (header tree) row))
unfolding everything
shows_info = record { shows = λ at tree params r. refl; keyed = λ tree params r. refl; compares = λ a b. refl }

-- ---- its answer

kept_informed : (tree : ℕ) (n : ℤ) (rows : List Row) → map (λ row. informed (shown (header tree) row)) (filter (passes (Int n ∷ []) test_one) rows) ≡ map informed (filter (equals_number 1 n) (map (shown (header tree)) rows))
kept_informed tree n [] = refl
kept_informed tree n (r ∷ rows) = by_test (passes (Int n ∷ []) test_one r) (equals_number 1 n (shown (header tree) r)) (one_read tree n r) (kept_informed tree n rows)
  where
    by_test : (a b : Bool) → a ≡ b → map (λ row. informed (shown (header tree) row)) (filter (passes (Int n ∷ []) test_one) rows) ≡ map informed (filter (equals_number 1 n) (map (shown (header tree)) rows))
        → map (λ row. informed (shown (header tree) row)) (cond a (r ∷ filter (passes (Int n ∷ []) test_one) rows) (filter (passes (Int n ∷ []) test_one) rows))
        ≡ map informed (cond b (shown (header tree) r ∷ filter (equals_number 1 n) (map (shown (header tree)) rows)) (filter (equals_number 1 n) (map (shown (header tree)) rows)))
    by_test true true e h = ap (λ l. informed (shown (header tree) r) ∷ l) h
    by_test false false e h = h
    by_test true false e h = cc
    by_test false true e h = cc

module _ (n : ℤ) (old new : State) where
  abbrev pub InformsOf : List Row → Type 0
  InformsOf rows = IsPermutation (map informed (headers_with n old.now)) rows × IsUnchanged old new

  shown_informs : (rows : List Row) → Has header old.now → Shown info_text (Int n ∷ []) old new rows → InformsOf rows
  shown_informs rows has h =
      let it = shown_answers info_text read_info header infos_of test_one [] query_info [] (λ tree row. informed (shown (header tree) row)) shows_info (Int n ∷ []) old new rows has h in
      let is : map (λ row. informed (shown (header has.1) row)) (filter (passes (Int n ∷ []) test_one) (old.now.trees (header has.1).tree)) ≡ map informed (headers_with n old.now) =
      kept_informed has.1 n (old.now.trees (header has.1).tree) ∙ ap (λ l. map informed (filter (equals_number 1 n) l)) (sym (read_rows old.now.schema has.0 (header has.1) has.2 old.now.trees)) in
      (subst (λ l. IsPermutation l rows) is it.0.0, it.1)

  module _ (has : IsTrue old.is_open → Has header old.now) where
    pub informs : (result : Result (Vec Row Global) Error) → IfOk result (λ rows. Shown info_text (Int n ∷ []) old new rows.items) → IfOk result (λ rows. InformsOf rows.items)
    informs (Err e) h = tt
    informs (Ok rows) h = shown_informs rows.items (has (shown_open info_text read_info query_info.select query_info.read query_info.statement old new (Int n ∷ []) rows.items h)) h

    pub fails_to_inform : (result : Result (Vec Row Global) Error) → IfErr result (FailsToQuery info_text (Int n ∷ []) old new) → IfErr result (FailsToRead old new)
    fails_to_inform (Ok rows) h = tt
    fails_to_inform (Err e) h = query_fails info_text read_info header infos_of test_one [] query_info (Int n ∷ []) (takes_info n) old new has e h

  pub informs_alone : Survives old new (CommitsShowing info_text (Int n ∷ []) old) → Survives old new (λ _. ⊥)
  informs_alone s = survives_weaker old new _ _ (λ clean db. commits_none info_text read_info query_info.select query_info.read query_info.statement (Int n ∷ []) old db) s
