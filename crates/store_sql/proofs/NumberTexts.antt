-- The text that reads the rowids and the numbers of the editions, without their texts.
use Rattle.std.proofs.Common.{◌≡◌, ◌-◌, ◌==◌, ◌^◌, ℕ, List, [], ◌∷◌, map, filter, codes, find, nat_le, true, false, Ok, Some, None, refl, sym, ap, subst, subst₂, ◌∙◌, lit≤, slice_get}
use Rattle.std.proofs.lemmas.Bool.{lt-leb}
use Rattle.std.specs.List.Sorted.{IsPermutation}
use Rattle.sqlite.specs.Order.{Row}
use Rattle.sqlite.specs.Schema.{Schema}
use Rattle.sqlite.specs.Table.{Table}
use Rattle.sqlite.specs.Term.{col}
use Rattle.sqlite.specs.Kind.TheVariants.{Integer}
use Rattle.sqlite.specs.Compile.{first, with_command}
use Rattle.sqlite.specs.Listing.{understood, reads_listing}
use Rattle.sqlite.specs.State.{State, Shown}
use Rattle.sqlite_tied.specs.Compute.{everything}
use Rattle.sqlite_ast.specs.declared.Core.{out-Core}
use Rattle.sqlite_ast.specs.declared.Shown.{Shown as Shown', out-Shown, roll-Shown}
use Rattle.sqlite_ast.specs.declared.Sort.{Sort}
use Rattle.sqlite_ast.specs.declared.Expr.TheOpen.{Shown-F}
use Rattle.sqlite_ast.specs.declared.Statement.TheVariants as written
use Rattle.sqlite_resolve.specs.Body.{result, outputs, tests, shown as shown', heading, is_column, declared as declared_name}
use Rattle.sqlite_resolve.specs.Expr.{lower}
use Rattle.sqlite_resolve.specs.Lowering.{fresh, max_budget, nothing}
use Rattle.sqlite_resolve.specs.Order.{sorts}
use Rattle.sqlite_resolve.specs.Scope.{Name, find as find_name, in_level, only, hit, column_in, is_among, declared}
use Rattle.sqlite_resolve.specs.Select.{outermost}
use Rattle.sqlite_resolve.specs.declared.scope.Output.{Output}
use Rattle.sqlite_resolve.specs.declared.state.Carried.{Carried}
use Rattle.sqlite_schema.specs.Names.{column_named, place_of}
use Rattle.sqlite_schema.specs.declared.schema.Column.{Column}
use Rattle.sqlite_syntax.specs.declared.statement.Parsed.{Parsed}
use Rattle.sqlite_typing.specs.Types.{accepts_program}
use Rattle.store_tables.specs.Tables.{needed, edition}
use Rattle.store_tables.specs.Effects.{Has, rows_of, shown}
use Rattle.store_sql.specs.Reads.{IsNumbering, rowid_and_number, select_numbers}
use Rattle.store_tables.proofs.DeleteLemmas.{column_expr, out_column, lower_column}
use Rattle.store_sql.proofs.ListingLemmas.{IsQuery, ShowsRow, command_with, TakesValues, read_rows, shown_answers}
use Rattle.store_tables.proofs.RemoveLemmas.{all_pass}
use Rattle.store_tables.proofs.ReadLemmas.{CanSelect, rowid_expr, rowid_shown, source_of, core_with, select_with, out_rowid, out_one, out_order, lower_rowid, heading_is, rowid_output, context_of, level_of, left_of, plainly}
use Rattle.store_tables.proofs.ReadLemmas.{query_with, understood_is}
use Rattle.store_sql.proofs.ReadTexts.{sort_by, key_at}
use Rattle.store_tables.proofs.TextLemmas.{parsed_or}

-- ---- `rowid`, and one column

unfoldable pub column_shown : Name → Shown'
column_shown name = roll-Shown (Shown-F.One (column_expr name) None name)

abbrev beside : Name → List Shown'
beside name = rowid_shown ∷ column_shown name ∷ []

out_beside : (name table : Name) → (out-Core (core_with (beside name) table None)).shown ≡ beside name
unfolding everything core_with
out_beside name table = refl

out_shown : (name : Name) → out-Shown (column_shown name) ≡ Shown-F.One (column_expr name) None name
unfolding everything column_shown
out_shown name = refl

module _ (schema : Schema) (at : ℕ) (table : Table) (has : CanSelect schema at table) (no_rowid : column_named table (codes "rowid") ≡ None) (name : Name) (k : ℕ) (c : Column) (place : column_named table name ≡ Some k)
    (there : slice_get table.columns k ≡ Some c) where
  abbrev column_output : Output
  column_output = record { name = c.name; is_alias = false; is_column = true; term = col 1 (place_of table k); carried = declared table k c }

  heading_column : heading (context_of schema at table [] true true) (column_expr name) name ≡ c.name
  unfolding heading find_name in_level only hit column_in is_among declared_name
  heading_column = let is = has.is in rw (out_column name, is, place) (rw (is, there) refl)

  beside_is : result lower (outermost schema) (level_of at table) (core_with (beside name) table.name None) (fresh 2 max_budget)
      ≡ Ok (rowid_output table ∷ column_output ∷ [], record (left_of (max_budget - 1 - 1)) { last = declared table k c })
  unfolding result outputs shown' is_column
  beside_is = rw (
    out_beside name table.name,
    out_one,
    lower_rowid schema at table has no_rowid [] true true (fresh 2 max_budget) refl refl,
    heading_is schema at table has no_rowid [] true true,
    out_rowid,
    out_shown name,
    lower_column schema at table has.is name k c place there [] true true 699 (left_of (max_budget - 1)) refl refl,
    heading_column,
    out_column name,
  ) refl

-- ---- the text

unfoldable pub read_numbers : Parsed
unfolding everything
read_numbers = parsed_or (first select_numbers)

abbrev number : Column
number = needed (codes "number") Integer

abbrev pub numbers_of : ℕ → ℕ → List Output
numbers_of at tree = rowid_output (edition tree) ∷ record { name = codes "number"; is_alias = false; is_column = true; term = col 1 0; carried = nothing } ∷ []

abbrev by_number : List Sort
by_number = sort_by (codes "1") ∷ []

is_read : (first select_numbers ≡ Ok read_numbers) × (read_numbers.formats ≡ [])
unfolding everything read_numbers
is_read = (refl, refl)

is_select : (tree : ℕ) → read_numbers.statement ≡ written.Select (select_with (beside (codes "number")) (edition tree).name None by_number)
unfolding everything read_numbers rowid_expr rowid_shown column_expr column_shown source_of core_with select_with sort_by
is_select tree = refl

-- no column has the name `rowid`; the number is the first one, is kept in the first place, and carries nothing
editions_are : (tree : ℕ) → (column_named (edition tree) (codes "rowid") ≡ None) × (column_named (edition tree) (codes "number") ≡ Some 0) × (place_of (edition tree) 0 ≡ 0) × (declared (edition tree) 0 number ≡ nothing)
unfolding everything
editions_are tree = (refl, refl, refl, refl)

results : (schema : Schema) (at tree : ℕ) (has : CanSelect schema at (edition tree)) → result lower (outermost schema) (level_of at (edition tree)) (core_with (beside (codes "number")) (edition tree).name None) (fresh 2 max_budget)
    ≡ Ok (numbers_of at tree, left_of 99998)
results schema at tree has =
    subst₂ (λ (k : ℕ) (c : Carried). result lower (outermost schema) (level_of at (edition tree)) (core_with (beside (codes "number")) (edition tree).name None) (fresh 2 max_budget)
    ≡ Ok (rowid_output (edition tree) ∷ record { name = codes "number"; is_alias = false; is_column = true; term = col 1 k; carried = c } ∷ [], record (left_of 99998) { last = c })) (editions_are tree).2 (editions_are tree).3
    (beside_is schema at (edition tree) has (editions_are tree).0 (codes "number") 0 number (editions_are tree).1 refl)

sorted_by : (schema : Schema) (at tree : ℕ) → sorts lower (context_of schema at (edition tree) (numbers_of at tree) false true) (numbers_of at tree) by_number (plainly 99998 nothing) ≡ Ok (key_at 0 ∷ [], plainly 99996 nothing)
unfolding everything sort_by
sorted_by schema at tree = refl

takes_any : (schema : Schema) (at tree : ℕ) → find (λ t. t.tree == (edition tree).tree) schema.tables ≡ Some (edition tree) → nat_le (2 ^ 31) (edition tree).tree ≡ false
    → accepts_program schema [] (query_with (edition tree).tree (numbers_of at tree) [] (key_at 0 ∷ [])) [] ≡ true
unfolding everything
takes_any schema at tree alone low = rw (low, alone) refl

no_tests : (schema : Schema) (at tree : ℕ) → tests lower (context_of schema at (edition tree) (numbers_of at tree) false true) [] None (left_of 99998) ≡ Ok ([], plainly 99998 nothing)
unfolding everything
no_tests schema at tree = refl

compiles : (schema : Schema) (at tree : ℕ) (has : CanSelect schema at (edition tree))
    → (understood schema select_numbers ≡ Ok (with_command read_numbers ([], (command_with (edition tree).tree (numbers_of at tree) [] (key_at 0 ∷ []), None)))) × (reads_listing schema select_numbers ≡ false)
compiles schema at tree has =
    understood_is schema at (edition tree) has (beside (codes "number")) (numbers_of at tree) 99998 None (results schema at tree has) [] 99998 nothing (no_tests schema at tree) by_number (key_at 0 ∷ []) 99996 nothing
    (sorted_by schema at tree) (out_order (beside (codes "number")) (edition tree).name None by_number) (takes_any schema at tree has.alone (lt-leb (2 ^ 31) (edition tree).tree has.stored))
    select_numbers read_numbers is_read.0 (is_select tree) is_read.1

pub query_numbers : IsQuery select_numbers read_numbers edition numbers_of [] (key_at 0 ∷ [])
query_numbers = record {
  select = select_with (beside (codes "number")) (codes "edition") None by_number;
  read = is_read.0;
  statement = is_select 0;
  means = λ schema at tree has. (compiles schema at tree has).0;
  unlisted = λ schema at tree has. (compiles schema at tree has).1;
}

pub takes_numbers : TakesValues select_numbers read_numbers edition numbers_of [] (key_at 0 ∷ []) []
unfolding everything read_numbers
takes_numbers = record { whole = lit≤ tt; names = refl; typed = takes_any }

shows_numbers : ShowsRow edition numbers_of (key_at 0 ∷ []) (0 ∷ []) (λ tree row. rowid_and_number (shown (edition tree) row))
unfolding everything
shows_numbers = record { shows = λ at tree params r. refl; keyed = λ tree params r. refl; compares = λ a b. refl }

-- ---- its answer

both : {X Y Z : Type 0} (f : Y → Z) (g : X → Y) (xs : List X) → map (λ x. f (g x)) xs ≡ map f (map g xs)
both f g [] = refl
both f g (x ∷ xs) = ap (λ rest. f (g x) ∷ rest) (both f g xs)

pub shows_numbering : (old new : State) (rows : List Row) → Has edition old.now → Shown select_numbers [] old new rows → IsNumbering old.now rows
shows_numbering old new rows has h =
    let it = shown_answers select_numbers read_numbers edition numbers_of [] (key_at 0 ∷ []) query_numbers (0 ∷ []) (λ tree row. rowid_and_number (shown (edition tree) row)) shows_numbers [] old new rows has h in
    let all = old.now.trees (edition has.1).tree in
    let is : map (λ row. rowid_and_number (shown (edition has.1) row)) (filter (λ _. true) all) ≡ map rowid_and_number (rows_of (codes "edition") old.now) =
    ap (map (λ row. rowid_and_number (shown (edition has.1) row))) (all_pass all) ∙ both rowid_and_number (shown (edition has.1)) all ∙ ap (map rowid_and_number) (sym (read_rows old.now.schema has.0 (edition has.1) has.2 old.now.trees)) in
    record { same = subst (λ l. IsPermutation l rows) is it.0.0; sorted = it.0.1 }
