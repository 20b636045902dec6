-- What `SELECT columns FROM table WHERE .. ORDER BY ..` stands for, over any schema that has the table, level by level of the resolver; above all with `rowid, *`.
use Rattle.std.proofs.Common.{◌≡◌, ◌<◌, ◌==◌, ℕ, ◌-◌, ◌^◌, find, pos, negsuc, List, [], ◌∷◌, map, length, codes, Bool, true, false, Some, None, Option, Ok, refl, ap, slice_get, nat_lt, unwrap_or, option_map, option_and_then}
use Rattle.std.proofs.lemmas.Bool.{lt-ltb}
use Rattle.sqlite.specs.Term.{Term, lit, col}
use Rattle.sqlite.specs.Table.{Table}
use Rattle.sqlite.specs.Schema.{Schema}
use Rattle.sqlite_resolve.specs.declared.scope.Level.{Level}
use Rattle.sqlite_resolve.specs.declared.scope.Bound.{Bound}
use Rattle.sqlite_resolve.specs.declared.scope.Output.{Output}
use Rattle.sqlite_resolve.specs.Scope.{Name, column, Context, find as find_name, in_level, only, hit, column_in, rowid_in, is_rowid, term_of, is_among}
use Rattle.sqlite_resolve.specs.Expr.{lower_to, lower, node, opened, passes}
use Rattle.sqlite_resolve.specs.Lowering.{fresh, max_budget, spend, begin, finish, nothing, take_slot}
use Rattle.sqlite_resolve.specs.declared.state.State.{State}
use Rattle.sqlite_resolve.specs.declared.state.Carried.{Carried}
use Rattle.sqlite_resolve.specs.Body.{body, result, matching, outputs, shown, stars, columns_of, columns_from, heading, is_column, bounds, bound as bound_of, table_in, joins, join, shared, inner_join, tests, declared as declared_name}
use Rattle.sqlite_resolve.specs.Select.{outermost, parts, having, named as named', assembled, ungrouped, paging, constant_or}
use Rattle.sqlite_resolve.specs.Order.{keys, sorts}
use Rattle.sqlite_resolve.specs.Program.{Shown as Shown', query as query', query_to, level as level', with, whole, alone, single, sources, source, viewing, program as program'}
use Rattle.sqlite.specs.Compile.{compiled, first, planned, meaning, command, with_command, returning, timed, read as read'}
use Rattle.sqlite.specs.Listing.{understood, reads_listing}
use Rattle.sqlite_syntax.specs.declared.statement.Parsed.{Parsed}
use Rattle.sqlite_ast.specs.declared.Statement.TheVariants as written
use Rattle.sqlite.specs.Command.TheVariants.{Select as Select'}
use Rattle.sqlite_schema.specs.declared.program.Program.{Program}
use Rattle.sqlite_draft.specs.Query.{query_of}
use Rattle.sqlite_typing.specs.Types.{accepts_program}
use Rattle.sqlite_draft.specs.declared.query.Draft.{Draft}
use Rattle.sqlite.specs.Query.{Query, inner, end}
use Rattle.sqlite.specs.declared.types.Value.TheVariants.{Int}
use Rattle.sqlite_value.specs.declared.keys.Key.{Key}
use Rattle.sqlite_schema.specs.Names.{table_named, column_named, same_name}
use Rattle.sqlite_schema.specs.declared.schema.Column.{Column}
use Rattle.sqlite_draft.specs.declared.join.Step.TheVariants.{Inner}
use Rattle.sqlite_tied.specs.Compute.{everything}
use Rattle.sqlite_ast.specs.declared.Expr.{Expr, out-Expr, roll-Expr}
use Rattle.sqlite_ast.specs.declared.Expr.TheOpen.{Expr-F, Shown-F}
use Rattle.sqlite_ast.specs.declared.Shown.{Shown, out-Shown, roll-Shown}
use Rattle.sqlite_ast.specs.declared.Source.{Source, out-Source, roll-Source}
use Rattle.sqlite_ast.specs.declared.Core.{Core, out-Core, roll-Core}
use Rattle.sqlite_ast.specs.declared.Select.{Select, out-Select, roll-Select}
use Rattle.sqlite_ast.specs.declared.Sort.{Sort}
use Rattle.sqlite_ast.specs.declared.Origin.TheVariants.{Table as Table'}
use Rattle.store_tables.specs.Found.{HasTable}

-- ---- the tree of such a text

unfoldable pub rowid_expr : Expr
rowid_expr = roll-Expr (Expr-F.Column None (codes "rowid"))

unfoldable pub rowid_shown : Shown
rowid_shown = roll-Shown (Shown-F.One rowid_expr None (codes "rowid"))

unfoldable pub all_shown : Shown
all_shown = roll-Shown Shown-F.All

unfoldable pub source_of : Name → Source
source_of name = roll-Source (record { is_left = false; origin = Table' name; alias = None; on = None; using = [] })

-- a SELECT of these columns, and of the rowid with all columns
unfoldable pub core_with : List Shown → Name → Option Expr → Core
core_with shows name test = roll-Core (record { distinct = false; shown = shows; from = source_of name ∷ []; filter = test; group = []; having = None })

unfoldable pub select_with : List Shown → Name → Option Expr → List Sort → Select
select_with shows name test order = roll-Select (record { with = []; first = core_with shows name test; others = []; order = order; limit = None; offset = None })

abbrev pub starred : List Shown
starred = rowid_shown ∷ all_shown ∷ []

abbrev pub select_of : Name → Option Expr → List Sort → Select
select_of = select_with starred

pub out_rowid : out-Expr rowid_expr ≡ Expr-F.Column None (codes "rowid")
unfolding everything rowid_expr
out_rowid = refl

pub out_one : out-Shown rowid_shown ≡ Shown-F.One rowid_expr None (codes "rowid")
unfolding everything rowid_shown
out_one = refl

out_all : out-Shown all_shown ≡ Shown-F.All
unfolding everything all_shown
out_all = refl

-- a source of FROM: its origin, what it is called, what it is joined by, and whether it is a LEFT JOIN
out_source : (name : Name)
    → ((out-Source (source_of name)).origin ≡ Table' name) × ((out-Source (source_of name)).alias ≡ None) × ((out-Source (source_of name)).using ≡ []) × ((out-Source (source_of name)).on ≡ None)
    × ((out-Source (source_of name)).is_left ≡ false)
unfolding everything source_of
out_source name = (refl, refl, refl, refl, refl)

-- DISTINCT, FROM, GROUP BY and HAVING
out_core : (shows : List Shown) (name : Name) (test : Option Expr)
    → ((out-Core (core_with shows name test)).distinct ≡ false) × ((out-Core (core_with shows name test)).from ≡ source_of name ∷ []) × ((out-Core (core_with shows name test)).group ≡ [])
    × ((out-Core (core_with shows name test)).having ≡ None)
unfolding everything core_with
out_core shows name test = (refl, refl, refl, refl)

out_filter : (shows : List Shown) (name : Name) (test : Option Expr) → (out-Core (core_with shows name test)).filter ≡ test
unfolding everything core_with
out_filter shows name None = refl
out_filter shows name (Some e) = refl

out_starred : (name : Name) (test : Option Expr) → (out-Core (core_with starred name test)).shown ≡ starred
unfolding everything core_with
out_starred name test = refl

-- WITH, the first of the SELECTs and the others, LIMIT and OFFSET
out_select : (shows : List Shown) (name : Name) (test : Option Expr) (order : List Sort)
    → ((out-Select (select_with shows name test order)).with ≡ []) × ((out-Select (select_with shows name test order)).first ≡ core_with shows name test) × ((out-Select (select_with shows name test order)).others ≡ [])
    × ((out-Select (select_with shows name test order)).limit ≡ None) × ((out-Select (select_with shows name test order)).offset ≡ None)
unfolding everything select_with
out_select shows name test order = (refl, refl, refl, refl, refl)

pub out_order : (shows : List Shown) (name : Name) (test : Option Expr) (order : List Sort) → (out-Select (select_with shows name test order)).order ≡ order
unfolding everything select_with
out_order shows name test [] = refl
out_order shows name test (s ∷ order) = ap (λ rest. s ∷ rest) (out_order shows name test order)

-- what is collected, where no step and no aggregate is needed
abbrev pub plainly : ℕ → Carried → State
plainly budget carried = record { next = 2; steps = []; aggregates = []; budget = budget; written = None; last = carried }

abbrev pub bound_in : ℕ → Table → Bound
bound_in at table = record { name = table.name; table = at; slot = 1; shared = [] }

abbrev pub context_of : Schema → ℕ → Table → List Output → Bool → Bool → Context
context_of schema at table shows may_aggregate may_alias = record { schema = schema; levels = record { tables = bound_in at table ∷ []; shown = shows } ∷ []; may_aggregate = may_aggregate; may_alias = may_alias }

-- the name that the rowid is shown under
abbrev pub rowid_name : Table → Name
rowid_name table = unwrap_or (option_and_then (λ k. option_map (λ (c : Column). c.name) (slice_get table.columns k)) table.key) (codes "rowid")

abbrev pub rowid_output : Table → Output
rowid_output table = record { name = rowid_name table; is_alias = false; is_column = true; term = col 1 0; carried = nothing }

-- the rowid, and then each column
abbrev pub outputs_of : ℕ → Table → List Output
outputs_of at table = columns_from None table (bound_in at table) 0 (rowid_output table ∷ []) table.columns

abbrev pub draft_with : ℕ → List Output → List Term → List (Term × Key) → Draft
draft_with tree outs filter order =
    record { from = inner tree end; filter = filter; group = None; project = map (λ (o : Output). o.term) outs; distinct = false; collations = []; order = order; limit = lit (Int (negsuc 0)); offset = lit (Int (pos 0)) }

abbrev pub query_with : ℕ → List Output → List Term → List (Term × Key) → Query
query_with tree outs filter order = query_of (draft_with tree outs filter order)

abbrev pub query_over : ℕ → Table → List Term → List (Term × Key) → Query
query_over at table filter order = query_with table.tree (outputs_of at table) filter order

-- the one table of FROM, and what is left of the budget
abbrev pub level_of : ℕ → Table → Level
level_of at table = record { tables = bound_in at table ∷ []; shown = [] }

abbrev pub left_of : ℕ → State
left_of budget = record (fresh 2 max_budget) { budget = budget }

-- The schema has the table at this place of its list, the first in its tree, whose number is within the bound of every tree's. A foreign key may refer to it.
pub record CanSelect (schema : Schema) (at : ℕ) (table : Table) : Type 0 where
  pub named : table_named schema table.name ≡ Some at
  pub is : slice_get schema.tables at ≡ Some table
  pub alone : find (λ t. t.tree == table.tree) schema.tables ≡ Some table
  pub stored : table.tree < 2 ^ 31

pub can_select : (schema : Schema) (at : ℕ) (table : Table) → HasTable schema at table → CanSelect schema at table
can_select schema at table has = record { named = has.named; is = has.is; alone = has.alone; stored = has.stored }

-- ---- the levels, up to the columns

module _ (schema : Schema) (at : ℕ) (table : Table) (has : CanSelect schema at table) (no_rowid : column_named table (codes "rowid") ≡ None) (shows : List Output) (may_aggregate may_alias : Bool) where
  abbrev early : Context
  early = context_of schema at table shows may_aggregate may_alias

  rowid_is : (s : State) → column early None (codes "rowid") s ≡ Ok (col 1 0, record s { last = nothing })
  unfolding column find_name in_level only hit column_in rowid_in is_rowid same_name term_of is_among
  rowid_is s = let is = has.is in let stored = lt-ltb table.tree (2 ^ 31) has.stored in rw (is, no_rowid, stored) refl

  pub lower_rowid : (s : State) → nat_lt 1 s.budget ≡ true → s.written ≡ None
      → lower early rowid_expr s ≡ Ok (col 1 0, record s { budget = s.budget - 1; written = None; last = nothing })
  unfolding lower_to node opened spend begin finish passes
  lower_rowid s rich clear = rw (rich, out_rowid, clear, rowid_is (record s { budget = s.budget - 1; written = None; last = nothing })) refl

  pub heading_is : heading early rowid_expr (codes "rowid") ≡ rowid_name table
  unfolding heading find_name in_level only hit column_in rowid_in is_rowid same_name is_among declared_name
  heading_is = let is = has.is in let stored = lt-ltb table.tree (2 ^ 31) has.stored in rw (out_rowid, is, no_rowid, stored) (rw is refl)

-- `rowid, *`
module _ (schema : Schema) (at : ℕ) (table : Table) (has : CanSelect schema at table) (no_rowid : column_named table (codes "rowid") ≡ None) (few : nat_lt 2000 (length (outputs_of at table)) ≡ false)
    (some : nat_lt 1 (length (outputs_of at table)) ≡ true) where
  stars_are : stars schema None (rowid_output table ∷ []) (bound_in at table ∷ []) ≡ Ok (outputs_of at table)
  unfolding stars columns_of
  stars_are = let is = has.is in rw (is, few, some) refl

  pub starred_is : (test : Option Expr) → result lower (outermost schema) (level_of at table) (core_with starred table.name test) (fresh 2 max_budget) ≡ Ok (outputs_of at table, left_of (max_budget - 1))
  unfolding result outputs shown is_column
  starred_is test = rw (out_starred table.name test, out_one, out_all, lower_rowid schema at table has no_rowid [] true true (fresh 2 max_budget) refl refl, heading_is schema at table has no_rowid [] true true, out_rowid, stars_are) refl

-- ---- the levels, whichever columns are shown

module _ (schema : Schema) (at : ℕ) (table : Table) (has : CanSelect schema at table) (shows : List Shown) (outs : List Output) (budget : ℕ) (test : Option Expr)
    (result_is : result lower (outermost schema) (level_of at table) (core_with shows table.name test) (fresh 2 max_budget) ≡ Ok (outs, left_of budget)) where
  abbrev named : table_named schema table.name ≡ Some at
  named = has.named

  abbrev is : slice_get schema.tables at ≡ Some table
  is = has.is

  abbrev bound : Bound
  bound = bound_in at table

  abbrev cx : Bool → Bool → Context
  cx may_aggregate may_alias = context_of schema at table outs may_aggregate may_alias

  abbrev core : Core
  core = core_with shows table.name test

  abbrev after : State
  after = left_of budget

  bounds_are : bounds schema (source_of table.name ∷ []) (fresh 1 max_budget) ≡ Ok (bound ∷ [], fresh 2 max_budget)
  unfolding bounds bound_of table_in take_slot
  bounds_are = rw ((out_source table.name).0, has.named, (out_source table.name).1, (out_source table.name).2) refl

  joins_are : joins lower (cx false true) (bound ∷ []) (source_of table.name ∷ []) after ≡ Ok (record { steps = Inner table.tree ∷ []; filter = [] }, after)
  unfolding joins join shared inner_join tests
  joins_are = rw ((out_source table.name).3, (out_source table.name).2, is, (out_source table.name).4) refl

  module _ (filter : List Term) (left : ℕ) (carried : Carried) (filter_is : tests lower (cx false true) [] test after ≡ Ok (filter, plainly left carried)) where
    abbrev then : State
    then = plainly left carried

    matching_is : matching lower (outermost schema) (record { tables = bound ∷ []; shown = outs }) core after ≡ Ok (record { steps = Inner table.tree ∷ []; filter = filter }, then)
    unfolding matching
    matching_is = rw ((out_core shows table.name test).1, joins_are, out_filter shows table.name test, filter_is) refl

    body_is : body lower (outermost schema) core (fresh 1 max_budget) ≡ Ok (record { level = record { tables = bound ∷ []; shown = outs }; steps = Inner table.tree ∷ []; filter = filter }, then)
    unfolding body
    body_is = rw ((out_core shows table.name test).1, bounds_are, result_is, matching_is) refl

    module _ (sorted : List Sort) (order : List (Term × Key)) (rest : ℕ) (last : Carried) (sorts_are : sorts lower (cx false true) outs sorted then ≡ Ok (order, plainly rest last))
        (orders : (out-Select (select_with shows table.name test sorted)).order ≡ sorted) where
      having_is : (may_aggregate : Bool) (s : State) → having (cx may_aggregate true) None s ≡ Ok ([], s)
      unfolding having tests
      having_is true s = refl
      having_is false s = refl

      no_keys : (s : State) → keys lower (cx false true) outs [] s ≡ Ok (([], []), s)
      unfolding keys
      no_keys s = refl

      parts_are : parts schema core sorted (fresh 1 max_budget) ≡ Ok (
        record {
          body = record { level = record { tables = bound ∷ []; shown = outs }; steps = Inner table.tree ∷ []; filter = filter };
          is_grouped = false;
          keys = [];
          collations = [];
          having = [];
          order = order;
        },
        plainly rest last,
      )
      unfolding parts
      parts_are = rw (body_is, (out_core shows table.name test).2, no_keys then, (out_core shows table.name test).3, having_is false then, sorts_are) refl

      abbrev draft : Draft
      draft = draft_with table.tree outs filter order

      abbrev page : Term × Term
      page = (lit (Int (negsuc 0)), lit (Int (pos 0)))

      abbrev read : Shown'
      read = (draft, map (λ (o : Output). o.name) outs, map (λ (o : Output). o.carried.collation) outs)

      named_is : named' schema core sorted page ≡ Ok read
      unfolding named' assembled ungrouped
      named_is = rw (parts_are, (out_core shows table.name test).0) refl

      abbrev select : Select
      select = select_with shows table.name test sorted

      paging_is : paging schema select ≡ Ok page
      unfolding paging constant_or
      paging_is = rw ((out_select shows table.name test sorted).3, (out_select shows table.name test sorted).4) refl

      query_is : query' schema select ≡ Ok (read, [])
      unfolding query' query_to level' with whole alone single sources source viewing
      query_is = let out = out_select shows table.name test sorted in rw (out.0, out.2, paging_is, out.1, orders, (out_core shows table.name test).1, (out_source table.name).0, named_is) refl

      abbrev program : Program
      program = record { lets = []; body = query_of draft }

      abbrev names : List Name
      names = map (λ (o : Output). o.name) outs

      module _ (accepted : accepts_program schema [] (query_of draft) [] ≡ true) (text : List ℕ) (p : Parsed) (parsed : first text ≡ Ok p) (statement : p.statement ≡ written.Select select) (formats : p.formats ≡ []) where
        reads_is : read' schema select ≡ Ok (Select' program names)
        unfolding read' program'
        reads_is = rw (query_is, accepted) refl

        planned_is : planned schema p ≡ Ok ([], (Select' program names, None))
        unfolding planned meaning command returning timed
        planned_is = rw (statement, formats, reads_is) refl

        text_is : understood schema text ≡ Ok (with_command p ([], (Select' program names, None)))
        unfolding compiled understood
        text_is = rw (parsed, planned_is) refl

        listing_is : reads_listing schema text ≡ false
        unfolding compiled
        listing_is = rw (parsed, planned_is) refl

        -- the text is this query, and reads no list of the schema
        pub understood_is : (understood schema text ≡ Ok (with_command p ([], (Select' program names, None)))) × (reads_listing schema text ≡ false)
        understood_is = (text_is, listing_is)
