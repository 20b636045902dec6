-- What a text that reads one table answers and why it is refused, whichever columns it shows; above all what one answers that reads it whole.
use Rattle.std.proofs.Common.{◌≡◌, ◌≢◌, ◌⊎◌, ◌≤◌, ◌==◌, ◌^◌, ℕ, ◌+◌, List, [], ◌∷◌, map, filter, length, find, get_or, nat_le, true, false, Ok, Err, Some, None, IsSome, IsTrue, inl, inr, refl, sym, subst, subst₂, ◌∙◌, append-nil}
use Rattle.std.proofs.Common.{◌-◌, Bool, Result, Option, IfOk, ap, ℤ}
use Rattle.std.proofs.lemmas.Bool.{lt-leb, cases_Bool}
use Rattle.std.specs.List.Sorted.{IsPermutation, IsSorted}
use Rattle.std.proofs.lemmas.List.Sorted.{IsPermutation-sym}
use Rattle.std.specs.Ordering.{is_lt}
use Rattle.sqlite.specs.Order.{Row, column}
use Rattle.sqlite.specs.Schema.{Schema}
use Rattle.sqlite.specs.Table.{Table}
use Rattle.sqlite.specs.Term.{Term, eval_all}
use Rattle.sqlite.specs.Tree.{Trees}
use Rattle.sqlite.specs.Query.{key_cmp, IsAnswer}
use Rattle.sqlite.specs.Program.{overlay}
use Rattle.sqlite.specs.Command.{Command}
use Rattle.sqlite.specs.Command.TheVariants.{Select as Select'}
use Rattle.sqlite.specs.Compile.{first, with_command}
use Rattle.sqlite.specs.Clock.{timed}
use Rattle.sqlite.specs.Listing.{understood, reads_listing, IsSourceOf}
use Rattle.sqlite.specs.Effect.{Database, RefusesQuery, RefusesToRead}
use Rattle.sqlite.specs.State.{State, Shown, ShowsRows, IsUnchanged, FailsToQuery, FailsToShow, IsNoStatement, IsNotRun, Survives, CommitsShowing}
use Rattle.sqlite.specs.declared.types.Value.TheVariants.{Null, Int, Text}
use Rattle.sqlite.specs.declared.error.Error.{Error}
use Rattle.sqlite.specs.declared.error.Error.TheVariants.{SqliteFailure, MultipleStatement, InvalidParameterCount}
use Rattle.sqlite.specs.declared.error.ErrorCode.TheVariants.{OperationInterrupted, NoClock}
use Rattle.sqlite.proofs.Callers.{IsPlain, EndsIn, reads_as}
use Rattle.sqlite_ast.specs.declared.Select.{Select}
use Rattle.sqlite_ast.specs.declared.Statement.TheVariants as written
use Rattle.sqlite_resolve.specs.declared.compiled.Compiled.{Compiled}
use Rattle.sqlite_resolve.specs.declared.scope.Output.{Output}
use Rattle.sqlite_schema.specs.declared.program.Program.{Program}
use Rattle.sqlite_sql.specs.Program.{ProgramOverflows}
use Rattle.sqlite_syntax.specs.declared.statement.Parsed.{Parsed}
use Rattle.sqlite_typing.specs.Types.{accepts_program}
use Rattle.sqlite_value.specs.declared.keys.Key.{Key}
use Rattle.store_tables.specs.Found.{HasTable}
use Rattle.store_tables.specs.Effects.{Has, HasApartRowids, rows_of, shown, equals_number, equals_text, FailsToRead}
use Rattle.store_sql.specs.Reads.{by_columns, IsListing, IsSelection}
use Rattle.store_tables.proofs.InsertLemmas.{same_value}
use Rattle.store_tables.proofs.ListLemmas.{lists, sorts, passes}
use Rattle.store_tables.proofs.ReadLemmas.{CanSelect, can_select, query_with, select_of, out_order, starred, starred_is, understood_is, outputs_of}
use Rattle.store_tables.proofs.SilentLemmas.{shut_query, commits_none, shown_open}
use Rattle.std.specs.declared.alloc.Global.{Global}
use Rattle.std.specs.Prelude.{Vec}
use Rattle.sqlite.proofs.StateLemmas.{survives_weaker}
use Rattle.sqlite_resolve.specs.Lowering.{max_budget, nothing}
use Rattle.sqlite_resolve.specs.declared.state.Carried.{Carried}
use Rattle.sqlite_ast.specs.declared.Expr.{Expr}
use Rattle.sqlite_ast.specs.declared.Sort.{Sort}
use Rattle.store_tables.specs.Tables.{edition, entry, kept}
use Rattle.store_tables.proofs.CompareLemmas.{and_true, equals_is, equals_text_is}
use Rattle.store_tables.proofs.Callers.{apart_same}
use Rattle.store_tables.proofs.RemoveLemmas.{all_pass}
use Rattle.store_sql.proofs.ReadTexts.{ReadsTable, test_one_edition, test_some_entries, test_one_kept}

abbrev pub command_with : ℕ → List Output → List Term → List (Term × Key) → Command
command_with tree outs tests' order = Select' (record { lets = []; body = query_with tree outs tests' order }) (map (λ (o : Output). o.name) outs)

-- Over any schema that has the table, the text is a query that shows these columns of the rows that pass these tests.
pub record IsQuery (text : List ℕ) (p : Parsed) (table : ℕ → Table) (outs : ℕ → ℕ → List Output) (tests' : List Term) (order : List (Term × Key)) : Type 0 where
  pub select : Select
  pub read : first text ≡ Ok p
  pub statement : p.statement ≡ written.Select select
  pub means : (schema : Schema) (at tree : ℕ) → CanSelect schema at (table tree) → understood schema text ≡ Ok (with_command p ([], (command_with (table tree).tree (outs at tree) tests' order, None)))
  pub unlisted : (schema : Schema) (at tree : ℕ) → CanSelect schema at (table tree) → reads_listing schema text ≡ false

-- The columns that are shown, and those of them that give the order.
pub record ShowsRow (table : ℕ → Table) (outs : ℕ → ℕ → List Output) (order : List (Term × Key)) (columns : List ℕ) (show : ℕ → Row → Row) : Type 0 where
  pub shows : (at tree : ℕ) (params r : Row) → eval_all (map (λ (o : Output). o.term) (outs at tree)) (params ∷ r ∷ []) ≡ show tree r
  pub keyed : (tree : ℕ) (params r : Row) → eval_all (map (λ (k : Term × Key). k.0) order) (params ∷ r ∷ []) ≡ map (column (show tree r)) columns
  pub compares : (a b : Row) → key_cmp 0 (map (λ (k : Term × Key). k.1) order) (map (column a) columns) (map (column b) columns) ≡ by_columns columns a b

-- the text is one statement, and takes these values
pub record TakesValues (text : List ℕ) (p : Parsed) (table : ℕ → Table) (outs : ℕ → ℕ → List Output) (tests' : List Term) (order : List (Term × Key)) (values : Row) : Type 0 where
  pub whole : length text ≤ p.tail
  pub names : length values ≡ length p.names
  pub typed : (schema : Schema) (at tree : ℕ) → find (λ t. t.tree == (table tree).tree) schema.tables ≡ Some (table tree) → nat_le (2 ^ 31) (table tree).tree ≡ false
      → accepts_program schema [] (query_with (table tree).tree (outs at tree) tests' order) values ≡ true

-- the database has the table, in some tree, whether or not a foreign key refers to it
abbrev pub CanRead : (ℕ → Table) → Database → Type 0
CanRead table db = (at : ℕ) × (tree : ℕ) × CanSelect db.schema at (table tree)

abbrev pub can_read : (table : ℕ → Table) (db : Database) → Has table db → CanRead table db
can_read table db has = (has.0, has.1, can_select db.schema has.0 (table has.1) has.2)

pub rows_read : (schema : Schema) (at : ℕ) (table : Table) → CanSelect schema at table → (trees : Trees) → rows_of table.name (record { schema = schema; trees = trees }) ≡ map (shown table) (trees table.tree)
rows_read schema at table has trees = let named = has.named in let is = has.is in rw (named, is) refl

pub read_rows : (schema : Schema) (at : ℕ) (table : Table) → HasTable schema at table → (trees : Trees) → rows_of table.name (record { schema = schema; trees = trees }) ≡ map (shown table) (trees table.tree)
read_rows schema at table has = rows_read schema at table (can_select schema at table has)

module _ (text : List ℕ) (p : Parsed) (table : ℕ → Table) (outs : ℕ → ℕ → List Output) (tests' : List Term) (order : List (Term × Key)) (q : IsQuery text p table outs tests' order) where
  module _ (schema : Schema) (at tree : ℕ) (has : CanSelect schema at (table tree)) where
    plain_read : IsPlain (understood schema text)
    plain_read = rw (q.means schema at tree has) (refl, refl)

  pub is_plain : (schema : Schema) (at tree : ℕ) → HasTable schema at (table tree) → IsPlain (understood schema text)
  is_plain schema at tree has = plain_read schema at tree (can_select schema at (table tree) has)

  -- ---- the answer

  module _ (columns : List ℕ) (show : ℕ → Row → Row) (s : ShowsRow table outs order columns show) (params : Row) where
    in_order : (rows : List Row) → IsSorted (λ a b. key_cmp 0 (map (λ (k : Term × Key). k.1) order) (map (column a) columns) (map (column b) columns)) rows → IsSorted (by_columns columns) rows
    in_order rows h k d from up = subst (λ o. is_lt o ≡ false) (s.compares (get_or rows (k + 1) d) (get_or rows k d)) (h k d from up)

    -- the rows that pass as they are shown, in order
    abbrev pub Answers : ℕ → Trees → List Row → Type 0
    Answers tree trees rows = IsPermutation (map (show tree) (filter (passes params tests') (trees (table tree).tree))) rows × IsSorted (by_columns columns) rows

    answered : (at tree : ℕ) (trees : Trees) (rows : List Row) → IsAnswer (query_with (table tree).tree (outs at tree) tests' order) (overlay trees []) params rows → Answers tree trees rows
    answered at tree trees rows a =
        let project = (query_with (table tree).tree (outs at tree) tests' order).project in
        let same = lists (table tree).tree tests' project order params (show tree) (λ row. map (column row) columns) (s.shows at tree params) (s.keyed tree params) trees rows a in
        let up = sorts (table tree).tree tests' project order params (show tree) (λ row. map (column row) columns) (s.shows at tree params) (s.keyed tree params) trees rows a in
        (same, in_order rows up)

    pub read_answers : (old new : State) (rows : List Row) (has : CanRead table old.now) → Shown text params old new rows → Answers has.1 old.now.trees rows × IsUnchanged old new
    unfolding Shown
    read_answers old new rows has h =
        let at = has.0 in
        let tree = has.1 in
        let schema = old.now.schema in
        let read = reads_as text params old new schema refl (command_with (table tree).tree (outs at tree) tests' order) (rw (q.means schema at tree has.2) refl) (plain_read schema at tree has.2) (q.unlisted schema at tree has.2) rows h in
        let bare = subst IsPlain h.1.is (plain_read schema at tree has.2) in
        let it = subst (ShowsRows old new text h.0 (timed params h.0.formats h.1.now) rows) bare.0 h.2 in
        (answered at tree old.now.trees rows (read.answer Null), it.3)

    pub shown_answers : (old new : State) (rows : List Row) (has : Has table old.now) → Shown text params old new rows → Answers has.1 old.now.trees rows × IsUnchanged old new
    unfolding Shown
    shown_answers old new rows has = read_answers old new rows (can_read table old.now has)

  -- ---- its refusals

  module _ (schema : Schema) (has : (at : ℕ) × (tree : ℕ) × CanSelect schema at (table tree)) where
    abbrev it : Compiled
    it = with_command p ([], (command_with (table has.1).tree (outs has.0 has.1) tests' order, None))

    means : understood schema text ≡ Ok it
    means = q.means schema has.0 has.1 has.2

    is_it : (c : Compiled) → understood schema text ≡ Ok c → c ≡ it
    is_it c is = same_value (sym is ∙ means)

    -- no recursion is in it
    ends_reading : (c : Compiled) → understood schema text ≡ Ok c → (db : Database) (params : Row) → EndsIn c.command db params
    ends_reading c is db params = subst (λ (k : Compiled). EndsIn k.command db params) (sym (is_it c is)) tt

  pub ends_in : (schema : Schema) → ((at : ℕ) × (tree : ℕ) × HasTable schema at (table tree)) → (c : Compiled) → understood schema text ≡ Ok c → (db : Database) (params : Row) → EndsIn c.command db params
  ends_in schema has = ends_reading schema (has.0, has.1, can_select schema has.0 (table has.1) has.2)

  module _ (values : Row) (w : TakesValues text p table outs tests' order values) (old new : State) where
    module _ (has : CanRead table old.now) where
      abbrev this : Compiled
      this = it old.now.schema has

      is_one : (e : Error) → ¬ IsNoStatement old text values e
      is_one e (inl h) = absurd (let both : Err h.0 ≡ Ok this = sym h.1 ∙ means old.now.schema has in cc)
      is_one e (inr h) = fits h.0 (is_it old.now.schema has h.0 h.1) h.2
        where
          fits : (c : Compiled) → c ≡ this → ¬ (((¬ (length text ≤ c.tail)) × (e ≡ MultipleStatement))
              ⊎ (((length values ≢ length c.names) × (e ≡ InvalidParameterCount (length values) (length c.names))) ⊎ ((c.formats ≢ []) × (e ≡ SqliteFailure NoClock))))
          fits c is (inl long) = long.0 (rw is w.whole)
          fits c is (inr (inl many)) = many.0 (rw is w.names)
          fits c is (inr (inr late)) = late.0 (rw is refl)

      abbrev program : Program
      program = record { lets = []; body = query_with (table has.1).tree (outs has.0 has.1) tests' order }

      no_overflow : ¬ ProgramOverflows old.now.trees values [] [] program.body
      no_overflow (inl h) = h
      no_overflow (inr h) = h.4

      stopped : (e : Error) → RefusesQuery old.step_limit old.now program values e → (e ≡ SqliteFailure OperationInterrupted) × IsSome old.step_limit
      stopped e (inl h) = absurd (let yes = w.typed old.now.schema has.0 has.1 has.2.alone (lt-leb (2 ^ 31) (table has.1).tree has.2.stored) in let both : true ≡ false = sym yes ∙ h.1 in cc)
      stopped e (inr (inl h)) = absurd (no_overflow h.1)
      stopped e (inr (inr h)) = h

      open_fails : (e : Error) → FailsToQuery text values old new e → FailsToRead old new e
      unfolding FailsToQuery IsNotRun
      open_fails e (inl (inl h)) = absurd (is_one e h.0)
      open_fails e (inl (inr f)) = inl f
      open_fails e (inr h) =
          let same = is_it old.now.schema has h.0 h.1.is in
          let bare = subst IsPlain h.1.is (plain_read old.now.schema has.0 has.1 has.2) in
          let shown = rw (bare.1, append-nil values) at (subst (FailsToShow old new text h.0 (timed values h.0.formats h.1.now) e) bare.0 h.2) in
          let db : shown.0 ≡ old.now = subst (λ b. IsSourceOf b old.now shown.0) (q.unlisted old.now.schema has.0 has.1 has.2) shown.1 in
          let stop = stopped e (subst₂ (λ (c : Compiled) d. RefusesToRead old.step_limit c.command d values e) same db shown.2) in
          inr (stop.0, stop.1, shown.3)

    pub read_fails : (IsTrue old.is_open → CanRead table old.now) → (e : Error) → FailsToQuery text values old new e → FailsToRead old new e
    read_fails has e h = elim (cases_Bool old.is_open) [
      | inl open' ↦ open_fails (has open') e h
      | inr shut ↦ shut_query text p q.select q.read q.statement old new values e shut h
    ]

    pub query_fails : (IsTrue old.is_open → Has table old.now) → (e : Error) → FailsToQuery text values old new e → FailsToRead old new e
    query_fails has = read_fails (λ open'. can_read table old.now (has open'))

keep_shown : (table : Table) (p q : Row → Bool) → ((r : Row) → p r ≡ q (shown table r)) → (rows : List Row) → map (shown table) (filter p rows) ≡ filter q (map (shown table) rows)
keep_shown table p q same [] = refl
keep_shown table p q same (r ∷ rows) = elim (cases_Bool (q (shown table r))) [
  | inl kept' ↦ rw (same r, kept') (ap (λ rest. shown table r ∷ rest) (keep_shown table p q same rows))
  | inr left ↦ rw (same r, left) (keep_shown table p q same rows)
]

module _ (text : List ℕ) (p : Parsed) (table : ℕ → Table) (condition : Option Expr) (tests' : List Term) (left : ℕ) (sorted : List Sort) (order : List (Term × Key)) (columns : List ℕ) (rest : ℕ) (last : Carried)
    (r : ReadsTable text p table condition tests' left sorted order columns rest last) where
  abbrev pub outs : ℕ → ℕ → List Output
  outs at tree = outputs_of at (table tree)

  module _ (schema : Schema) (at tree : ℕ) (has : CanSelect schema at (table tree)) where
    compiles : (understood schema text ≡ Ok (with_command p ([], (command_with (table tree).tree (outs at tree) tests' order, None)))) × (reads_listing schema text ≡ false)
    compiles =
        understood_is schema at (table tree) has starred (outs at tree) (max_budget - 1) condition (starred_is schema at (table tree) has (r.no_rowid tree) (r.few at tree) (r.some at tree) condition) tests' left nothing
        (r.tests schema at tree has.is) sorted order rest last (r.sorts schema at tree) (out_order starred (table tree).name condition sorted)
        (r.accepted schema at tree has.alone (lt-leb (2 ^ 31) (table tree).tree has.stored)) text p r.read (r.statement tree) r.formats

  pub query : IsQuery text p table outs tests' order
  query = record {
    select = select_of (table 0).name condition sorted;
    read = r.read;
    statement = r.statement 0;
    means = λ schema at tree has. (compiles schema at tree has).0;
    unlisted = λ schema at tree has. (compiles schema at tree has).1;
  }

  -- the whole answer
  module _ (named : (tree : ℕ) → (table tree).name ≡ (table 0).name) (params : Row) (test : Row → Bool) (tested : (tree : ℕ) (row : Row) → passes params tests' row ≡ test (shown (table tree) row)) (old new : State) where
    abbrev pub SelectsIn : List Row → Type 0
    SelectsIn rows = IsSelection (table 0).name test columns old.now rows × IsUnchanged old new

    pub read_selects : (rows : List Row) → CanRead table old.now → Shown text params old new rows → SelectsIn rows
    read_selects rows has h =
        let it = read_answers text p table outs tests' order query columns (λ tree. shown (table tree))
        (record { shows = r.shows; keyed = r.keyed; compares = r.compares }) params old new rows has h in
        let kept = keep_shown (table has.1) (passes params tests') test (tested has.1) (old.now.trees (table has.1).tree) ∙ sym (ap (filter test) (rows_read old.now.schema has.0 (table has.1) has.2 old.now.trees)) in
        (subst (λ n. IsSelection n test columns old.now rows) (named has.1) (record { same = subst (λ l. IsPermutation l rows) kept it.0.0; sorted = it.0.1 }), it.1)

    pub shown_selects : (rows : List Row) → Has table old.now → Shown text params old new rows → SelectsIn rows
    shown_selects rows has = read_selects rows (can_read table old.now has)

    pub selects_where : (result : Result (Vec Row Global) Error) → (IsTrue old.is_open → CanRead table old.now) → IfOk result (λ rows. Shown text params old new rows.items) → IfOk result (λ rows. SelectsIn rows.items)
    selects_where (Err e) has h = tt
    selects_where (Ok rows) has h = read_selects rows.items (has (shown_open text p (select_of (table 0).name condition sorted) r.read (r.statement 0) old new params rows.items h)) h

    pub selects : (result : Result (Vec Row Global) Error) → (IsTrue old.is_open → Has table old.now) → IfOk result (λ rows. Shown text params old new rows.items) → IfOk result (λ rows. SelectsIn rows.items)
    selects result has = selects_where result (λ open'. can_read table old.now (has open'))

    pub reads_nothing_else : Survives old new (CommitsShowing text params old) → Survives old new (λ _. ⊥)
    reads_nothing_else s = survives_weaker old new _ _ (λ clean db. commits_none text p (select_of (table 0).name condition sorted) r.read (r.statement 0) params old db) s

-- a selection by no test is the whole
pub lists_whole : (name : List ℕ) (columns : List ℕ) (old new : State) (result : Result (Vec Row Global) Error) → IfOk result (λ rows. IsSelection name (λ _. true) columns old.now rows.items × IsUnchanged old new)
    → IfOk result (λ rows. IsListing name columns old.now rows.items × IsUnchanged old new)
lists_whole name columns old new (Err e) h = tt
lists_whole name columns old new (Ok rows) h = (record { same = subst (λ l. IsPermutation l rows.items) (all_pass (rows_of name old.now)) h.0.same; sorted = h.0.sorted }, h.1)

-- a listing has the rows of its table, so what is tested of it holds of them
pub apart_listed : (name columns : List ℕ) (db : Database) (rows : List Row) → IsListing name columns db rows → HasApartRowids rows → HasApartRowids (rows_of name db)
apart_listed name columns db rows listing = apart_same rows (rows_of name db) (IsPermutation-sym _ _ listing.same)

pub edition_read : (tree : ℕ) (n : ℤ) (row : Row) → passes (Int n ∷ []) test_one_edition row ≡ equals_number 1 n (shown (edition tree) row)
edition_read tree n row = and_true _ ∙ equals_is (column row 0) n

pub entry_read : (tree : ℕ) (n : ℤ) (row : Row) → passes (Int n ∷ []) test_some_entries row ≡ equals_number 1 n (shown (entry tree) row)
entry_read tree n row = and_true _ ∙ equals_is (column row 1) n

pub kept_read : (tree : ℕ) (id : List ℕ) (row : Row) → passes (Text id ∷ []) test_one_kept row ≡ equals_text 1 id (shown (kept tree) row)
kept_read tree id row = and_true _ ∙ equals_text_is (column row 1) id
