-- What follows of a text whose rows are read one at a time, whichever they are.
use Rattle.std.proofs.Common.{◌≡◌, ◌++◌, ℕ, List, [], ◌∷◌, Bool, true, Ok, Err, Some, None, Option, Result, IfOk, OnErr, IsTrue, inl, inr, refl, sym, ap, subst, arith}
use Rattle.std.specs.List.Sorted.{IsPermutation}
use Rattle.sqlite.specs.Order.{Row}
use Rattle.sqlite.specs.Table.{Table}
use Rattle.sqlite.specs.Term.{Term}
use Rattle.sqlite.specs.declared.error.Error.{Error}
use Rattle.sqlite.specs.Effect.{Database}
use Rattle.sqlite.specs.Clock.{timed}
use Rattle.sqlite.specs.State.{State, HasCleanDisk, Survives, CommitsShowing, Shown, IsUnchanged, FailsToQuery}
use Rattle.sqlite.specs.Held.{Held, state}
use Rattle.sqlite.specs.Given as kit
use Rattle.sqlite.proofs.StateLemmas.{survives_weaker}
use Rattle.sqlite.proofs.Callers.{begins_shown, given_begin, begun_plain}
use Rattle.sqlite_trees.specs.declared.store.Store.{Ghosts}
use Rattle.sqlite_ast.specs.declared.Expr.{Expr}
use Rattle.sqlite_ast.specs.declared.Sort.{Sort}
use Rattle.sqlite_resolve.specs.declared.scope.Output.{Output}
use Rattle.sqlite_resolve.specs.declared.state.Carried.{Carried}
use Rattle.sqlite_syntax.specs.declared.statement.Parsed.{Parsed}
use Rattle.sqlite_value.specs.declared.keys.Key.{Key}
use Rattle.store_tables.specs.Effects.{Has, WhileOpen, rows_of, shown, FailsToRead}
use Rattle.store_tables.proofs.Callers.{still_has}
use Rattle.store_tables.proofs.ListLemmas.{passes}
use Rattle.store_tables.proofs.RemoveLemmas.{all_pass}
use Rattle.store_tables.proofs.SilentLemmas.{commits_none, never_returns}
use Rattle.store_sql.specs.Reads.{IsListing, IsSelection}
use Rattle.store_sql.specs.RowQueries.{RowQuery, listing_query, selection_query, HasGivenRows, GivesOnRows}
use Rattle.store_sql.specs.Streams.{IsNotBegun}
use Rattle.store_sql.proofs.ListingLemmas.{IsQuery, TakesValues, is_plain, ends_in, query_fails, outs, query, shown_selects}
use Rattle.store_sql.proofs.ReadTexts.{ReadsTable}
use Rattle.store_sql.proofs.ReadFaults.{Takes, takes_values}

-- the query's text reads its table with its values, and what it shows is the whole
pub record ReadsScan (query : RowQuery) : Type 1 where
  pub parsed : Parsed
  pub outs : ℕ → ℕ → List Output
  pub tests : List Term
  pub order : List (Term × Key)
  pub is_query : IsQuery query.text parsed query.table outs tests order
  pub takes : TakesValues query.text parsed query.table outs tests order query.values
  pub shows : (old new : State) (rows : List Row) → Has query.table old.now → Shown query.text query.values old new rows → query.IsWhole old.now rows

-- ---- rows with all the columns of their table

module _ {X : Type 0} (text : List ℕ) (p : Parsed) (table : ℕ → Table) (condition : Option Expr) (tests' : List Term) (left : ℕ) (sorted : List Sort) (order : List (Term × Key)) (columns : List ℕ) (rest : ℕ) (last : Carried)
    (r : ReadsTable text p table condition tests' left sorted order columns rest last) (given : X → Row) (w : Takes text p table tests' order given) (x : X) (named : (tree : ℕ) → (table tree).name ≡ (table 0).name) where
  rows_scan : (IsWhole : Database → List Row → Type 0) → ((old new : State) (rows : List Row) → Has table old.now → Shown text (given x) old new rows → IsWhole old.now rows)
      → ReadsScan (record { text = text; values = given x; table = table; IsWhole = IsWhole })
  rows_scan IsWhole shows = record {
    parsed = p;
    outs = outs text p table condition tests' left sorted order columns rest last r;
    tests = tests';
    order = order;
    is_query = query text p table condition tests' left sorted order columns rest last r;
    takes = takes_values text p table condition tests' left sorted order columns rest last r given w x;
    shows = shows;
  }

  -- those that pass a test
  pub selection_scan : (test : Row → Bool) → ((tree : ℕ) (row : Row) → passes (given x) tests' row ≡ test (shown (table tree) row)) → ReadsScan (selection_query text (given x) table test columns)
  selection_scan test tested = rows_scan (λ db rows. IsSelection (table 0).name test columns db rows)
      (λ old new rows has h. (shown_selects text p table condition tests' left sorted order columns rest last r named (given x) test tested old new rows has h).0)

  -- all of them
  pub listing_scan : ((tree : ℕ) (row : Row) → passes (given x) tests' row ≡ true) → ReadsScan (record (listing_query text table columns) { values = given x })
  listing_scan tested = rows_scan (λ db rows. IsListing (table 0).name columns db rows)
      (λ old new rows has h.
      let it = (shown_selects text p table condition tests' left sorted order columns rest last r named (given x) (λ _. true) tested old new rows has h).0 in
      record { same = subst (λ l. IsPermutation l rows) (all_pass (rows_of (table 0).name old.now)) it.same; sorted = it.sorted })

-- ---- what was given, and what comes next

still : (old new : State) → IsUnchanged old new → IsUnchanged new new
still old new same = (record { was_open = same.0.is_open; is_open = same.0.is_open; now_is = refl; committed_is = refl; mode = refl }, record { changes = refl; last_rowid = refl }, refl)

module _ {query : RowQuery} (r : ReadsScan query) where
  fails_to_read : (old new : State) → (IsTrue old.is_open → Has query.table old.now) → (e : Error) → FailsToQuery query.text query.values old new e → FailsToRead old new e
  fails_to_read old new has = query_fails query.text r.parsed query.table r.outs r.tests r.order r.is_query query.values r.takes old new has

  commits_nothing : (old new : State) → Survives old new (CommitsShowing query.text query.values old) → Survives old new (λ _. ⊥)
  commits_nothing old new s = survives_weaker old new _ _ (λ clean db. commits_none query.text r.parsed r.is_query.select r.is_query.read r.is_query.statement query.values old db) s

  module _ {S : Type 0} (g : Ghosts S) where
    -- what was given so far is a front of the whole
    gave : (old new : Held S) (given : List Row) → IsUnchanged (state g old) (state g new) → Has query.table (state g old).now → kit.HasGiven g query.text query.values new given → HasGivenRows g query new given
    gave old new given same has runs =
        let s = state g new in
        let later = still_has query.table (state g old).now s.now (ap (λ (d : Database). d.schema) same.0.now_is) has in
        let all = begins_shown query.text query.values s s given (given_begin g query.text query.values new given runs) (still (state g old) s same)
        (λ c db it source. ends_in query.text r.parsed query.table r.outs r.tests r.order r.is_query s.now.schema later c it.is db (timed query.values c.formats it.now)) in
        record { runs = runs; has = later; front = (all.0, r.shows s s (given ++ all.0) later all.1) }

    pub gives_on : (old new : Held S) (given : List Row) (row : Option Row) → IsUnchanged (state g old) (state g new) → HasGivenRows g query old given → kit.Advances g old new row → GivesOnRows g query new given row
    gives_on old new given None same h moved = subst (λ (d : Database). query.IsWhole d given) (sym same.0.now_is) (r.shows (state g old) (state g new) given h.has (moved query.text query.values given h.runs))
    gives_on old new given (Some row) same h moved = gave old new (given ++ row ∷ []) same h.has (moved query.text query.values given h.runs)

    pub fails_to_advance : (old new : Held S) (given : List Row) (e : Error) → HasGivenRows g query old given → kit.FailsToAdvance g old new e → FailsToRead (state g old) (state g new) e
    fails_to_advance old new given e h failed = fails_to_read (state g old) (state g new) (λ _. h.has) e (failed query.text query.values given h.runs)

    -- ---- how a reading begins

    module _ (old : Held S) (has : WhileOpen (state g old) (Has query.table)) where
      began_open : (new : Held S) → kit.HasBegun g query.text query.values old new → IsTrue (state g old).is_open
      began_open new (inl h) = h.1.0.was_open
      began_open new (inr h) = absurd (never_returns query.text r.parsed r.is_query.select r.is_query.read r.is_query.statement old.schema h.0)

      begun : (new : Held S) → Has query.table (state g old).now → kit.HasBegun g query.text query.values old new → HasGivenRows g query new [] × IsUnchanged (state g old) (state g new)
      begun new own h =
          let it = begun_plain g query.text query.values old new (is_plain query.text r.parsed query.table r.outs r.tests r.order r.is_query (state g old).now.schema own.0 own.1 own.2) h in
          (gave old new [] it.1 own it.0, it.1)

      pub begins : {X : Type 0} (result : Result X Error) (held : X → Held S)
          → IfOk result (λ x. Survives (state g old) (state g (held x)) (CommitsShowing query.text query.values (state g old))) → IfOk result (λ x. HasCleanDisk (state g (held x)) → kit.HasBegun g query.text query.values old (held x))
          → IfOk result (λ x. HasCleanDisk (state g (held x)) → HasGivenRows g query (held x) [] × IsUnchanged (state g old) (state g (held x)))
      begins (Err e) held s h = tt
      begins (Ok x) held s h = λ clean. begun (held x) (has (omega (arith, s.clean, clean)) (began_open (held x) (h clean))) (h clean)

      pub begins_alone : {X : Type 0} (result : Result X Error) (held : X → Held S) → IfOk result (λ x. Survives (state g old) (state g (held x)) (CommitsShowing query.text query.values (state g old)))
          → IfOk result (λ x. Survives (state g old) (state g (held x)) (λ _. ⊥))
      begins_alone (Err e) held s = tt
      begins_alone (Ok x) held s = commits_nothing (state g old) (state g (held x)) s

      pub not_begun : {X : Type 0} (result : Result X Error) (last : Held S) → OnErr result (kit.IsRefused g query.text query.values old result last) → OnErr result (IsNotBegun g old result last)
      not_begun (Ok x) last h = tt
      not_begun (Err e) last h =
          let alone = commits_nothing (state g old) (state g last) h.survives in
          record { failed = λ clean. fails_to_read (state g old) (state g last) (has (omega (arith, alone.clean, clean))) e (h.err clean); mode = h.mode; survives = alone }
