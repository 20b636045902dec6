-- A SELECT writes nothing, whatever the schema is, so that it is known of a connection that shows no tables too.
use Rattle.std.proofs.Common.{◌≡◌, ℕ, List, false, Ok, Err, Result, Option, Some, None, IfOk, IsTrue, inl, inr, refl, subst}
use Rattle.std.specs.Prelude.{⊤}
use Rattle.std.proofs.lemmas.Bool.{cases_Bool}
use Rattle.sqlite_resolve.specs.Lowering.{Checked, and_then}
use Rattle.sqlite.specs.Order.{Row}
use Rattle.sqlite.specs.Schema.{Schema}
use Rattle.sqlite.specs.Tree.{Trees}
use Rattle.sqlite.specs.Given.{Returns}
use Rattle.sqlite.specs.Clock.{timed as timed_values}
use Rattle.sqlite.specs.Compile.{compiled, first, planned, meaning, returning, with_command}
use Rattle.sqlite.specs.Command.{Command}
use Rattle.sqlite.specs.Listing.{understood, if_select, is_select, reads_listing, listing_schema}
use Rattle.sqlite.specs.State.{State, IsUnchanged, IsNotRun, FailsToQuery, FailsToShow, Shown, ShowsRows, CommitsShowing}
use Rattle.sqlite.specs.declared.error.Error.{Error}
use Rattle.sqlite_ast.specs.declared.Statement.TheVariants as written
use Rattle.sqlite_ast.specs.declared.Select.{Select}
use Rattle.sqlite_resolve.specs.declared.compiled.Compiled.{Compiled}
use Rattle.sqlite_resolve.specs.declared.error.CompileError.{CompileError}
use Rattle.sqlite_schema.specs.declared.command.Returning.{Returning}
use Rattle.sqlite_syntax.specs.declared.statement.Parsed.{Parsed}
use Rattle.store_tables.specs.Effects.{FailsToRead}
use Rattle.store_tables.specs.Transactions.{ShowsNoWrite}

abbrev IsSilent : Result Compiled CompileError → Type 0
IsSilent (Ok c) = c.returning ≡ None
IsSilent (Err e) = ⊤

module _ (text : List ℕ) (p : Parsed) (query : Select) (read : first text ≡ Ok p) (statement : p.statement ≡ written.Select query) where
  by_command : (formats : List (List ℕ)) (r : Checked Command) → IsSilent (and_then (and_then (and_then r (λ c. Ok (c, None))) (λ found. Ok (formats, found))) (λ plan. Ok (with_command p plan)))
  by_command formats (Ok c) = refl
  by_command formats (Err e) = tt

  silent_compiled : (schema : Schema) → IsSilent (compiled schema text)
  unfolding compiled planned meaning returning
  silent_compiled schema = rw (read, statement) (by_command _ _)

  silent_select : (r : Result Compiled CompileError) → IsSilent r → IsSilent (if_select r)
  silent_select (Err e) h = tt
  silent_select (Ok c) h = elim (cases_Bool (is_select c.command)) [ inl one ↦ rw one h | inr none ↦ rw none tt ]

  silent : (schema : Schema) → IsSilent (understood schema text)
  unfolding understood
  silent schema = elim (cases_Bool (reads_listing schema text)) [
    | inl listing ↦ rw listing (silent_select (compiled listing_schema text) (silent_compiled listing_schema))
    | inr other ↦ rw other (silent_compiled schema)
  ]

  if_silent : (r : Result Compiled CompileError) → IsSilent r → IfOk r (λ c. c.returning ≡ None)
  if_silent (Ok c) h = h
  if_silent (Err e) h = tt

  pub shows_no_write : ShowsNoWrite text
  shows_no_write schema = if_silent (understood schema text) (silent schema)

  returns_none : (schema : Schema) (c : Compiled) → understood schema text ≡ Ok c → c.returning ≡ None
  returns_none schema c is = subst IsSilent is (silent schema)

  pub commits_none : (params : Row) (s : State) (db : Trees) → ¬ CommitsShowing text params s db
  unfolding CommitsShowing
  commits_none params s db h = absurd (let none = returns_none s.now.schema h.0 h.1.is in let some = h.2 in let both = rw none at some in cc)

  never : (r : Result Compiled CompileError) → IsSilent r → ¬ Returns r
  never (Ok c) none some = absurd (let both = rw none at some in cc)
  never (Err e) none some = some

  pub never_returns : (schema : Schema) → ¬ Returns (understood schema text)
  never_returns schema = never (understood schema text) (silent schema)

  shows_open : (old new : State) (c : Compiled) (given : Row) (rows : List Row) (what : Option Returning) → what ≡ None → ShowsRows old new text c given rows what → IsTrue old.is_open
  shows_open old new c given rows None none h = h.3.0.was_open
  shows_open old new c given rows (Some what) none h = absurd (let both = none in cc)

  -- rows are read of an open connection alone
  pub shown_open : (old new : State) (params : Row) (rows : List Row) → Shown text params old new rows → IsTrue old.is_open
  unfolding Shown
  shown_open old new params rows h = shows_open old new h.0 (timed_values params h.0.formats h.1.now) rows h.0.returning (returns_none old.now.schema h.0 h.1.is) h.2

  module _ (old new : State) (params : Row) (e : Error) (shut : old.is_open ≡ false) where
    unchanged : ¬ IsUnchanged old new
    unchanged same = absurd (let open' = same.0.was_open in let both = rw shut at open' in cc)

    shown : (c : Compiled) (given : Row) (what : Option Returning) → what ≡ None → FailsToShow old new text c given e what → FailsToRead old new e
    shown c given None none h = absurd (unchanged h.3)
    shown c given (Some what) none h = absurd (let both = none in cc)

    -- a connection that was shut before fails as the store does
    pub shut_query : FailsToQuery text params old new e → FailsToRead old new e
    unfolding FailsToQuery IsNotRun
    shut_query (inl (inl h)) = absurd (unchanged h.1)
    shut_query (inl (inr f)) = inl f
    shut_query (inr h) = shown h.0 (timed_values params h.0.formats h.1.now) h.0.returning (returns_none old.now.schema h.0 h.1.is) h.2
