-- Why a text that writes is refused, whatever it writes.
use Rattle.std.proofs.Common.{◌≡◌, ◌≢◌, ◌⊎◌, ◌≤◌, ℕ, zero, suc, List, [], ◌∷◌, length, Bool, true, false, Option, Some, None, Ok, Err, Result, inl, inr, refl, sym, ap, subst, ◌∙◌, append-nil, length-append}
use Rattle.std.proofs.Common.{arith, MatchBool}
use Rattle.std.specs.List.{AllByRecursion}
use Rattle.sqlite.specs.Order.{Row}
use Rattle.sqlite.specs.Table.{Table}
use Rattle.sqlite.specs.Schema.{Schema}
use Rattle.sqlite.specs.Tree.{Trees}
use Rattle.sqlite.specs.Command.{Command}
use Rattle.sqlite.specs.Command.TheVariants.{Begin, Commit, Rollback, Release, RollbackTo}
use Rattle.sqlite.specs.Clock.{timed}
use Rattle.sqlite.specs.Compile.{with_command}
use Rattle.sqlite.specs.Does.{Does}
use Rattle.sqlite.specs.Edit.{Edit}
use Rattle.sqlite.specs.Listing.{understood}
use Rattle.sqlite.specs.State.{State, Executes, ExecutesIn, ExecutesInside, EndsScope, Escapes, IsMisplaced, IsNoStatement, IsNotRun, RunsAlone, RunsCommand, Fails, HasCause, IsUnchanged, mode_of, shows_rows, text_of}
use Rattle.sqlite.specs.declared.error.Error.{Error}
use Rattle.sqlite.specs.declared.error.Error.TheVariants.{ExecuteReturnedResults, SqliteFailure, MultipleStatement, InvalidParameterCount}
use Rattle.sqlite.specs.declared.error.ErrorCode.TheVariants.{NoClock}
use Rattle.sqlite_resolve.specs.declared.compiled.Compiled.{Compiled}
use Rattle.sqlite_rules.specs.Action.{works, Leads, Writes}
use Rattle.sqlite_rules.specs.Edit.{IsRefused, IsOversized, taken_by}
use Rattle.sqlite_rules.specs.Lists.{Has as In}
use Rattle.sqlite_rules.specs.declared.error.Refusal.{Refusal}
use Rattle.sqlite_schema.specs.Rules.{Refers}
use Rattle.sqlite_schema.specs.declared.schema.Among.TheVariants.{All}
use Rattle.sqlite_schema.specs.declared.schema.Keys.{Keys}
use Rattle.sqlite_syntax.specs.declared.statement.Parsed.{Parsed}
use Rattle.sqlite_trees.specs.declared.error.StoreError.{StoreError}
use Rattle.sqlite_trees.specs.declared.error.StoreError.TheVariants as why
use Rattle.store_tables.proofs.InsertLemmas.{same_value}
use Rattle.store_tables.proofs.KitLemmas.{all_has, refers_same}

-- a command that begins or ends a transaction, or goes back in it
abbrev pub is_of_transactions : Command → Bool
is_of_transactions Begin = true
is_of_transactions Commit = true
is_of_transactions Rollback = true
is_of_transactions (Release name) = true
is_of_transactions (RollbackTo name) = true
is_of_transactions _ = false

module _ (command : Command) (writes : is_of_transactions command ≡ false) where
  other : (k : Command) → is_of_transactions k ≡ true → ¬ (command ≡ k)
  other k is same = let both : true ≡ false = sym is ∙ sym (ap is_of_transactions same) ∙ writes in absurd cc

  well_placed : (s : State) (e : Error) → ¬ IsMisplaced s command e
  well_placed s e (inl h) = elim h.1 [
    | inl begins ↦ other Begin refl begins.0
    | inr ends ↦ elim ends.0 [ inl commits ↦ other Commit refl commits | inr undoes ↦ other Rollback refl undoes ]
  ]
  well_placed s e (inr h) = elim h.2 [ inl releases ↦ other (Release h.1) refl releases | inr goes ↦ other (RollbackTo h.1) refl goes ]

  stays : (s : State) → ¬ Escapes 0 s command
  stays s (inl h) = elim h [ inl commits ↦ other Commit refl commits | inr undoes ↦ other Rollback refl undoes ]
  stays s (inr h) = elim h.1 [ inl releases ↦ other (Release h.0) refl releases | inr goes ↦ other (RollbackTo h.0) refl goes ]

module _ (old new : State) (e : Error) where
  moved : (P Q : Type 0) → (P → Q) → (cause : StoreError) → HasCause old new P cause → HasCause old new Q cause
  moved P Q f why.OutOfMemory h = h
  moved P Q f why.Io h = h
  moved P Q f why.Corrupt h = h
  moved P Q f why.Full h = h
  moved P Q f why.Broken h = h
  moved P Q f why.Unstorable h = f h

  pub fails_for : (P Q : Type 0) → (P → Q) → Fails old new P e → Fails old new Q e
  fails_for P Q f h = (h.0, h.1, moved P Q f h.0 h.2, h.3, h.4)

-- ---- the text is run, or the store failed

-- a text that failed has changed nothing, or the store failed
pub failed_so : {A : Type 0} (old new : State) (text : List ℕ) (params : Row) (e : Error) → (IsUnchanged old new → A) → ((P : Type 0) → Fails old new P e → A) → Executes text params old new (Err e) → A
unfolding ExecutesIn IsNotRun
failed_so old new text params e same fails (inl (inl h)) = same h.1
failed_so old new text params e same fails (inl (inr f)) = fails ⊥ f
failed_so {A} old new text params e same fails (inr h) = alone h.0 (timed params h.0.formats h.1.now) (shows_rows false h.0) h.2
  where
    alone : (c : Compiled) (given : Row) (shows : Bool) → MatchBool shows ((◌≡◌ {A = Result ℕ Error} (Err e) (Err ExecuteReturnedResults)) × IsUnchanged old new) (RunsCommand old new text c given (Err e)) → A
    alone c given true h = same h.1
    alone c given false (inl h) = same h.1
    alone c given false (inr f) = fails _ f

module _ (text : List ℕ) (p : Parsed) (command : Command) (params : Row) (old new : State) (e : Error)
    (is : understood old.now.schema text ≡ Ok (with_command p ([], (command, None))))
    (whole : length text ≤ p.tail) (given : length params ≡ length p.names)
    (silent : shows_rows false (with_command p ([], (command, None))) ≡ false)
    (writes : is_of_transactions command ≡ false)
  where
    abbrev it : Compiled
    it = with_command p ([], (command, None))

    is_it : (c : Compiled) → understood old.now.schema text ≡ Ok c → c ≡ it
    is_it c h = same_value (sym h ∙ is)

    is_one : ¬ IsNoStatement old text params e
    is_one (inl h) = absurd (let both : Err h.0 ≡ Ok it = sym h.1 ∙ is in cc)
    is_one (inr h) = fits h.0 (is_it h.0 h.1) h.2
      where
        fits : (c : Compiled) → c ≡ it → ¬ (((¬ (length text ≤ c.tail)) × (e ≡ MultipleStatement))
            ⊎ (((length params ≢ length c.names) × (e ≡ InvalidParameterCount (length params) (length c.names))) ⊎ ((c.formats ≢ []) × (e ≡ SqliteFailure NoClock))))
        fits c same (inl long) = long.0 (rw same whole)
        fits c same (inr (inl many)) = many.0 (rw same given)
        fits c same (inr (inr late)) = late.0 (rw same refl)

    abbrev pub Refused : Type 0
    Refused = Does old.step_limit (mode_of old) params old.now (text_of text it) None command (Err (Some e))

    abbrev pub TooBig : Type 0
    TooBig = Does old.step_limit (mode_of old) params old.now (text_of text it) None command (Err None)

    abbrev pub Cause : Type 0
    Cause = (Refused × IsUnchanged old new) ⊎ Fails old new TooBig e

    by_command : RunsCommand old new text it params (Err e) → Cause
    by_command (inl h) = elim h.0 [ inl misplaced ↦ absurd (well_placed command writes old e misplaced) | inr refused ↦ inl (refused.1, h.1) ]
    by_command (inr f) = inr f

    not_run : IsNotRun old new text params e → Cause
    unfolding IsNotRun
    not_run (inl h) = absurd (is_one h.0)
    not_run (inr f) = inr (fails_for old new e _ TooBig (λ never. absurd never) f)

    executed : Executes text params old new (Err e) → Cause
    unfolding ExecutesIn
    executed (inl h) = not_run h
    executed (inr h) =
        let ran = subst (λ (c : Compiled). RunsAlone false old new text c (timed params c.formats h.1.now) (Err e)) (is_it h.0 h.1.is) h.2 in
        by_command (rw (silent, append-nil params) at ran)

    ends_none : ¬ EndsScope 0 text params old
    unfolding EndsScope
    ends_none h = stays command writes old (subst (λ (c : Compiled). Escapes 0 old c.command) (is_it h.0 h.1.is) h.2)

    pub faults_inside : ExecutesInside 0 text params old new (Err e) → Cause
    faults_inside (inl h) = executed h.0
    faults_inside (inr h) = absurd (ends_none h.0)

-- ---- a part that stopped

pub same_stop : {A E : Type 0} {a b : E} → ◌≡◌ {A = Result A E} (Err a) (Err b) → a ≡ b
same_stop e = cc

pub no_stop : {A E : Type 0} {a : A} {b : E} → ¬ (◌≡◌ {A = Result A E} (Err b) (Ok a))
no_stop e = absurd cc

-- Where no foreign key acts, a step is refused, or a row of it is too big.
pub failed_step : (schema : Schema) (keys : Keys) (db : Trees) (edit : Edit) (end : Option Refusal) → works schema keys 0 edit.table.tree (taken_by db edit) edit.news ≡ [] → Writes schema keys db edit (Err end)
    → ((r : Refusal) × IsRefused schema keys db edit r × (end ≡ Some r)) ⊎ ((row : Row) × In edit.news row × IsOversized schema edit.table row × (end ≡ None))
failed_step schema keys db edit end none (inl refused) = inl (refused.0, refused.1, same_stop refused.2)
failed_step schema keys db edit end none (inr (inl big)) = inr (big.0, big.1, big.2, same_stop big.3)
failed_step schema keys db edit end none (inr (inr went)) = absurd (unsettled went.2.0 (rw none at went.2.1))
  where
    unsettled : (n : ℕ) → ¬ Leads schema keys n went.0 [] (Err end)
    unsettled zero h = no_stop h.1
    unsettled (suc n) h = omega (arith, ap length h.2, length-append h.0 (h.1 ∷ []))

-- the rows of the tables are the same, and so are the rows that the foreign keys name
pub same_refers : (schema : Schema) (a b : Trees) → AllByRecursion (λ t. b t.tree ≡ a t.tree) schema.tables → Refers All schema a → Refers All schema b
same_refers schema a b same = refers_same All schema a b (λ t. all_has (λ (t : Table). b t.tree ≡ a t.tree) schema.tables t same)
