-- What a command's change makes of the catalogue that a store holds.
use Rattle.std.proofs.Common.{◌≡◌, ◌⊎◌, inl, inr, ℕ, Bool, true, false, List, IsTrue, Some, None, Result, Ok, Err, refl, sym, ap, subst, ◌∙◌}
use Rattle.std.proofs.lemmas.Bool.{false≢true}
use Rattle.sqlite.specs.Effect.{Database}
use Rattle.sqlite.specs.Tree.{Trees}
use Rattle.sqlite.specs.State.{State, HasCleanDisk, IsUnchanged, Survives}
use Rattle.sqlite.specs.Held.{Held, state}
use Rattle.sqlite.proofs.StateLemmas.{survives_weaker}
use Rattle.sqlite_trees.specs.declared.store.Store.{Ghosts}
use Rattle.dict_desk.specs.Faults.{is_failure}
use Rattle.dict_index.specs.Edition.{Edition}
use Rattle.dict_text.specs.Names.{is_request_id}
use Rattle.dict_catalogue.specs.Commands.{Command}
use Rattle.dict_catalogue.specs.Tests.{Holdings, refusal_of}
use Rattle.dict_catalogue.specs.Effects.{KeptReply, effect, reply_to}
use Rattle.dict_catalogue.specs.Steps.{Catalogue, Outcome, accepted, refused, holdings, summary_of, kept_under, with_effect, step}
use Rattle.dict_catalogue.specs.Views.{command_shown, command_meant, IsChange}
use Rattle.dict_catalogue.specs.WellFormed.{IsLawfulCommand}
use Rattle.dict_catalogue.specs.declared.commands.Command as typed
use Rattle.dict_catalogue.specs.declared.planning.PlannedChange.{PlannedChange as Planned}
use Rattle.dict_catalogue.specs.declared.fault.CommandRefusal.{CommandRefusal}
use Rattle.dict_catalogue.proofs.SummaryLemmas.{refusal_of_as, effect_with, reply_to_as}
use Rattle.dict_desk.specs.declared.fault.Fault.{Fault}
use Rattle.dict_desk.specs.declared.fault.Fault.TheVariants.{Refused, Memory, Disk, Closed, NotACatalogue, Damaged, NewerSchema}
use Rattle.store_rows.specs.After.{TableChange, IsTableChange as IsAChange, tables_after}
use Rattle.store_rows.proofs.ChangeLemmas.{after_stands}
use Rattle.store_rows.specs.Versions.{known}
use Rattle.store_holdings.specs.AllTables.{AllTables, with_derived, all_after, orphans_after}
use Rattle.store_holdings.proofs.FileLemmas.{is_new}
use Rattle.store_holdings.proofs.OrphanLemmas.{after_keeps, after_orphans}
use Rattle.store_holdings.specs.Faults.{IsUnreadCatalogue}
use Rattle.store_holdings.specs.Holds.{Holds, Rests, IsLeftAs}
use Rattle.store_holdings.specs.Writing.{FailsToEnd}
use Rattle.store_commands.specs.KeptRecords.{SparesTablesOfOthers, TurnsRecords}
use Rattle.store_commands.specs.Changes.{change_by}
use Rattle.store_commands.specs.Decided.{IsDeclined, LiesWithin}
use Rattle.store_holdings.specs.Committed.{IsCommitted, IsTreesOf}
use Rattle.store_commands.specs.Committed.{StaysCommitted, IsOfStore, FailsToCommit}
use Rattle.store_commands.specs.Answers.{Answers, HoldsBy, summary_after, IsOfShut, HoldsAfter, IsPlanned, FailsToAct, FailsToApply}
use Rattle.store_commands.specs.Statements.{statements_of}
use Rattle.store_sql.specs.Statements.{Statement}
use Rattle.store_commands.specs.declared.applied.Applied.{Applied}
use Rattle.store_commands.specs.declared.applied.Applied.TheVariants.{Repeated, Done}
use Rattle.store_commands.proofs.DecideLemmas.{change_is}
use Rattle.store_commands.proofs.WriteLemmas.{clean_before}

-- ---- what a command makes of all records

pub command_applied : (change : TableChange) (M : Catalogue) (id : List ℕ) (command : Command Edition) (old new : Database) → TurnsRecords (all_after known change) old new → Holds known old M → IsLawfulCommand command
    → IsTrue (is_request_id id) → kept_under M.kept id ≡ None → refusal_of (holdings M) command ≡ None
    → IsAChange M id command change → Holds known new (with_effect M id command)
command_applied change M id command old new turns h lawful named free allowed is =
    let after = (turns (with_derived h.orphans h.tables) (record { own = h.own; keeps = h.keeps })).0 in
    record {
      own = after.own;
      tables = tables_after known change h.tables;
      orphans = orphans_after change h.orphans h.tables;
      keeps = after_keeps known change h.orphans h.tables new (is_new known h.tables M id command change h.stands is) after.keeps;
      shown = tt;
      stands = after_stands known h.tables M id command change h.stands lawful named free allowed is;
      apart = after_orphans known h.tables M id command change h.orphans h.stands is h.apart;
    }

-- ---- the cases of a step

accepted_step : (M : Catalogue) (id : List ℕ) (command : Command Edition) → is_request_id id ≡ true → kept_under M.kept id ≡ None → refusal_of (holdings M) command ≡ None →
    step M id command ≡ record { reply = accepted (reply_to command (effect command (holdings M))); catalogue = with_effect M id command }
accepted_step M id command lawful new none = rw (lawful, new, none) refl

refused_step : (M : Catalogue) (id : List ℕ) (command : Command Edition) (refusal : CommandRefusal) → is_request_id id ≡ true → kept_under M.kept id ≡ None → refusal_of (holdings M) command ≡ Some refusal →
    step M id command ≡ record { reply = refused refusal; catalogue = M }
refused_step M id command refusal lawful new some = rw (lawful, new, some) refl

pub kept_step : (M : Catalogue) (id : List ℕ) (command : Command Edition) (reply : KeptReply) → is_request_id id ≡ true → kept_under M.kept id ≡ Some reply → step M id command ≡ record { reply = accepted reply; catalogue = M }
kept_step M id command reply lawful there = rw (lawful, there) refl

same_refusal : (M : Catalogue) (command : typed.Command) → refusal_of (holdings M) (command_meant command) ≡ refusal_of (summary_of M) (command_shown command)
same_refusal M command = sym (refusal_of_as (λ (edition : Edition). edition.title) (holdings M) (command_meant command))

-- ---- a store that stays holds what it held

pub rests_still : (old new : State) (M : Catalogue) → StaysCommitted old new → IsTrue new.is_open → Rests known old M → Rests known new M
rests_still old new M stays lives rests = record {
  is_open = lives;
  settled = stays.settled lives rests.settled;
  holds = subst (λ db. Holds known db M) (sym (stays.committed lives)) rests.holds;
}

pub rests_unchanged : (old new : State) (M : Catalogue) → IsUnchanged old new → Rests known old M → Rests known new M
rests_unchanged old new M same rests = record {
  is_open = same.0.is_open;
  settled = same.0.now_is ∙ rests.settled ∙ sym same.0.committed_is;
  holds = subst (λ db. Holds known db M) (sym same.0.committed_is) rests.holds;
}

pub holds_now : (s : State) (M : Catalogue) → Rests known s M → Holds known s.now M
holds_now s M rests = subst (λ db. Holds known db M) (sym rests.settled) rests.holds

pub declined_answers : (s : State) (M : Catalogue) (id : List ℕ) (command : typed.Command) (summary : Holdings (List ℕ)) (fault : Fault) → is_request_id id ≡ true → kept_under M.kept id ≡ None → summary_of M ≡ summary
    → IsDeclined summary (command_shown command) fault → Rests known s M → Answers s M id (step M id (command_meant command)) (Err fault)
declined_answers s M id command summary (Refused refusal) lawful new is h rests =
    (refused_step M id (command_meant command) refusal lawful new (same_refusal M command ∙ ap (λ (b : Holdings (List ℕ)). refusal_of b (command_shown command)) is ∙ h), rests)
declined_answers s M id command summary Memory lawful new is h rests = λ lives. rests
declined_answers s M id command summary Disk lawful new is h rests = absurd h
declined_answers s M id command summary Closed lawful new is h rests = absurd h
declined_answers s M id command summary NotACatalogue lawful new is h rests = absurd h
declined_answers s M id command summary Damaged lawful new is h rests = absurd h
declined_answers s M id command summary NewerSchema lawful new is h rests = absurd h

pub failed_answers : (old new : State) (M : Catalogue) (id : List ℕ) (outcome : Outcome) (fault : Fault) → IsOfStore fault → StaysCommitted old new → Rests known old M → Answers new M id outcome (Err fault)
failed_answers old new M id outcome (Refused refusal) h stays rests = absurd h
failed_answers old new M id outcome Memory h stays rests = λ lives. rests_still old new M stays lives rests
failed_answers old new M id outcome Disk h stays rests = λ lives. rests_still old new M stays lives rests
failed_answers old new M id outcome Closed h stays rests = absurd h
failed_answers old new M id outcome NotACatalogue h stays rests = absurd h
failed_answers old new M id outcome Damaged h stays rests = absurd h
failed_answers old new M id outcome NewerSchema h stays rests = absurd h

-- ---- a store that is shut

pub store_shut : (id : List ℕ) (fault : Fault) → IsOfStore fault → IsOfShut id (Err fault)
store_shut id (Refused refusal) h = absurd h
store_shut id Memory h = tt
store_shut id Disk h = tt
store_shut id Closed h = absurd h
store_shut id NotACatalogue h = absurd h
store_shut id Damaged h = absurd h
store_shut id NewerSchema h = absurd h

pub not_shut : {A : Type 0} (is_open : Bool) → IsTrue is_open → is_open ≡ false → A
not_shut is_open live shut = absurd (false≢true (sym shut ∙ live))

-- ---- the change is made

module _ (M : Catalogue) (id : List ℕ) (command : typed.Command) (planned : Planned) (summary : Holdings (List ℕ)) (lawful : is_request_id id ≡ true) (new : kept_under M.kept id ≡ None) (is : summary_of M ≡ summary)
    (change : IsChange summary (command_shown command) planned) (allowed : IsLawfulCommand (command_meant command)) (lies : LiesWithin command) where
  planned_here : IsChange (summary_of M) (command_shown command) planned
  planned_here = subst (λ (b : Holdings (List ℕ)). IsChange b (command_shown command) planned) (sym is) change

  none_refused : refusal_of (holdings M) (command_meant command) ≡ None
  none_refused = same_refusal M command ∙ planned_here.0

  acted : step M id (command_meant command) ≡ record { reply = accepted (reply_to (command_meant command) (effect (command_meant command) (holdings M))); catalogue = with_effect M id (command_meant command) }
  acted = accepted_step M id (command_meant command) lawful new none_refused

  pub holds_after : (old db : Database) → Holds known old M → TurnsRecords (all_after known (change_by id command planned)) old db → Holds known db (step M id (command_meant command)).catalogue
  holds_after old db h turns =
      subst (λ (o : Outcome). Holds known db o.catalogue) (sym acted)
      (command_applied (change_by id command planned) M id (command_meant command) old db turns h allowed lawful new none_refused (change_is M id command planned planned_here.1 lies))

  pub left_after : (old : State) (trees : Trees) → Rests known old M → IsTreesOf (TurnsRecords (all_after known (change_by id command planned)) old.now) trees → IsLeftAs known (step M id (command_meant command)).catalogue trees
  left_after old trees rests it = (it.0, it.1, it.2, holds_after old.now it.0 (holds_now old M rests) it.3)

  pub acted_answers : (old now : State) → Rests known old M → IsCommitted (TurnsRecords (all_after known (change_by id command planned)) old.now) now
      → Answers now M id (step M id (command_meant command)) (Rattle.std.proofs.Common.Ok (Done planned.kept planned.summary))
  acted_answers old now rests done = (
    new,
    ap (λ (o : Outcome). o.reply) acted ∙ ap accepted (sym (planned_here.1.kept ∙ reply_to_as (λ (edition : Edition). edition.title) (command_meant command) (holdings M))),
    ap (λ (o : Outcome). summary_of o.catalogue) acted ∙ sym (planned_here.1.after ∙ effect_with M id (command_meant command)),
    record { is_open = done.is_open; settled = done.settled; holds = holds_after old.now now.committed (holds_now old M rests) done.holds },
    λ trees left. left_after old trees rests (done.only trees left),
  )

-- ---- tables that are none of the product's

pub others_spared : (summary : Holdings (List ℕ)) (old : State) (f : AllTables → AllTables) → HoldsBy summary old → HasCleanDisk old → IsTrue old.is_open → (db : Database) → TurnsRecords f old.now db → SparesTablesOfOthers old.now db
others_spared summary old f holds clean live db turns =
    let it = holds clean live in
    let held = holds_now old it.0 it.1 in
    (turns (with_derived held.orphans held.tables) (record { own = held.own; keeps = held.keeps })).1

pub beside_spared : (summary : Holdings (List ℕ)) (old new : State) (f : AllTables → AllTables) → HoldsBy summary old → Survives old new (IsTreesOf (TurnsRecords f old.now))
    → Survives old new (λ trees. IsTrue old.is_open → IsTreesOf (SparesTablesOfOthers old.now) trees)
beside_spared summary old new f holds crash =
    survives_weaker old new _ _ (λ clean trees it live. (it.0, it.1, it.2, others_spared summary old f holds (clean_before old new crash clean) live it.0 it.3)) crash

pub others_committed : (summary : Holdings (List ℕ)) (old new : State) (f : AllTables → AllTables) → HoldsBy summary old → HasCleanDisk old → IsTrue old.is_open → IsCommitted (TurnsRecords f old.now) new
    → SparesTablesOfOthers old.now new.now
others_committed summary old new f holds clean live done = subst (λ db. SparesTablesOfOthers old.now db) (sym done.settled) (others_spared summary old f holds clean live new.committed done.holds)

-- ---- what the next command needs

answered_by : (new : State) (M : Catalogue) (id : List ℕ) (outcome : Outcome) (summary : Holdings (List ℕ)) (result : Result Applied Fault) → IsTrue new.is_open → summary_of M ≡ summary → Answers new M id outcome result
    → (N : Catalogue) × Rests known new N × (summary_of N ≡ summary_after summary result)
answered_by new M id outcome summary (Ok (Repeated kept)) lives is h = (M, h.2, is)
answered_by new M id outcome summary (Ok (Done kept after)) lives is h = (outcome.catalogue, h.3, h.2)
answered_by new M id outcome summary (Err (Refused refusal)) lives is h = (M, h.1, is)
answered_by new M id outcome summary (Err Memory) lives is h = (M, h lives, is)
answered_by new M id outcome summary (Err Disk) lives is h = (M, h lives, is)
answered_by new M id outcome summary (Err Closed) lives is h = absurd h
answered_by new M id outcome summary (Err NotACatalogue) lives is h = absurd h
answered_by new M id outcome summary (Err Damaged) lives is h = absurd h
answered_by new M id outcome summary (Err NewerSchema) lives is h = absurd h

pub holds_again : (summary : Holdings (List ℕ)) (id : List ℕ) (command : Command Edition) (old new : State) (result : Result Applied Fault) → HoldsBy summary old → (HasCleanDisk new → HasCleanDisk old)
    → (HasCleanDisk new → IsTrue new.is_open → IsTrue old.is_open)
    → (HasCleanDisk new → (M : Catalogue) → Rests known old M → summary_of M ≡ summary → Answers new M id (step M id command) result) → HoldsBy (summary_after summary result) new
holds_again summary id command old new result holds early was value = λ clean lives.
    let it = holds (early clean) (was clean lives) in
    answered_by new it.0 id (step it.0 id command) summary result lives it.2 (value clean it.0 it.1 it.2)

-- ---- why it fails

pub declined_fails : (summary : Holdings (List ℕ)) (command : Command (List ℕ)) (fault : Fault) → IsDeclined summary command fault → is_failure fault ≡ true → (fault ≡ Memory) × (refusal_of summary command ≡ None)
declined_fails summary command (Refused refusal) h real = absurd (false≢true real)
declined_fails summary command Memory h real = (refl, h)
declined_fails summary command Disk h real = absurd h
declined_fails summary command Closed h real = absurd h
declined_fails summary command NotACatalogue h real = absurd h
declined_fails summary command Damaged h real = absurd h
declined_fails summary command NewerSchema h real = absurd h

module _ {S : Type 0} (g : Ghosts S) where
  -- what was written is of a wider kind too
  pub ends_weaker : (statements : List Statement) (P Q : Database → Type 0) (old new : Held S) (fault : Fault) → ((db : Database) → P db → Q db) → FailsToEnd g statements P old new fault → FailsToEnd g statements Q old new fault
  ends_weaker statements P Q old new fault wider (inl h) = inl h
  ends_weaker statements P Q old new fault wider (inr h) = inr (record { told = h.told; last = h.last; ran = h.ran; before = h.before; written = wider (state g h.last).now h.written; error = h.error; fails = h.fails })

  -- what was planned is not committed
  pub commit_fails : (none : Type 0) → none → (summary : Holdings (List ℕ)) (id : List ℕ) (command : Command Edition) (change : TableChange) → (old : Held S) → IsPlanned summary (state g old) id command change
      → (P Q : Database → Type 0) → (new : Held S) → (fault : Fault) → ((db : Database) → P db → Q db)
      → FailsToCommit g change P old new fault → ((fault ≡ Memory) × (new ≡ old) × none) ⊎ FailsToAct g summary id command Q old new fault
  commit_fails none is summary id command change old planned P Q new fault wider (inl h) = inl (h.0, h.1, is)
  commit_fails none is summary id command change old planned P Q new fault wider (inr h) = inr (change, planned, ends_weaker (statements_of known change) P Q old new fault wider h)

  -- a command that is new fails after the id was looked up
  pub new_fails : (none : Type 0) → (summary : Holdings (List ℕ)) (id : List ℕ) (command : Command Edition) (P : Database → Type 0) (old mid new : Held S) → IsUnchanged (state g old) (state g mid) → Survives
      (state g old) (state g mid) (λ _. ⊥)
      → ((db : Database) → P db → HoldsAfter summary (state g old) id command db) → (fault : Fault) → ((fault ≡ Memory) × (new ≡ mid) × none) ⊎ FailsToAct g summary id command P mid new fault → FailsToApply g summary id
      command old new fault
  new_fails none summary id command P old mid new same survives wider fault (inl h) = inl (inl (subst (λ k. IsUnchanged (state g old) (state g k)) (sym h.1) same, subst (IsUnreadCatalogue (state g old)) (sym h.0) tt))
  new_fails none summary id command P old mid new same survives wider fault (inr h) =
      inr (mid, same, survives, (h.0, h.1, ends_weaker (statements_of known h.0) P (HoldsAfter summary (state g old) id command) mid new fault wider h.2))

-- what is written of a command that was planned
pub is_planned : (id : List ℕ) (command : typed.Command) (planned : Planned) (summary : Holdings (List ℕ)) → IsChange summary (command_shown command) planned → LiesWithin command → (old : State) → IsPlanned summary
    old id (command_meant command) (change_by id command planned)
is_planned id command planned summary change lies old = λ M rests is.
    let here : IsChange (summary_of M) (command_shown command) planned = subst (λ (b : Holdings (List ℕ)). IsChange b (command_shown command) planned) (sym is) change in
    (same_refusal M command ∙ here.0, change_is M id command planned here.1 lies)
