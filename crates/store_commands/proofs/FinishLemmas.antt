-- A command whose edition was filed: its rest, and what that is over a look before.
use Rattle.std.proofs.Common.{◌≡◌, ℕ, true, false, List, IsTrue, None, Result, Ok, Err, sym, subst, ◌∙◌, arith}
use Rattle.std.specs.Prelude.{OnOk, IfErr}
use Rattle.std.proofs.lemmas.Bool.{false≢true}
use Rattle.sqlite.specs.Effect.{Database, IsDatabase}
use Rattle.sqlite.specs.Tree.{Trees}
use Rattle.sqlite.specs.State.{State, HasCleanDisk, IsUnchanged, Survives}
use Rattle.sqlite.specs.Held.{Held, state}
use Rattle.sqlite.proofs.StateLemmas.{survives_then, survives_weaker}
use Rattle.sqlite_trees.specs.declared.store.Store.{Ghosts}
use Rattle.dict_desk.specs.Faults.{is_disk, is_failure}
use Rattle.dict_desk.specs.declared.fault.Fault.{Fault}
use Rattle.dict_desk.specs.declared.fault.Fault.TheVariants.{Refused, Memory, Disk, Closed, NotACatalogue, Damaged, NewerSchema}
use Rattle.dict_index.specs.Edition.{Edition}
use Rattle.dict_text.specs.Names.{is_request_id}
use Rattle.store_tables.specs.Effects.{WhileOpen}
use Rattle.store_sql.specs.Statements.{RunInTurn}
use Rattle.dict_catalogue.specs.Commands.{Command}
use Rattle.dict_catalogue.specs.Tests.{Holdings}
use Rattle.dict_catalogue.specs.Steps.{Catalogue, summary_of, kept_under, step}
use Rattle.dict_catalogue.specs.Views.{command_shown, command_meant, summary_shown, IsChange}
use Rattle.dict_catalogue.specs.WellFormed.{IsLawfulCommand}
use Rattle.dict_catalogue.specs.declared.commands.Command as typed
use Rattle.dict_catalogue.specs.declared.planning.PlannedChange.{PlannedChange as Planned}
use Rattle.store_rows.specs.After.{TableChange}
use Rattle.store_rows.specs.Versions.{known}
use Rattle.store_holdings.specs.AllTables.{AllTables, with_derived, all_after}
use Rattle.store_holdings.specs.Holds.{Holds, Rests, IsLeftAs}
use Rattle.store_holdings.specs.Writing.{FailsToEnd}
use Rattle.store_holdings.specs.Committed.{IsCommitted, IsTreesOf}
use Rattle.store_commands.specs.KeptRecords.{IsUsable, SparesTablesOfOthers, KeepsTextRows, TurnsRecords}
use Rattle.store_commands.specs.Changes.{change_by, finished, IsInRange}
use Rattle.store_commands.specs.Statements.{finishing}
use Rattle.store_commands.specs.Decided.{LiesWithin}
use Rattle.store_commands.specs.Committed.{IsOfStore, StaysCommitted}
use Rattle.store_commands.specs.Answers.{HoldsBy, HoldsAfter, Answers, numbers_after, IsOfApply}
use Rattle.store_commands.specs.Filing.{IsOfEdition, IsFiledSoFar, AreAllPartsFiled}
use Rattle.store_commands.specs.Finishing.{AwaitsRest, IsAppliedOver, FailsToFinish}
use Rattle.store_commands.specs.Writes.{WroteStatements}
use Rattle.store_commands.specs.declared.filing.Filing.{Filing}
use Rattle.store_commands.specs.declared.applied.Applied.{Applied}
use Rattle.store_commands.specs.declared.applied.Applied.TheVariants.{Done}
use Rattle.store_commands.proofs.AboveLemmas.{above_committed, grows_by, none_refused}
use Rattle.store_commands.proofs.ApplyLemmas.{acted_answers, ends_weaker, failed_answers, holds_after, holds_again, holds_now, is_planned, left_after, not_shut, others_spared, rests_unchanged, store_shut}
use Rattle.store_commands.proofs.EndLemmas.{Spans, clean_first, made_open}
use Rattle.store_commands.proofs.FilingLemmas.{awaits_rest}
use Rattle.store_commands.proofs.WriteLemmas.{clean_before}

-- ---- a store that is held

pub usable_by : (summary : Holdings (List ℕ)) (s : State) → HoldsBy summary s → WhileOpen s IsUsable
usable_by summary s holds = λ clean live.
    let it = holds clean live in
    let held = holds_now s it.0 it.1 in
    (with_derived held.orphans held.tables, record { own = held.own; keeps = held.keeps })

pub settled_by : (summary : Holdings (List ℕ)) (s : State) → HoldsBy summary s → HasCleanDisk s → IsTrue s.is_open → s.now ≡ s.committed
settled_by summary s holds clean live = (holds clean live).1.settled

-- ---- a command after a look

module _ (summary : Holdings (List ℕ)) (id : List ℕ) (command : Command Edition) (old mid new : State) (result : Result Applied Fault) (same : HasCleanDisk mid → IsUnchanged old mid) (one : Survives old mid (λ _. ⊥))
    (applied : IsAppliedOver summary id command mid new result) where
  same_so : HasCleanDisk new → IsUnchanged old mid
  same_so clean = same (clean_before mid new applied.crash clean)

  pub applied_later : IsAppliedOver summary id command old new result
  applied_later = record {
    value = λ clean M rests is. applied.value clean M (rests_unchanged old mid M (same_so clean) rests) is;
    spares = λ no. survives_then old mid new (λ _. ⊥) (λ _. ⊥) (λ _. ⊥) (λ _ db none. none) (λ _ db none. none) one (applied.spares no);
    crash = survives_then old mid new (λ _. ⊥) (λ trees. IsTrue mid.is_open × ((M : Catalogue) → Rests known mid M → summary_of M ≡ summary → IsLeftAs known (step M id command).catalogue trees))
        (λ trees. IsTrue old.is_open × ((M : Catalogue) → Rests known old M → summary_of M ≡ summary → IsLeftAs known (step M id command).catalogue trees)) (λ clean trees none. absurd none)
        (λ clean trees left. ((same_so clean).0.was_open, λ M rests is. left.1 M (rests_unchanged old mid M (same_so clean) rests) is)) one applied.crash;
    beside = survives_then old mid new (λ _. ⊥) (λ trees. IsTrue mid.is_open × IsTreesOf (SparesTablesOfOthers mid.committed) trees) (λ trees. IsTrue old.is_open × IsTreesOf (SparesTablesOfOthers old.committed) trees)
        (λ clean trees none. absurd none)
        (λ clean trees left. ((same_so clean).0.was_open, subst (λ (a : Database). IsTreesOf (SparesTablesOfOthers a) trees) (same_so clean).0.committed_is left.1)) one applied.beside;
    lives = λ clean live. (same_so clean).0.was_open;
    shut = λ clean dead. not_shut old.is_open (same_so clean).0.was_open dead;
    others = λ clean. subst (λ (a : Database). OnOk result (SparesTablesOfOthers a new.committed)) (same_so clean).0.committed_is (applied.others clean);
    above = λ clean. subst (λ (a : Database). OnOk result (KeepsTextRows summary.installs (numbers_after summary result) a new.committed)) (same_so clean).0.committed_is (applied.above clean);
    refused = λ clean. subst (λ (a : Database). IfErr result (λ fault. is_failure fault ≡ false → new.committed ≡ a)) (same_so clean).0.committed_is (applied.refused clean);
    grows = applied.grows;
    kinds = applied.kinds;
    range = applied.range;
    holds = applied.holds;
    ended = applied.ended;
  }

pub holds_later : (summary : Holdings (List ℕ)) (old mid : State) → (HasCleanDisk mid → IsUnchanged old mid) → Survives old mid (λ _. ⊥) → HoldsBy summary old → HoldsBy summary mid
holds_later summary old mid same one holds = λ clean live.
    let unchanged = same clean in
    let it = holds (clean_before old mid one clean) unchanged.0.was_open in
    (it.0, rests_unchanged old mid it.0 unchanged it.1, it.2)

-- ---- the rest of a command

pub rest_turns : (change : TableChange) (old db : Database) → AwaitsRest change old → TurnsRecords (finished change) old db → TurnsRecords (all_after known change) old db
rest_turns change old db awaits turns = λ all it.
    let after = turns all it in
    (awaits all it db after.0, after.1)

-- it was written behind the begin of a transaction
module _ {S : Type 0} {g : Ghosts S} {old begun mid end new : Held S} {Commits : Trees → Type 0} (tx : Spans g old begun mid end new Commits) (change : TableChange)
    (awaits : HasCleanDisk (state g old) → IsTrue (state g old).is_open → AwaitsRest change (state g old).now) (wrote : WroteStatements g (finishing known change) (finished change) begun mid)
    (sound : HasCleanDisk (state g mid) → IsDatabase (state g mid).now) where
  -- where the first statement ran, the store was open
  open_before : (first : Held S) → RunInTurn g (finishing known change) first mid → IsTrue (state g first).is_open
  open_before first ran = ran.1.0.1.was_open

  pub rest_made : HasCleanDisk (state g mid) → (IsTrue (state g old).is_open × TurnsRecords (all_after known change) (state g old).now (state g mid).now) × IsDatabase (state g mid).now
  rest_made clean =
      let it = made_open tx (TurnsRecords (finished change)) (λ clean. open_before begun (wrote.ran clean)) wrote.turns sound clean in
      ((it.0.0, rest_turns change (state g old).now (state g mid).now (awaits (clean_first tx clean) it.0.0) it.0.1), it.1)

store_applies : (fault : Fault) → IsOfStore fault → IsOfApply fault
store_applies (Refused refusal) h = tt
store_applies Memory h = tt
store_applies Disk h = tt
store_applies Closed h = absurd h
store_applies NotACatalogue h = absurd h
store_applies Damaged h = absurd h
store_applies NewerSchema h = absurd h

module _ (summary : Holdings (List ℕ)) (id : List ℕ) (command : typed.Command) (planned : Planned) (old new : State) (lawful : is_request_id id ≡ true) (change : IsChange summary (command_shown command) planned)
    (allowed : IsLawfulCommand (command_meant command)) (lies : LiesWithin command) (free : HasCleanDisk old → (M : Catalogue) → Rests known old M → kept_under M.kept id ≡ None) (holds : HoldsBy summary old)
    (crash : Survives old new (λ trees. IsTrue old.is_open × IsTreesOf (TurnsRecords (all_after known (change_by id command planned)) old.now) trees)) (ended : new.in_transaction ≡ false) where
  abbrev effect : AllTables → AllTables
  effect = all_after known (change_by id command planned)

  old_clean : HasCleanDisk new → HasCleanDisk old
  old_clean clean = clean_before old new crash clean

  rest_crash : Survives old new (λ trees. IsTrue old.is_open × ((M : Catalogue) → Rests known old M → summary_of M ≡ summary → IsLeftAs known (step M id (command_meant command)).catalogue trees))
  rest_crash = survives_weaker old new _ _
      (λ clean trees left. (left.0, λ M rests is. left_after M id command planned summary lawful (free (old_clean clean) M rests) is change allowed lies old trees rests left.1)) crash

  rest_spares : HasCleanDisk old → IsTrue old.is_open → (db : Database) → TurnsRecords effect old.now db → SparesTablesOfOthers old.committed db
  rest_spares clean live db turns = subst (λ (a : Database). SparesTablesOfOthers a db) (settled_by summary old holds clean live) (others_spared summary old effect holds clean live db turns)

  rest_beside : Survives old new (λ trees. IsTrue old.is_open × IsTreesOf (SparesTablesOfOthers old.committed) trees)
  rest_beside = survives_weaker old new _ _ (λ clean trees left. (left.0, (left.1.0, left.1.1, left.1.2, rest_spares (old_clean clean) left.0 left.1.0 left.1.3))) crash

  module _ (made : HasCleanDisk new → IsCommitted (TurnsRecords effect old.now) new) (lives : HasCleanDisk new → IsTrue new.is_open → IsTrue old.is_open) (range : IsInRange (summary_shown planned.summary)) where
    live_then : HasCleanDisk new → IsTrue old.is_open
    live_then clean = lives clean (made clean).is_open

    done_value : HasCleanDisk new → (M : Catalogue) → Rests known old M → summary_of M ≡ summary → Answers new M id (step M id (command_meant command)) (Ok (Done planned.kept planned.summary))
    done_value clean M rests is = acted_answers M id command planned summary lawful (free (old_clean clean) M rests) is change allowed lies old new rests (made clean)

    pub rest_done : IsAppliedOver summary id (command_meant command) old new (Ok (Done planned.kept planned.summary))
    rest_done = record {
      value = done_value;
      spares = λ no. absurd (false≢true (sym no));
      crash = rest_crash;
      beside = rest_beside;
      lives = lives;
      shut = λ clean dead. not_shut old.is_open (live_then clean) dead;
      others = λ clean. rest_spares (old_clean clean) (live_then clean) new.committed (made clean).holds;
      above = λ clean.
          subst (λ (a : Database). KeepsTextRows summary.installs (numbers_after summary (Ok (Done planned.kept planned.summary))) a new.committed) (settled_by summary old holds (old_clean clean) (live_then clean))
          (subst (λ (b : Database). KeepsTextRows summary.installs (numbers_after summary (Ok (Done planned.kept planned.summary))) old.now b) (made clean).settled
          (above_committed summary id command planned change old new holds (old_clean clean) (live_then clean) (made clean)));
      refused = λ clean. tt;
      grows = grows_by summary command planned change;
      kinds = tt;
      range = range;
      holds = holds_again summary id (command_meant command) old new (Ok (Done planned.kept planned.summary)) holds old_clean lives done_value;
      ended = ended;
    }

  pub rest_failed : (fault : Fault) → IsOfStore fault → (HasCleanDisk new → StaysCommitted old new) → (is_disk fault ≡ false → Survives old new (λ _. ⊥)) → IsInRange summary
      → IsAppliedOver summary id (command_meant command) old new (Err fault)
  rest_failed fault kind stays spares range =
      let value = λ (clean : HasCleanDisk new) (M : Catalogue) (rests : Rests known old M) (is : summary_of M ≡ summary). failed_answers old new M id (step M id (command_meant command)) fault kind (stays clean) rests in
      record {
        value = value;
        spares = spares;
        crash = rest_crash;
        beside = rest_beside;
        lives = λ clean live. (stays clean).was_open live;
        shut = λ clean dead. store_shut id fault kind;
        others = λ clean. tt;
        above = λ clean. tt;
        refused = λ clean no. absurd (none_refused fault kind no);
        grows = omega arith;
        kinds = store_applies fault kind;
        range = range;
        holds = holds_again summary id (command_meant command) old new (Err fault) holds old_clean (λ clean live. (stays clean).was_open live) value;
        ended = ended;
      }

-- why the rest isn't made
pub rest_fails : {S : Type 0} (g : Ghosts S) (summary : Holdings (List ℕ)) (id : List ℕ) (command : typed.Command) (planned : Planned) (old new : Held S) → is_request_id id ≡ true → IsChange summary (command_shown command) planned
    → IsLawfulCommand (command_meant command) → LiesWithin command → ((M : Catalogue) → Rests known (state g old) M → kept_under M.kept id ≡ None) → (fault : Fault)
    → FailsToEnd g (finishing known (change_by id command planned)) (TurnsRecords (all_after known (change_by id command planned)) (state g old).now) old new fault → FailsToFinish g summary id (command_meant command) old new fault
rest_fails g summary id command planned old new lawful change allowed lies free fault fails = (
  change_by id command planned,
  is_planned id command planned summary change lies (state g old),
  ends_weaker g (finishing known (change_by id command planned)) (TurnsRecords (all_after known (change_by id command planned)) (state g old).now) (HoldsAfter summary (state g old) id (command_meant command)) old new fault
      (λ db turns M rests is. holds_after M id command planned summary lawful (free M rests) is change allowed lies (state g old).now db (holds_now (state g old) M rests) turns) fails,
)

-- ---- an edition that is filed is the one that a command installs

module _ (f : Filing) (summary : Holdings (List ℕ)) (old mid : State) (filed : IsFiledSoFar f old) (holds : HoldsBy summary old) (one : Survives old mid (λ _. ⊥)) (same : HasCleanDisk mid → IsUnchanged old mid) where
  pub change_awaits : (change : TableChange) → AreAllPartsFiled f → IsOfEdition f change.edition → HasCleanDisk mid → AwaitsRest change mid.now
  change_awaits change whole of_it clean =
      let early = clean_before old mid one clean in
      let live = (same clean).0.was_open in
      subst (AwaitsRest change) (sym ((same clean).0.now_is ∙ settled_by summary old holds early live)) (awaits_rest f change old.committed whole of_it (filed early live whole.begun))

pub free_still : (id : List ℕ) (old mid : State) → IsUnchanged old mid → ((version : ℕ) (M : Catalogue) → Holds version old.now M → None ≡ kept_under M.kept id) → (M : Catalogue) → Rests known mid M → kept_under M.kept id ≡ None
free_still id old mid same none M rests = sym (none known M (subst (λ (db : Database). Holds known db M) same.0.now_is (holds_now mid M rests)))
