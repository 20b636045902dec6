-- What was written where a task over a desk wasn't done.
use Rattle.std.proofs.Common.{◌≡◌, ℕ, Bool, List, Option, Ok, Err, inl, inr, refl, subst, arith, ap}
use Rattle.std.specs.Prelude.{◌⊎◌, Result}
use Rattle.dict_desk.specs.Plain.{PlainState}
use Rattle.dict_desk.specs.declared.lookup.Lookup as lookup
use Rattle.net_driver.specs.declared.binding.Network as network
use Rattle.net_driver.specs.declared.sockets.SystemSockets.{SystemSockets}
use Rattle.dict_proto.specs.Streams.{StreamChange, HasFailed}
use Rattle.dict_index.specs.Edition.{Edition as AnEdition}
use Rattle.dict_catalogue.specs.Commands.{Command, rollback, retire, put_virtual, place}
use Rattle.net_serving.specs.declared.desks.DeskOpener as desks
use Rattle.dict_catalogue.specs.declared.reply.Kept.{Kept}
use Rattle.dict_catalogue.specs.Steps.{Catalogue, CommandRequest}
use Rattle.dict_desk.specs.declared.fault.Fault.{Fault as DeskFault, Fault}
use Rattle.dict_desk.specs.Expected.{Expected}
use Rattle.app_words.specs.Faults.{status_of}
use Rattle.app_words.specs.Writing.{IsUntouched, Writes}
use Rattle.app_words.specs.declared.fault.ProgramFault.{ProgramFault}
use Rattle.app_words.specs.declared.fault.ProgramFault.TheVariants.{Line, Edition, Refused, Store, CannotRead, SessionEnded, CannotWrite, CannotBind, CannotWait, Memory}
use Rattle.app_words.specs.Changing.{TellsAnswer}
use Rattle.app_words.specs.Installing.{InstallEnds}
use Rattle.app_words.specs.Asked.{words_shown}
use Rattle.app_words.specs.declared.task.ItemChange.{ItemChange as Asked}
use Rattle.app_words.specs.declared.task.ItemChange.TheVariants.{Install, Rollback, Retire, Virtual, Place}
use Rattle.app_commands.specs.Working.{AuditEnds, ChangeEnds, InstallsOn, ListEnds, ServesOn, TellsSound}
use Rattle.app_commands.specs.declared.catalogues.Catalogues as catalogues
use Rattle.app_commands.specs.Program.{ChangeTaskEnds, IsCutOff, IsFailed}
use Rattle.net_serving.specs.Serving.{IsNotReopened}
use Rattle.app_commands.specs.Serving.{IsServedUntil, WasShutBy}
use Rattle.app_commands.proofs.ServingLemmas.{ends_not_1, memory_by_status}

-- nothing was written, or the writer failed and that was told
abbrev pub Spoils : ProgramFault → StreamChange → Type 0
Spoils fault writer = IsUntouched writer ⊎ ((fault ≡ CannotWrite) × HasFailed writer.old.failures writer.new.failures)

-- what each status tells of it
pub spoils_not_3 : (fault : ProgramFault) (writer : StreamChange) → (3 ≡ status_of fault → ⊥) → Spoils fault writer → IsUntouched writer
spoils_not_3 fault writer other (inl h) = h
spoils_not_3 fault writer other (inr (is, h)) = absurd (other (omega (arith, ap status_of is)))

pub writes_spoils : (text : List ℕ) (fault : ProgramFault) (writer : StreamChange) → Writes text (Err fault) writer → Spoils fault writer
writes_spoils text (Line refusal line) writer h = absurd h
writes_spoils text (Edition refusal) writer h = absurd h
writes_spoils text (Refused refusal) writer h = absurd h
writes_spoils text (Store fault) writer h = absurd h
writes_spoils text (CannotRead path) writer h = absurd h
writes_spoils text SessionEnded writer h = absurd h
writes_spoils text CannotWrite writer h = inr (refl, h.failures)
writes_spoils text (CannotBind address) writer h = absurd h
writes_spoils text CannotWait writer h = absurd h
writes_spoils text Memory writer h = inl h

pub answer_spoils : (answer : Result Kept DeskFault) (fault : ProgramFault) (writer : StreamChange) → TellsAnswer answer (Err fault) writer → Spoils fault writer
answer_spoils (Ok kept) fault writer h = writes_spoils _ fault writer h.0
answer_spoils (Err why) fault writer h = inl h.1

pub sound_spoils : (audited closed : Result (Unit {0}) ProgramFault) (fault : ProgramFault) (writer : StreamChange) → TellsSound audited closed (Err fault) writer → Spoils fault writer
sound_spoils (Ok read) (Ok done) fault writer h = writes_spoils _ fault writer h.0
sound_spoils (Ok read) (Err why) fault writer h = inl h.1
sound_spoils (Err why) closed fault writer h = inl h.1

module _ {D Beside : Type 0} (Shows : D → Catalogue → Type 0) (LeavesOneOf : D → List (Option Catalogue) → Type 0) (KeepsBeside : D → Beside → Type 0) (IsTrusted : D → Type 0) (is_closed : D → Bool)
    (GivesWay : D → D → DeskFault → Type 0) (FailsToApply : D → CommandRequest → D → DeskFault → Type 0) where
  pub install_spoils : (files : List ℕ → Option (List ℕ)) (old new : D) (name id index text : List ℕ) (fault : ProgramFault) (writer : StreamChange)
      → InstallEnds Shows LeavesOneOf KeepsBeside IsTrusted is_closed GivesWay FailsToApply files old new name id index text (Err fault) writer → Spoils fault writer
  unfolding Rattle.app_words.specs.Installing.InstallEnds
  install_spoils files old new name id index text fault writer (inl again) = writes_spoils _ fault writer again.line.0
  install_spoils files old new name id index text fault writer (inr (inl unknown)) = inl unknown.untouched
  install_spoils files old new name id index text fault writer (inr (inr (middle, none, inl unread))) = inl unread.2
  install_spoils files old new name id index text fault writer (inr (inr (middle, none, inr (i, t, a, b, inl unsaid)))) = inl unsaid.2
  install_spoils files old new name id index text fault writer (inr (inr (middle, none, inr (i, t, a, b, inr (edition, said, changed))))) = answer_spoils changed.answer fault writer changed.told

module _ {K D : Type 0} (k : lookup.Ghosts K) (d : desks.Ghosts D K) where
  pub list_spoils : (path : List ℕ) (old new : D) (fault : ProgramFault) (writer : StreamChange) → ListEnds k d path old new (Err fault) writer → Spoils fault writer
  list_spoils path old new fault writer (inl h) = inl h.4
  list_spoils path old new fault writer (inr (desk, left, closed, is, does, shut, (same, listed))) = writes_spoils _ fault writer listed.lines.0

  change_spoils : (fails : K → CommandRequest → K → Fault → Type 0) (path id : List ℕ) (command : Command AnEdition) (old new : D) (fault : ProgramFault) (writer : StreamChange)
      → ChangeEnds k d fails path id command old new (Err fault) writer → Spoils fault writer
  change_spoils fails path id command old new fault writer (inl h) = inl h.4
  change_spoils fails path id command old new fault writer (inr (desk, left, closed, is, does, shut, (changed, spared))) = answer_spoils changed.answer fault writer changed.told

  installs_spoils : (fails : K → CommandRequest → K → Fault → Type 0) (files : List ℕ → Option (List ℕ)) (path name id index text : List ℕ) (old new : D) (fault : ProgramFault) (writer : StreamChange)
      → InstallsOn k d fails files path name id index text old new (Err fault) writer → Spoils fault writer
  installs_spoils fails files path name id index text old new fault writer (inl h) = inl h.4
  installs_spoils fails files path name id index text old new fault writer (inr (desk, left, closed, is, does, shut, (installed, spared))) =
      install_spoils k.shows k.leaves_one_of k.keeps_beside k.is_trusted k.is_closed k.gives_way fails files desk left name id index text fault writer installed

  pub task_spoils : (fails : K → CommandRequest → K → Fault → Type 0) (files : List ℕ → Option (List ℕ)) (old new : D) (path name id : List ℕ) (what : Asked) (fault : ProgramFault) (writer : StreamChange)
      → ChangeTaskEnds k d fails files old new path name id what (Err fault) writer → Spoils fault writer
  task_spoils fails files old new path name id (Install index text) fault writer h = installs_spoils fails files path name id index.now text.now old new fault writer h
  task_spoils fails files old new path name id Rollback fault writer h = change_spoils fails path id (rollback name) old new fault writer h
  task_spoils fails files old new path name id Retire fault writer h = change_spoils fails path id (retire name) old new fault writer h
  task_spoils fails files old new path name id (Virtual title members) fault writer h = change_spoils fails path id (put_virtual name title.now (words_shown members.items)) old new fault writer h
  task_spoils fails files old new path name id (Place at) fault writer h = change_spoils fails path id (place name at) old new fault writer h

  module _ {B L : Type 0} (n : network.Ghosts B L SystemSockets) (expects : K → Expected → K → Type 0) (prepares : K → Result Bool Fault → K → Type 0) (old new : D) where
    serves_spoils : (path dict http : List ℕ) (rounds : Option ℕ) (fault : ProgramFault) (writer : StreamChange) → ServesOn k d n expects prepares path dict http rounds old new (Err fault) writer
        → Spoils fault writer ⊎ IsServedUntil k d expects prepares path dict http rounds old new fault writer
    unfolding Rattle.app_commands.specs.Working.ServesOn
    serves_spoils path dict http rounds fault writer (kept, inl h) = inl (inl h.3)
    serves_spoils path dict http rounds fault writer (kept, inr (desk, opened, inl (other, is, inl h, does, shut, none))) = inl (inl h.3)
    serves_spoils path dict http rounds fault writer (kept, inr (desk, opened, inl (other, is, inr (driver, binds, inl (same, put)), does, shut, none))) =
        let e : fault ≡ CannotWrite = cc in inl (inr (e, put.failures))
    serves_spoils path dict http rounds fault writer (kept, inr (desk, opened, inl (other, is, inr (driver, binds, inr h), does, shut, none))) = inl (inl h.1)
    serves_spoils path dict http rounds fault writer (kept, inr (desk, opened, inr (served, done, same, bound))) = inr (desk, served, done)

    -- a server is never refused
    pub serves_refused : (path dict http : List ℕ) (rounds : Option ℕ) (fault : ProgramFault) (writer : StreamChange) → 1 ≡ status_of fault → ServesOn k d n expects prepares path dict http rounds old new (Err fault) writer
        → IsUntouched writer
    serves_refused path dict http rounds fault writer e h = elim (serves_spoils path dict http rounds fault writer h) [
      | inl spoils ↦ spoils_not_3 fault writer (λ f. omega (arith, e, f)) spoils
      | inr served ↦ absurd (ends_not_1 k.is_closed (WasShutBy k d new) (IsNotReopened k.leaves_one_of d.is_unreopened d.still_leaves d.still_keeps new path) served.1.stretches served.1.last fault served.1.ends e)
    ]

    -- memory ran out before anything was written, or in the server
    pub serves_memory : (path dict http : List ℕ) (rounds : Option ℕ) (fault : ProgramFault) (writer : StreamChange) → 4 ≡ status_of fault → ServesOn k d n expects prepares path dict http rounds old new (Err fault) writer
        → IsUntouched writer ⊎ IsServedUntil k d expects prepares path dict http rounds old new Memory writer
    serves_memory path dict http rounds fault writer e h = elim (serves_spoils path dict http rounds fault writer h) [
      | inl spoils ↦ inl (spoils_not_3 fault writer (λ f. omega (arith, e, f)) spoils)
      | inr served ↦ inr (subst (λ (f : ProgramFault). IsServedUntil k d expects prepares path dict http rounds old new f writer) (memory_by_status fault e) served)
    ]

module _ {K D : Type 0} (k : lookup.Ghosts K) (d : desks.Ghosts D K) (c : catalogues.Ghosts D K) where
  pub audit_spoils : (path : List ℕ) (old new : D) (fault : ProgramFault) (writer : StreamChange) → AuditEnds k d c path old new (Err fault) writer → Spoils fault writer
  audit_spoils path old new fault writer (inl h) = inl h.4
  audit_spoils path old new fault writer (inr (desk, left, closed, is, does, shut, (audited, read, stays, told, alone))) = sound_spoils audited closed fault writer told

  module _ (expects : K → Expected → K → Type 0) (prepares : K → Result Bool Fault → K → Type 0) (plain : PlainState) (old new : D) where
    pub spoiled_failed : (words : List (List ℕ)) (fault : ProgramFault) (reader writer : StreamChange) → IsUntouched reader → Spoils fault writer → IsFailed k d c expects prepares plain old new words reader writer
    spoiled_failed words fault reader writer r (inl h) = inl (r, h)
    spoiled_failed words fault reader writer r (inr h) = inr (inr (inl (r, h.1)))

    -- the server failed before it told its addresses, or afterwards
    pub serves_failed : {B L : Type 0} (n : network.Ghosts B L SystemSockets) (words : List (List ℕ)) (path dict http : List ℕ) (rounds : Option ℕ) (fault : ProgramFault) (reader writer : StreamChange) → IsUntouched reader → 3
        ≡ status_of fault
        → (IsServedUntil k d expects prepares path dict http rounds old new fault writer → IsCutOff k d c expects prepares old new words fault reader writer) → ServesOn k d n expects prepares path dict http rounds old new (Err fault) writer
        → IsFailed k d c expects prepares plain old new words reader writer
    serves_failed n words path dict http rounds fault reader writer r e cut h = elim (serves_spoils k d n expects prepares old new path dict http rounds fault writer h) [
      | inl spoils ↦ spoiled_failed words fault reader writer r spoils
      | inr served ↦ inr (inr (inr (fault, e, cut served)))
    ]
