-- What each status tells of how the program ended.
use Rattle.std.proofs.Common.{◌≡◌, ℕ, ◌≤◌, List, Option, Ok, Err, refl, inl, inr, arith, subst}
use Rattle.dict_desk.specs.declared.fault.Fault.{Fault}
use Rattle.std.specs.Prelude.{◌⊎◌, Bool, Result}
use Rattle.dict_catalogue.specs.Steps.{CommandRequest}
use Rattle.dict_desk.specs.Plain.{PlainState}
use Rattle.dict_desk.specs.declared.lookup.Lookup as lookup
use Rattle.dict_desk.specs.Expected.{Expected}
use Rattle.net_driver.specs.declared.binding.Network as network
use Rattle.net_driver.specs.declared.sockets.SystemSockets.{SystemSockets}
use Rattle.dict_proto.specs.Streams.{StreamChange}
use Rattle.net_serving.specs.declared.desks.DeskOpener as desks
use Rattle.app_words.specs.declared.files.InputFiles as inputs
use Rattle.app_words.specs.Asked.{AskForTask}
use Rattle.dict_session.specs.Desks.{Stays as DeskStays}
use Rattle.app_words.specs.declared.task.ItemChange.{ItemChange as AskedChange}
use Rattle.app_words.specs.declared.task.ItemChange.TheVariants as changes
use Rattle.app_words.specs.declared.task.Task.{Task}
use Rattle.app_words.specs.declared.task.Task.TheVariants.{Plain, Create, List as Lists, Audit, Session as SpeaksOver, Change as Changes, Serve as Serves}
use Rattle.app_words.specs.Faults.{status_of}
use Rattle.app_words.specs.declared.fault.ProgramFault.{ProgramFault}
use Rattle.app_words.specs.declared.fault.ProgramFault.TheVariants.{Line, Edition, Refused, Store, CannotRead, SessionEnded, CannotWrite, CannotBind, CannotWait, Memory}
use Rattle.app_words.specs.Writing.{IsUntouched}
use Rattle.app_commands.specs.Catalogues.{IsSpared}
use Rattle.app_commands.specs.Working.{EndsOn, SessionEnds}
use Rattle.app_commands.proofs.ServingLemmas.{memory_by_status}
use Rattle.app_commands.proofs.WritingLemmas.{list_spoils, audit_spoils, task_spoils, serves_refused, serves_memory, serves_failed, spoils_not_3, spoiled_failed}
use Rattle.app_commands.specs.declared.catalogues.Catalogues as catalogues
use Rattle.app_commands.specs.Program.{ChangeTaskEnds, CommandEnds, IsCutOff, IsDone, IsExhausted, IsFailed, IsUnchanged, ShowsText, TaskEnds}

status_at_most_4 : (fault : ProgramFault) → status_of fault ≤ 4
status_at_most_4 (Line refusal line) = omega arith
status_at_most_4 (Edition refusal) = omega arith
status_at_most_4 (Refused refusal) = omega arith
status_at_most_4 (Store fault) = omega arith
status_at_most_4 (CannotRead path) = omega arith
status_at_most_4 SessionEnded = omega arith
status_at_most_4 CannotWrite = omega arith
status_at_most_4 (CannotBind address) = omega arith
status_at_most_4 CannotWait = omega arith
status_at_most_4 Memory = omega arith

-- no fault has status 0 or 2
never_0 : (fault : ProgramFault) → 0 ≡ status_of fault → ⊥
never_0 (Line refusal line) e = omega (arith, e)
never_0 (Edition refusal) e = omega (arith, e)
never_0 (Refused refusal) e = omega (arith, e)
never_0 (Store fault) e = omega (arith, e)
never_0 (CannotRead path) e = omega (arith, e)
never_0 SessionEnded e = omega (arith, e)
never_0 CannotWrite e = omega (arith, e)
never_0 (CannotBind address) e = omega (arith, e)
never_0 CannotWait e = omega (arith, e)
never_0 Memory e = omega (arith, e)

never_2 : (fault : ProgramFault) → 2 ≡ status_of fault → ⊥
never_2 (Line refusal line) e = omega (arith, e)
never_2 (Edition refusal) e = omega (arith, e)
never_2 (Refused refusal) e = omega (arith, e)
never_2 (Store fault) e = omega (arith, e)
never_2 (CannotRead path) e = omega (arith, e)
never_2 SessionEnded e = omega (arith, e)
never_2 CannotWrite e = omega (arith, e)
never_2 (CannotBind address) e = omega (arith, e)
never_2 CannotWait e = omega (arith, e)
never_2 Memory e = omega (arith, e)

-- no text that is shown is refused
never_refused : (fault : ProgramFault) (writer : StreamChange) → ShowsText (Err fault) writer → 1 ≡ status_of fault → ⊥
never_refused (Line refusal line) writer h e = h
never_refused (Edition refusal) writer h e = h
never_refused (Refused refusal) writer h e = h
never_refused (Store fault) writer h e = h
never_refused (CannotRead path) writer h e = h
never_refused SessionEnded writer h e = h
never_refused CannotWrite writer h e = omega (arith, e)
never_refused (CannotBind address) writer h e = h
never_refused CannotWait writer h e = h
never_refused Memory writer h e = omega (arith, e)

-- memory ran out before a text was shown
shown_memory : (fault : ProgramFault) (reader writer : StreamChange) → IsUntouched reader → ShowsText (Err fault) writer → 4 ≡ status_of fault → IsUntouched reader × IsUntouched writer
shown_memory (Line refusal line) reader writer r h e = absurd h
shown_memory (Edition refusal) reader writer r h e = absurd h
shown_memory (Refused refusal) reader writer r h e = absurd h
shown_memory (Store fault) reader writer r h e = absurd h
shown_memory (CannotRead path) reader writer r h e = absurd h
shown_memory SessionEnded reader writer r h e = absurd h
shown_memory CannotWrite reader writer r h e = absurd (omega (arith, e))
shown_memory (CannotBind address) reader writer r h e = absurd h
shown_memory CannotWait reader writer r h e = absurd h
shown_memory Memory reader writer r h e = (r, h)

-- a session over a file that didn't end by its reader, its writer or its desk touched nothing
spared_other : (fault : ProgramFault) (reader writer : StreamChange) → IsSpared (Err fault) reader writer → (3 ≡ status_of fault → ⊥) → IsUntouched reader × IsUntouched writer
spared_other (Line refusal line) reader writer h other = h
spared_other (Edition refusal) reader writer h other = h
spared_other (Refused refusal) reader writer h other = h
spared_other (Store fault) reader writer h other = h
spared_other (CannotRead path) reader writer h other = h
spared_other SessionEnded reader writer h other = absurd (other refl)
spared_other CannotWrite reader writer h other = h
spared_other (CannotBind address) reader writer h other = h
spared_other CannotWait reader writer h other = h
spared_other Memory reader writer h other = h

module _ {K D B L : Type 0} (k : lookup.Ghosts K) (d : desks.Ghosts D K) (c : catalogues.Ghosts D K) (n : network.Ghosts B L SystemSockets)
    (fails : K → CommandRequest → K → Fault → Type 0) (expects : K → Expected → K → Type 0) (prepares : K → Result Bool Fault → K → Type 0) (plain : PlainState) (old new : D) where
  -- a status is at most 4
  pub statuses : {I : Type 0} (i : inputs.Ghosts I) (files : I) (words : List (List ℕ)) (status : ℕ) (reader writer faults : StreamChange)
      → CommandEnds k d c n i fails expects prepares files plain old new words status reader writer faults → status ≤ 4
  statuses i files words status reader writer faults (inl (Ok end, h, closes)) = omega (arith, closes.0)
  statuses i files words status reader writer faults (inl (Err fault, h, closes)) = omega (arith, closes.0, status_at_most_4 fault)
  statuses i files words status reader writer faults (inr (h, same)) = omega (arith, h.0)

  -- with 0 it was done
  pub done : {I : Type 0} (i : inputs.Ghosts I) (files : I) (words : List (List ℕ)) (reader writer faults : StreamChange)
      → CommandEnds k d c n i fails expects prepares files plain old new words 0 reader writer faults → IsDone k d c n fails expects prepares (i.octets files) plain old new words reader writer × IsUntouched faults
  done i files words reader writer faults (inl (Ok end, inl (task, asks, ends, order), closes)) = (inl (task, asks, ends), closes.1)
  done i files words reader writer faults (inl (Ok end, inr (inl (asks, r, (text, put)), same), closes)) = (inr (asks, r, (text, put), same), closes.1)
  done i files words reader writer faults (inl (Ok end, inr (inr memory, same), closes)) = cc
  done i files words reader writer faults (inl (Err fault, h, closes)) = absurd (never_0 fault closes.0)
  done i files words reader writer faults (inr (h, same)) = absurd (omega (arith, h.0))

  -- a refused task touches nothing
  task_refused : (files : List ℕ → Option (List ℕ)) (task : Task) (fault : ProgramFault) (reader writer : StreamChange)
      → TaskEnds k d c n fails expects prepares files plain old new task (Err fault) reader writer → 1 ≡ status_of fault → IsUntouched reader × IsUntouched writer
  unfolding Rattle.app_commands.specs.Plain.FilesEnd
  task_refused files (Plain name index text) (Line refusal line) reader writer (inl h, same) e = (h.4.1, h.4.2)
  task_refused files (Plain name index text) (Line refusal line) reader writer (inr h, same) e = (h.1, h.2)
  task_refused files (Plain name index text) (Edition refusal) reader writer (inl h, same) e = (h.4.1, h.4.2)
  task_refused files (Plain name index text) (Edition refusal) reader writer (inr h, same) e = (h.1, h.2)
  task_refused files (Plain name index text) (Refused refusal) reader writer (inl h, same) e = (h.4.3, h.4.4)
  task_refused files (Plain name index text) (Refused refusal) reader writer (inr h, same) e = (h.1, h.2)
  task_refused files (Plain name index text) (Store fault) reader writer h e = absurd (omega (arith, e))
  task_refused files (Plain name index text) (CannotRead path) reader writer h e = absurd (omega (arith, e))
  task_refused files (Plain name index text) SessionEnded reader writer h e = absurd (omega (arith, e))
  task_refused files (Plain name index text) CannotWrite reader writer h e = absurd (omega (arith, e))
  task_refused files (Plain name index text) (CannotBind address) reader writer h e = absurd (omega (arith, e))
  task_refused files (Plain name index text) CannotWait reader writer h e = absurd (omega (arith, e))
  task_refused files (Plain name index text) Memory reader writer h e = absurd (omega (arith, e))
  task_refused files (Create file) fault reader writer h e = (h.1, h.2)
  task_refused files (Lists file) fault reader writer h e = (h.1, spoils_not_3 fault writer (λ f. omega (arith, e, f)) (list_spoils k d file.now old new fault writer h.0))
  task_refused files (Audit file) fault reader writer h e = (h.1, spoils_not_3 fault writer (λ f. omega (arith, e, f)) (audit_spoils k d c file.now old new fault writer h.0))
  task_refused files (Changes file name id what) fault reader writer h e = (h.1, spoils_not_3 fault writer (λ f. omega (arith, e, f)) (task_spoils k d fails files old new file.now name.now id.now what fault writer h.0))
  task_refused files (Serves file dict http rounds) fault reader writer h e = (h.1, serves_refused k d n expects prepares old new file.now dict.now http.now rounds fault writer e h.0)
  task_refused files (SpeaksOver file) fault reader writer h e = spared_other fault reader writer h.1 (λ f. omega (arith, e, f))

  -- with 1 or 2 nothing was touched
  pub refused : {I : Type 0} (i : inputs.Ghosts I) (files : I) (words : List (List ℕ)) (reader writer faults : StreamChange)
      → CommandEnds k d c n i fails expects prepares files plain old new words 1 reader writer faults → IsUntouched reader × IsUntouched writer
  refused i files words reader writer faults (inl (Ok end, h, closes)) = absurd (omega (arith, closes.0))
  refused i files words reader writer faults (inl (Err fault, inl (task, asks, ends, order), closes)) = task_refused (i.octets files) task fault reader writer ends closes.0
  refused i files words reader writer faults (inl (Err fault, inr (inl shown, same), closes)) = absurd (never_refused fault writer shown.2 closes.0)
  refused i files words reader writer faults (inl (Err fault, inr (inr memory, same), closes)) = (memory.1, memory.2)
  refused i files words reader writer faults (inr (h, same)) = (h.2, h.3)

  pub misread : {I : Type 0} (i : inputs.Ghosts I) (files : I) (words : List (List ℕ)) (reader writer faults : StreamChange)
      → CommandEnds k d c n i fails expects prepares files plain old new words 2 reader writer faults → IsUntouched reader × IsUntouched writer
  misread i files words reader writer faults (inl (Ok end, h, closes)) = absurd (omega (arith, closes.0))
  misread i files words reader writer faults (inl (Err fault, h, closes)) = absurd (never_2 fault closes.0)
  misread i files words reader writer faults (inr (h, same)) = (h.2, h.3)

  -- a session over a file that was told as broken
  spoken_failed : (words : List (List ℕ)) (file : _) (fault : ProgramFault) (reader writer : StreamChange) → AskForTask words (SpeaksOver file) → SessionEnds k d c file.now old new (Err fault) reader writer
      → IsFailed k d c expects prepares plain old new words reader writer
  spoken_failed words file (Line refusal line) reader writer asks h = inl h.1
  spoken_failed words file (Edition refusal) reader writer asks h = inl h.1
  spoken_failed words file (Refused refusal) reader writer asks h = inl h.1
  spoken_failed words file (Store fault) reader writer asks h = inl h.1
  spoken_failed words file (CannotRead path) reader writer asks h = inl h.1
  spoken_failed words file SessionEnded reader writer asks h = inr (inl (inr (file, asks, h)))
  spoken_failed words file CannotWrite reader writer asks h = inl h.1
  spoken_failed words file (CannotBind address) reader writer asks h = inl h.1
  spoken_failed words file CannotWait reader writer asks h = inl h.1
  spoken_failed words file Memory reader writer asks h = inl h.1

  -- a task that failed
  task_failed : (files : List ℕ → Option (List ℕ)) (words : List (List ℕ)) (task : Task) (fault : ProgramFault) (reader writer : StreamChange)
      → AskForTask words task → TaskEnds k d c n fails expects prepares files plain old new task (Err fault) reader writer → 3 ≡ status_of fault → IsFailed k d c expects prepares plain old new words reader writer
  unfolding Rattle.app_commands.specs.Plain.FilesEnd
  task_failed files words (Plain name index text) (Line refusal line) reader writer asks h e = absurd (omega (arith, e))
  task_failed files words (Plain name index text) (Edition refusal) reader writer asks h e = absurd (omega (arith, e))
  task_failed files words (Plain name index text) (Refused refusal) reader writer asks h e = absurd (omega (arith, e))
  task_failed files words (Plain name index text) (Store fault) reader writer asks (inl h, same) e = absurd h.4
  task_failed files words (Plain name index text) (Store fault) reader writer asks (inr h, same) e = inl (h.1, h.2)
  task_failed files words (Plain name index text) (CannotRead path) reader writer asks (inl h, same) e = absurd h.4
  task_failed files words (Plain name index text) (CannotRead path) reader writer asks (inr h, same) e = inl (h.1, h.2)
  task_failed files words (Plain name index text) SessionEnded reader writer asks (inl h, same) e = inr (inl (inl (name.now, h.0, h.1, h.4.0, h.4.1, h.4.2)))
  task_failed files words (Plain name index text) SessionEnded reader writer asks (inr h, same) e = inl (h.1, h.2)
  task_failed files words (Plain name index text) CannotWrite reader writer asks (inl h, same) e = absurd h.4
  task_failed files words (Plain name index text) CannotWrite reader writer asks (inr h, same) e = inl (h.1, h.2)
  task_failed files words (Plain name index text) (CannotBind address) reader writer asks (inl h, same) e = absurd h.4
  task_failed files words (Plain name index text) (CannotBind address) reader writer asks (inr h, same) e = inl (h.1, h.2)
  task_failed files words (Plain name index text) CannotWait reader writer asks (inl h, same) e = absurd h.4
  task_failed files words (Plain name index text) CannotWait reader writer asks (inr h, same) e = inl (h.1, h.2)
  task_failed files words (Plain name index text) Memory reader writer asks h e = absurd (omega (arith, e))
  task_failed files words (Create file) fault reader writer asks h e = inl (h.1, h.2)
  task_failed files words (Lists file) fault reader writer asks h e = spoiled_failed k d c expects prepares plain old new words fault reader writer h.1 (list_spoils k d file.now old new fault writer h.0)
  task_failed files words (Audit file) fault reader writer asks h e = spoiled_failed k d c expects prepares plain old new words fault reader writer h.1 (audit_spoils k d c file.now old new fault writer h.0)
  task_failed files words (Changes file name id what) fault reader writer asks h e =
      spoiled_failed k d c expects prepares plain old new words fault reader writer h.1 (task_spoils k d fails files old new file.now name.now id.now what fault writer h.0)
  task_failed files words (Serves file dict http rounds) fault reader writer asks h e =
      serves_failed k d c expects prepares plain old new n words file.now dict.now http.now rounds fault reader writer h.1 e (λ served. (Serves file dict http rounds, asks, served, h.1)) h.0
  task_failed files words (SpeaksOver file) fault reader writer asks h e = spoken_failed words file fault reader writer asks h

  -- a text that was not shown
  shown_failed : (words : List (List ℕ)) (fault : ProgramFault) (reader writer : StreamChange) → IsUntouched reader → ShowsText (Err fault) writer → 3 ≡ status_of fault
      → IsFailed k d c expects prepares plain old new words reader writer
  shown_failed words (Line refusal line) reader writer r h e = absurd h
  shown_failed words (Edition refusal) reader writer r h e = absurd h
  shown_failed words (Refused refusal) reader writer r h e = absurd h
  shown_failed words (Store fault) reader writer r h e = absurd h
  shown_failed words (CannotRead path) reader writer r h e = absurd h
  shown_failed words SessionEnded reader writer r h e = absurd h
  shown_failed words CannotWrite reader writer r (text, put) e = inr (inr (inl (r, put.failures)))
  shown_failed words (CannotBind address) reader writer r h e = absurd h
  shown_failed words CannotWait reader writer r h e = absurd h
  shown_failed words Memory reader writer r h e = absurd (omega (arith, e))

  -- with 3 a file, an output or a session failed
  pub failed : {I : Type 0} (i : inputs.Ghosts I) (files : I) (words : List (List ℕ)) (reader writer faults : StreamChange)
      → CommandEnds k d c n i fails expects prepares files plain old new words 3 reader writer faults → IsFailed k d c expects prepares plain old new words reader writer
  failed i files words reader writer faults (inl (Ok end, h, closes)) = absurd (omega (arith, closes.0))
  failed i files words reader writer faults (inl (Err fault, inl (task, asks, ends, order), closes)) =
      task_failed (i.octets files) words task fault reader writer asks ends closes.0
  failed i files words reader writer faults (inl (Err fault, inr (inl shown, same), closes)) = shown_failed words fault reader writer shown.1 shown.2 closes.0
  failed i files words reader writer faults (inl (Err fault, inr (inr memory, same), closes)) = inl ((memory.1, memory.2))
  failed i files words reader writer faults (inr (h, same)) = absurd (omega (arith, h.0))

  -- memory ran out in a task
  task_memory : (files : List ℕ → Option (List ℕ)) (words : List (List ℕ)) (task : Task) (fault : ProgramFault) (reader writer : StreamChange)
      → AskForTask words task → TaskEnds k d c n fails expects prepares files plain old new task (Err fault) reader writer → 4 ≡ status_of fault
      → (IsUntouched reader × IsUntouched writer) ⊎ IsCutOff k d c expects prepares old new words Memory reader writer
  unfolding Rattle.app_commands.specs.Plain.FilesEnd
  task_memory files words (Plain name index text) (Line refusal line) reader writer asks h e = absurd (omega (arith, e))
  task_memory files words (Plain name index text) (Edition refusal) reader writer asks h e = absurd (omega (arith, e))
  task_memory files words (Plain name index text) (Refused refusal) reader writer asks h e = absurd (omega (arith, e))
  task_memory files words (Plain name index text) (Store fault) reader writer asks h e = absurd (omega (arith, e))
  task_memory files words (Plain name index text) (CannotRead path) reader writer asks h e = absurd (omega (arith, e))
  task_memory files words (Plain name index text) SessionEnded reader writer asks h e = absurd (omega (arith, e))
  task_memory files words (Plain name index text) CannotWrite reader writer asks h e = absurd (omega (arith, e))
  task_memory files words (Plain name index text) (CannotBind address) reader writer asks h e = absurd (omega (arith, e))
  task_memory files words (Plain name index text) CannotWait reader writer asks h e = absurd (omega (arith, e))
  task_memory files words (Plain name index text) Memory reader writer asks (inl h, same) e = inl h.4
  task_memory files words (Plain name index text) Memory reader writer asks (inr h, same) e = inl (h.1, h.2)
  task_memory files words (Create file) fault reader writer asks h e = inl (h.1, h.2)
  task_memory files words (Lists file) fault reader writer asks h e = inl (h.1, spoils_not_3 fault writer (λ f. omega (arith, e, f)) (list_spoils k d file.now old new fault writer h.0))
  task_memory files words (Audit file) fault reader writer asks h e = inl (h.1, spoils_not_3 fault writer (λ f. omega (arith, e, f)) (audit_spoils k d c file.now old new fault writer h.0))
  task_memory files words (Changes file name id what) fault reader writer asks h e = inl (h.1, spoils_not_3 fault writer (λ f. omega (arith, e, f)) (task_spoils k d fails files old new file.now name.now id.now what fault writer h.0))
  task_memory files words (Serves file dict http rounds) fault reader writer asks h e = elim (serves_memory k d n expects prepares old new file.now dict.now http.now rounds fault writer e h.0) [
    | inl untouched ↦ inl (h.1, untouched)
    | inr served ↦ inr (Serves file dict http rounds, asks, served, h.1)
  ]
  task_memory files words (SpeaksOver file) fault reader writer asks h e = inl (spared_other fault reader writer h.1 (λ f. omega (arith, e, f)))

  -- a change for which memory ran out was not made
  change_unchanged : (files : List ℕ → Option (List ℕ)) (path name id : List ℕ) (what : AskedChange) (writer : StreamChange) → ChangeTaskEnds k d fails files old new path name id what (Err Memory) writer
      → EndsOn k d path (λ desk left closed. DeskStays k.shows k.leaves_one_of k.keeps_beside k.is_trusted k.is_closed desk left) old new (Err Memory) writer
  change_unchanged files path name id (changes.Install index text) writer (inl h) = inl h
  change_unchanged files path name id (changes.Install index text) writer (inr (desk, left, closed, is, does, shut, (made, spared))) = inr (desk, left, closed, is, does, shut, spared refl)
  change_unchanged files path name id changes.Rollback writer (inl h) = inl h
  change_unchanged files path name id changes.Rollback writer (inr (desk, left, closed, is, does, shut, (made, spared))) = inr (desk, left, closed, is, does, shut, spared refl)
  change_unchanged files path name id changes.Retire writer (inl h) = inl h
  change_unchanged files path name id changes.Retire writer (inr (desk, left, closed, is, does, shut, (made, spared))) = inr (desk, left, closed, is, does, shut, spared refl)
  change_unchanged files path name id (changes.Virtual title members) writer (inl h) = inl h
  change_unchanged files path name id (changes.Virtual title members) writer (inr (desk, left, closed, is, does, shut, (made, spared))) = inr (desk, left, closed, is, does, shut, spared refl)
  change_unchanged files path name id (changes.Place at) writer (inl h) = inl h
  change_unchanged files path name id (changes.Place at) writer (inr (desk, left, closed, is, does, shut, (made, spared))) = inr (desk, left, closed, is, does, shut, spared refl)

  task_unchanged : (files : List ℕ → Option (List ℕ)) (task : Task) (reader writer : StreamChange) → TaskEnds k d c n fails expects prepares files plain old new task (Err Memory) reader writer
      → IsUnchanged k d c expects prepares old new task writer
  task_unchanged files (Plain name index text) reader writer h = tt
  task_unchanged files (Create file) reader writer h = tt
  task_unchanged files (Lists file) reader writer h = tt
  task_unchanged files (Audit file) reader writer h = tt
  task_unchanged files (Changes file name id what) reader writer h = change_unchanged files file.now name.now id.now what writer h.0
  task_unchanged files (Serves file dict http rounds) reader writer h = tt
  task_unchanged files (SpeaksOver file) reader writer h = tt

  task_exhausted : (files : List ℕ → Option (List ℕ)) (words : List (List ℕ)) (task : Task) (fault : ProgramFault) (reader writer : StreamChange)
      → AskForTask words task → TaskEnds k d c n fails expects prepares files plain old new task (Err fault) reader writer → 4 ≡ status_of fault → IsExhausted k d c expects prepares old new words reader writer
  task_exhausted files words task fault reader writer asks ends e = elim (task_memory files words task fault reader writer asks ends e) [
    | inl untouched ↦ inl (
      untouched.0,
      untouched.1,
      inr (
        task,
        asks,
        task_unchanged files task reader writer
            (subst (λ (f : ProgramFault). TaskEnds k d c n fails expects prepares files plain old new task (Err f) reader writer) (memory_by_status fault e) ends),
      ),
    )
    | inr cut ↦ inr cut
  ]

  -- with 4 nothing was touched and no change made, or memory ran out in a server
  pub memory : {I : Type 0} (i : inputs.Ghosts I) (files : I) (words : List (List ℕ)) (reader writer faults : StreamChange)
      → CommandEnds k d c n i fails expects prepares files plain old new words 4 reader writer faults → IsExhausted k d c expects prepares old new words reader writer
  memory i files words reader writer faults (inl (Ok end, h, closes)) = absurd (omega (arith, closes.0))
  memory i files words reader writer faults (inl (Err fault, inl (task, asks, ends, order), closes)) =
      task_exhausted (i.octets files) words task fault reader writer asks ends closes.0
  memory i files words reader writer faults (inl (Err fault, inr (inl shown, same), closes)) =
      let untouched = shown_memory fault reader writer shown.1 shown.2 closes.0 in inl (untouched.0, untouched.1, inl same)
  memory i files words reader writer faults (inl (Err fault, inr (inr early, same), closes)) = inl (early.1, early.2, inl same)
  memory i files words reader writer faults (inr (h, same)) = absurd (omega (arith, h.0))
