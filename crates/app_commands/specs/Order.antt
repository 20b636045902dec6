-- In which order the faults of files are told.
use Rattle.std.specs.Prelude.{◌≡◌, ◌⊎◌, ℕ, List, [], ◌∷◌, None, Result, Err, ⊤}
use Rattle.app_words.specs.declared.task.ItemChange.{ItemChange as AskedChange}
use Rattle.app_words.specs.declared.task.ItemChange.TheVariants as changes
use Rattle.app_words.specs.declared.task.Task.{Task}
use Rattle.app_words.specs.declared.task.Task.TheVariants as tasks
use Rattle.app_words.specs.declared.fault.ProgramFault.{ProgramFault}
use Rattle.app_words.specs.Files.{IsInOrder}
use Rattle.app_words.specs.declared.files.ReadFault.{ReadFault}
use Rattle.net_serving.specs.Deeds.{Opens, Does}
use Rattle.net_serving.specs.declared.desks.DeskOpener as desks

-- By what was done to files before and after, and by which of them are read, and why others aren't.
module _ {K D : Type 0} (d : desks.Ghosts D K) (old new : D) (Reads : List ℕ → Type 0) (Refuses : List ℕ → ReadFault → Type 0) where
  -- there is no desk of the catalogue's file, for a reason that is given; or the index, the text and what they say are refused in this order
  abbrev pub InstallsInOrder : List ℕ → List ℕ → List ℕ → Result (Unit {0}) ProgramFault → Type 0
  InstallsInOrder file index text end =
      (Does (d.history old) (d.history new) (Opens file None ∷ []) × ((fault : ProgramFault) × (end ≡ Err fault) × d.is_unopened file old new fault)) ⊎ IsInOrder Reads Refuses index text end

  -- the same of a change: only an install reads files
  abbrev pub ChangesInOrder : List ℕ → AskedChange → Result (Unit {0}) ProgramFault → Type 0
  ChangesInOrder file (changes.Install index text) end = InstallsInOrder file index.now text.now end
  ChangesInOrder file changes.Rollback end = ⊤
  ChangesInOrder file changes.Retire end = ⊤
  ChangesInOrder file (changes.Virtual title members) end = ⊤
  ChangesInOrder file (changes.Place at) end = ⊤

  -- and of a task
  abbrev pub EndsInOrder : Task → Result (Unit {0}) ProgramFault → Type 0
  EndsInOrder (tasks.Plain name index text) end = IsInOrder Reads Refuses index.now text.now end
  EndsInOrder (tasks.Create file) end = ⊤
  EndsInOrder (tasks.List file) end = ⊤
  EndsInOrder (tasks.Audit file) end = ⊤
  EndsInOrder (tasks.Session file) end = ⊤
  EndsInOrder (tasks.Change file name id what) end = ChangesInOrder file.now what end
  EndsInOrder (tasks.Serve file dict http rounds) end = ⊤
