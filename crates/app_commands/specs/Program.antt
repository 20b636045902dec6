-- How the program ends.
use Rattle.std.specs.Prelude.{◌≡◌, ◌≢◌, ℕ, ◌⊎◌, List, ◌++◌, Option, Result, Ok, Err, codes, ⊤, Bool}
use Rattle.dict_desk.specs.declared.fault.Fault.{Fault}
use Rattle.clap.specs.Kinds.{IsAmong}
use Rattle.clap.specs.declared.error.kind.ErrorKind.{ErrorKind}
use Rattle.clap.specs.declared.error.kind.ErrorKind.TheVariants as kinds
use Rattle.dict_catalogue.specs.Commands.{rollback, retire, put_virtual, place}
use Rattle.dict_catalogue.specs.Steps.{CommandRequest}
use Rattle.dict_desk.specs.Plain.{PlainState}
use Rattle.dict_desk.specs.declared.lookup.Lookup as lookup
use Rattle.dict_desk.specs.Expected.{Expected}
use Rattle.net_driver.specs.declared.binding.Network as network
use Rattle.net_driver.specs.declared.sockets.SystemSockets.{SystemSockets}
use Rattle.dict_proto.specs.Streams.{StreamChange, HasFailed, Puts, PutsAll, PutsFront}
use Rattle.dict_proto.specs.declared.sink.SinkFault.{SinkFault}
use Rattle.dict_session.specs.Desks.{Stays as DeskStays}
use Rattle.dict_session.specs.declared.session.run.SessionFault.{SessionFault}
use Rattle.dict_session.specs.declared.session.run.SessionFault.TheVariants as session_faults
use Rattle.net_serving.specs.declared.desks.DeskOpener as desks
use Rattle.app_words.specs.declared.files.InputFiles as inputs
use Rattle.app_words.specs.Asked.{AskForTask, Fails, mistakes_in, words_shown}
use Rattle.app_words.specs.declared.task.ItemChange.{ItemChange as AskedChange}
use Rattle.app_words.specs.declared.task.ItemChange.TheVariants as changes
use Rattle.app_words.specs.declared.task.Task.{Task}
use Rattle.app_words.specs.declared.task.Task.TheVariants as tasks
use Rattle.app_words.specs.Faults.{fault_line, status_of}
use Rattle.app_words.specs.declared.fault.ProgramFault.{ProgramFault}
use Rattle.app_words.specs.declared.fault.ProgramFault.TheVariants as faults
use Rattle.app_words.specs.Writing.{IsUntouched}
use Rattle.app_commands.specs.Order.{EndsInOrder}
use Rattle.app_commands.specs.Plain.{EndsOverEdition, FilesEnd, standing}
use Rattle.app_commands.specs.Serving.{IsServedUntil}
use Rattle.app_commands.specs.Working.{AuditEnds, ChangeEnds, CreateEnds, EndsOn, InstallsOn, ListEnds, ServesOn, SessionEnds}
use Rattle.app_commands.specs.declared.catalogues.Catalogues as catalogues

-- a text was put, or a front of it where the sink failed
abbrev pub PutsTextOrFront : List ℕ → StreamChange → Type 0
PutsTextOrFront text faults = (put : Result (Unit {0}) SinkFault) × Puts put faults.old faults.new text

-- a line tells the fault, which has the status
abbrev pub TellsFault : ProgramFault → ℕ → StreamChange → Type 0
TellsFault fault status faults = (status ≡ status_of fault) × PutsTextOrFront (fault_line fault ++ codes "\n") faults

-- what is done has status 0, and nothing is told; else the fault is
abbrev pub Closes : Result (Unit {0}) ProgramFault → ℕ → StreamChange → Type 0
Closes (Ok _) status faults = (status ≡ 0) × IsUntouched faults
Closes (Err fault) status faults = TellsFault fault status faults

-- a text for people was written, or memory for it ran out
abbrev pub ShowsText : Result (Unit {0}) ProgramFault → StreamChange → Type 0
ShowsText (Ok end) writer = (text : List ℕ) × PutsAll writer.old writer.new text
ShowsText (Err faults.CannotWrite) writer = (text : List ℕ) × PutsFront writer.old writer.new text
ShowsText (Err faults.Memory) writer = IsUntouched writer
ShowsText (Err fault) writer = ⊥

-- help or the version was asked for
abbrev pub AsksForText : List (List ℕ) → Type 0
AsksForText words = IsAmong kinds.DisplayHelp (mistakes_in words) ⊎ IsAmong kinds.DisplayVersion (mistakes_in words)

-- it is a mistake, and neither memory nor help nor the version
abbrev pub IsMistake : ErrorKind → Type 0
IsMistake kind = (kind ≢ kinds.OutOfMemory) × (kind ≢ kinds.DisplayHelp) × (kind ≢ kinds.DisplayVersion)

-- the words have a mistake, or ask for nothing
abbrev pub IsMisread : List (List ℕ) → Type 0
IsMisread words = (kind : ErrorKind) × IsMistake kind × Fails words kind

-- what is told of words that are no texts
abbrev pub not_text : List ℕ
not_text = codes "error: invalid UTF-8 was detected in one or more arguments\n\nUsage: dictcat <COMMAND>\n\nFor more information, try '--help'.\n"

-- a mistake in the words is told in a text, with status 2, or memory for it ran out
abbrev pub TellsMistake : ℕ → StreamChange → Type 0
TellsMistake status told = ((status ≡ 2) × ((text : List ℕ) × PutsTextOrFront text told)) ⊎ TellsFault faults.Memory status told

-- the words have a mistake or ask for nothing, and that is told
abbrev pub Misreads : List (List ℕ) → ℕ → StreamChange → StreamChange → StreamChange → Type 0
Misreads words status reader writer faults =
    (status ≡ 2) × IsMisread words × IsUntouched reader × IsUntouched writer × ((text : List ℕ) × PutsTextOrFront text faults)

-- help or the version was asked for, and shown or not; or memory ran out before
abbrev pub IsHelpShown : List (List ℕ) → Result (Unit {0}) ProgramFault → StreamChange → StreamChange → Type 0
IsHelpShown words end reader writer =
    (AsksForText words × IsUntouched reader × ShowsText end writer)
    ⊎ ((end ≡ Err faults.Memory) × IsUntouched reader × IsUntouched writer)

-- how the program ends on words that ask for no task
abbrev pub AnswerEnds : List (List ℕ) → ℕ → StreamChange → StreamChange → StreamChange → Type 0
AnswerEnds words status reader writer faults =
    ((end : Result (Unit {0}) ProgramFault) × IsHelpShown words end reader writer × Closes end status faults)
    ⊎ Misreads words status reader writer faults

-- By what is known of desks, and of what makes, opens and closes them, and what desks were told of and prepared; of the catalogue in memory as
-- it was left, and of these before and after.
module _ {K D : Type 0} (k : lookup.Ghosts K) (d : desks.Ghosts D K) (c : catalogues.Ghosts D K) (expects : K → Expected → K → Type 0) (prepares : K → Result Bool Fault → K → Type 0) where
  -- a session over a lawful database, or over the catalogue of the file that was asked for, was ended by a fault of its reader, its
  -- writer or its desk
  abbrev pub IsBroken : PlainState → D → D → List (List ℕ) → StreamChange → StreamChange → Type 0
  IsBroken plain old new words reader writer =
      ((name : List ℕ) × (index : List ℕ) × (text : List ℕ) × (fault : SessionFault) × (fault ≢ session_faults.Memory) × EndsOverEdition (standing plain) name index text (Err fault) reader writer)
      ⊎ ((file : _) × AskForTask words (tasks.Session file) × SessionEnds k d c file.now old new (Err faults.SessionEnded) reader writer)

  -- the task is to serve, and its catalogue was served until this fault ended it
  abbrev pub WasServed : D → D → Task → ProgramFault → StreamChange → Type 0
  WasServed old new (tasks.Serve file dict http rounds) fault writer = IsServedUntil k d expects prepares file.now dict.now http.now rounds old new fault writer
  WasServed old new _ fault writer = ⊥

  -- the words ask for a server, which read nothing, listened at its two addresses, told them, and served until this fault ended it
  abbrev pub IsCutOff : D → D → List (List ℕ) → ProgramFault → StreamChange → StreamChange → Type 0
  IsCutOff old new words fault reader writer = (task : Task) × AskForTask words task × WasServed old new task fault writer × IsUntouched reader

  -- nothing was read or written, or a session was broken, or the writer failed where nothing was read, or a server was cut off by such a fault
  abbrev pub IsFailed : PlainState → D → D → List (List ℕ) → StreamChange → StreamChange → Type 0
  IsFailed plain old new words reader writer = (IsUntouched reader × IsUntouched writer)
      ⊎ (IsBroken plain old new words reader writer
      ⊎ ((IsUntouched reader × HasFailed writer.old.failures writer.new.failures)
      ⊎ ((fault : ProgramFault) × (3 ≡ status_of fault) × IsCutOff old new words fault reader writer)))

  -- a change that was asked for was not made: there is no desk of the file, or what one showed it showed then, and a stop leaves nothing
  -- that it couldn't leave before
  abbrev pub IsUnchanged : D → D → Task → StreamChange → Type 0
  IsUnchanged old new (tasks.Change file name id what) writer =
      EndsOn k d file.now (λ desk left closed. DeskStays k.shows k.leaves_one_of k.keeps_beside k.is_trusted k.is_closed desk left) old new (Err faults.Memory) writer
  IsUnchanged old new _ writer = ⊤

  -- nothing was read or written, and no change was made; or memory ran out in a server
  abbrev pub IsExhausted : D → D → List (List ℕ) → StreamChange → StreamChange → Type 0
  IsExhausted old new words reader writer =
      (IsUntouched reader × IsUntouched writer × ((new ≡ old) ⊎ ((task : Task) × AskForTask words task × IsUnchanged old new task writer)))
      ⊎ IsCutOff old new words faults.Memory reader writer

-- By why the desk's commands fail, and over files of these octets, by their paths.
module _ {K D : Type 0} (k : lookup.Ghosts K) (d : desks.Ghosts D K) (fails : K → CommandRequest → K → Fault → Type 0) (files : List ℕ → Option (List ℕ)) where
  -- a change of a file's catalogue ends so
  abbrev pub ChangeTaskEnds : D → D → List ℕ → List ℕ → List ℕ → AskedChange → Result (Unit {0}) ProgramFault → StreamChange → Type 0
  ChangeTaskEnds old new file name id (changes.Install index text) end writer = InstallsOn k d fails files file name id index.now text.now old new end writer
  ChangeTaskEnds old new file name id changes.Rollback end writer = ChangeEnds k d fails file id (rollback name) old new end writer
  ChangeTaskEnds old new file name id changes.Retire end writer = ChangeEnds k d fails file id (retire name) old new end writer
  ChangeTaskEnds old new file name id (changes.Virtual title members) end writer = ChangeEnds k d fails file id (put_virtual name title.now (words_shown members.items)) old new end writer
  ChangeTaskEnds old new file name id (changes.Place at) end writer = ChangeEnds k d fails file id (place name at) old new end writer

module _ {K D B L : Type 0} (k : lookup.Ghosts K) (d : desks.Ghosts D K) (c : catalogues.Ghosts D K) (n : network.Ghosts B L SystemSockets)
    (fails : K → CommandRequest → K → Fault → Type 0) (expects : K → Expected → K → Type 0) (prepares : K → Result Bool Fault → K → Type 0) (files : List ℕ → Option (List ℕ)) (plain : PlainState) (old new : D) where
  -- a task ends so
  abbrev pub TaskEnds : Task → Result (Unit {0}) ProgramFault → StreamChange → StreamChange → Type 0
  TaskEnds (tasks.Plain name index text) end reader writer = FilesEnd (standing plain) files name.now index.now text.now end reader writer × (new ≡ old)
  TaskEnds (tasks.Create file) end reader writer = CreateEnds k d c file.now old new end × IsUntouched reader × IsUntouched writer
  TaskEnds (tasks.List file) end reader writer = ListEnds k d file.now old new end writer × IsUntouched reader
  TaskEnds (tasks.Audit file) end reader writer = AuditEnds k d c file.now old new end writer × IsUntouched reader
  TaskEnds (tasks.Session file) end reader writer = SessionEnds k d c file.now old new end reader writer
  TaskEnds (tasks.Change file name id what) end reader writer = ChangeTaskEnds k d fails files old new file.now name.now id.now what end writer × IsUntouched reader
  TaskEnds (tasks.Serve file dict http rounds) end reader writer = ServesOn k d n expects prepares file.now dict.now http.now rounds old new end writer × IsUntouched reader

  -- a task was done, or help or the version was shown
  abbrev pub IsDone : List (List ℕ) → StreamChange → StreamChange → Type 0
  IsDone words reader writer = ((task : Task) × AskForTask words task × TaskEnds task (Ok tt) reader writer)
      ⊎ (AsksForText words × IsUntouched reader × ((text : List ℕ) × PutsAll writer.old writer.new text) × (new ≡ old))

-- By what is known of the files that are read, too.
module _ {K D B L I : Type 0} (k : lookup.Ghosts K) (d : desks.Ghosts D K) (c : catalogues.Ghosts D K) (n : network.Ghosts B L SystemSockets) (i : inputs.Ghosts I)
    (fails : K → CommandRequest → K → Fault → Type 0) (expects : K → Expected → K → Type 0) (prepares : K → Result Bool Fault → K → Type 0) (files : I) (plain : PlainState) (old new : D) where
  -- what was asked for was done or not: a task, which ended so, and by the first fault of its files; or help or the version, for which no
  -- file was opened; or memory ran out before
  abbrev pub Attempts : List (List ℕ) → Result (Unit {0}) ProgramFault → StreamChange → StreamChange → Type 0
  Attempts words end reader writer =
      ((task : Task) × AskForTask words task × TaskEnds k d c n fails expects prepares (i.octets files) plain old new task end reader writer × EndsInOrder d old new (i.reads files) (i.refuses files) task end)
      ⊎ (IsHelpShown words end reader writer × (new ≡ old))

  -- how the program ends on words, of which the first is its own name
  abbrev pub CommandEnds : List (List ℕ) → ℕ → StreamChange → StreamChange → StreamChange → Type 0
  CommandEnds words status reader writer faults =
      ((end : Result (Unit {0}) ProgramFault) × Attempts words end reader writer × Closes end status faults)
      ⊎ (Misreads words status reader writer faults × (new ≡ old))
