-- How a session over one database in lists ends.
use Rattle.std.specs.Prelude.{◌≡◌, ◌≢◌, ℕ, ◌⊎◌, IsTrue, false, List, Option, Some, None, Result, Ok, Err, codes}
use Rattle.dict_catalogue.specs.declared.fault.CommandRefusal.TheVariants.{BadName}
use Rattle.dict_text.specs.Names.{is_name}
use Rattle.dict_index.specs.Edition.{Edition}
use Rattle.dict_index.specs.Meaning.{IsEdition, IsFault}
use Rattle.dict_catalogue.specs.Commands.{install}
use Rattle.dict_catalogue.specs.Steps.{Catalogue, empty_catalogue, step}
use Rattle.dict_proto.specs.Streams.{StreamChange}
use Rattle.dict_desk.specs.Plain.{PlainState}
use Rattle.dict_session.specs.Desks.{Condition, condition}
use Rattle.dict_session.specs.Run.{Ends}
use Rattle.dict_session.specs.declared.session.run.SessionEnd.{SessionEnd}
use Rattle.dict_session.specs.declared.session.run.SessionFault.{SessionFault}
use Rattle.dict_session.specs.declared.session.run.SessionFault.TheVariants as session_faults
use Rattle.app_words.specs.Writing.{IsUntouched}
use Rattle.app_words.specs.Files.{IsReadFrom, AreUnreadFiles}
use Rattle.app_words.specs.declared.fault.ProgramFault.{ProgramFault}
use Rattle.app_words.specs.declared.fault.ProgramFault.TheVariants as faults

-- how the desk of a catalogue in memory stands after a call; it is never closed
abbrev pub standing : PlainState → Condition
standing = condition (λ desk. desk.has_failed) (λ _. false)

-- the catalogue whose one command installed this edition under this name
unfoldable pub catalogue_of : List ℕ → Edition → Catalogue
catalogue_of name edition = (step empty_catalogue (codes "plain") (install name edition)).catalogue

-- a session over the edition that an index and a text say, installed under this lawful name, greeted as the first at
-- localhost, ended so; how its desk stands then is told
abbrev pub EndsOverEdition : Condition → List ℕ → List ℕ → List ℕ → Result SessionEnd SessionFault → StreamChange → StreamChange → Type 0
EndsOverEdition desk name index text end reader writer =
    (edition : Edition) × IsTrue (is_name name) × IsEdition index text edition
    × Ends (catalogue_of name edition) (codes "localhost") 1 desk end reader writer

-- what is told of a session's fault
abbrev pub told_by : SessionFault → ProgramFault
told_by session_faults.Read = faults.SessionEnded
told_by session_faults.Write = faults.SessionEnded
told_by session_faults.Broken = faults.SessionEnded
told_by session_faults.Memory = faults.Memory

-- what comes of a session over a catalogue, whose desk stands so then
abbrev pub RunEnds : {A : Type 0} → Catalogue → Condition → Result A ProgramFault → StreamChange → StreamChange → Type 0
RunEnds M desk (Ok _) reader writer = (end : SessionEnd) × Ends M (codes "localhost") 1 desk (Ok end) reader writer
RunEnds M desk (Err faults.SessionEnded) reader writer = (fault : SessionFault) × (fault ≢ session_faults.Memory) × Ends M (codes "localhost") 1 desk (Err fault) reader writer
RunEnds M desk (Err faults.Memory) reader writer = IsUntouched reader × IsUntouched writer
RunEnds M desk (Err (faults.Line refusal line)) reader writer = ⊥
RunEnds M desk (Err (faults.Edition refusal)) reader writer = ⊥
RunEnds M desk (Err (faults.Refused refusal)) reader writer = ⊥
RunEnds M desk (Err (faults.Store fault)) reader writer = ⊥
RunEnds M desk (Err (faults.CannotRead path)) reader writer = ⊥
RunEnds M desk (Err faults.CannotWrite) reader writer = ⊥
RunEnds M desk (Err (faults.CannotBind address)) reader writer = ⊥
RunEnds M desk (Err faults.CannotWait) reader writer = ⊥

-- the edition that an index and a text say is installed under this lawful name, as the first command
pub record IsInstalled (Shows : Catalogue → Type 0) (name index text : List ℕ) : Type 0 where
  pub edition : Edition
  pub lawful : IsTrue (is_name name)
  pub said : IsEdition index text edition
  pub shows : Shows (catalogue_of name edition)

-- what comes of the install: it is done, or there is no such edition, or the name is refused, or memory ran out
abbrev pub Installs : {A : Type 0} → (Catalogue → Type 0) → List ℕ → List ℕ → List ℕ → Result A ProgramFault → Type 0
Installs Shows name index text (Ok _) = IsInstalled Shows name index text
Installs Shows name index text (Err (faults.Line refusal line)) = IsFault index text refusal (Some line)
Installs Shows name index text (Err (faults.Edition refusal)) = IsFault index text refusal None
Installs Shows name index text (Err (faults.Refused refusal)) = (refusal ≡ BadName) × (is_name name ≡ false) × ((edition : Edition) × IsEdition index text edition)
Installs Shows name index text (Err faults.Memory) = Unit {0}
Installs Shows name index text (Err faults.SessionEnded) = ⊥
Installs Shows name index text (Err (faults.Store fault)) = ⊥
Installs Shows name index text (Err (faults.CannotRead path)) = ⊥
Installs Shows name index text (Err faults.CannotWrite) = ⊥
Installs Shows name index text (Err (faults.CannotBind address)) = ⊥
Installs Shows name index text (Err faults.CannotWait) = ⊥

-- what comes of an index, a text and a name
abbrev pub PlainEnds : {A : Type 0} → Condition → List ℕ → List ℕ → List ℕ → Result A ProgramFault → StreamChange → StreamChange → Type 0
PlainEnds desk name index text (Ok _) reader writer = (end : SessionEnd) × EndsOverEdition desk name index text (Ok end) reader writer
PlainEnds desk name index text (Err (faults.Line refusal line)) reader writer = IsFault index text refusal (Some line) × IsUntouched reader × IsUntouched writer
PlainEnds desk name index text (Err (faults.Edition refusal)) reader writer = IsFault index text refusal None × IsUntouched reader × IsUntouched writer
PlainEnds desk name index text (Err (faults.Refused refusal)) reader writer =
    (refusal ≡ BadName) × (is_name name ≡ false) × ((edition : Edition) × IsEdition index text edition) × IsUntouched reader × IsUntouched writer
PlainEnds desk name index text (Err faults.SessionEnded) reader writer =
    (fault : SessionFault) × (fault ≢ session_faults.Memory) × EndsOverEdition desk name index text (Err fault) reader writer
PlainEnds desk name index text (Err faults.Memory) reader writer = IsUntouched reader × IsUntouched writer
PlainEnds desk name index text (Err (faults.Store fault)) reader writer = ⊥
PlainEnds desk name index text (Err (faults.CannotRead path)) reader writer = ⊥
PlainEnds desk name index text (Err faults.CannotWrite) reader writer = ⊥
PlainEnds desk name index text (Err (faults.CannotBind address)) reader writer = ⊥
PlainEnds desk name index text (Err faults.CannotWait) reader writer = ⊥

-- what comes of two files, by their paths, and a name
unfoldable pub FilesEnd : {A : Type 0} → Condition → (List ℕ → Option (List ℕ)) → List ℕ → List ℕ → List ℕ → Result A ProgramFault → StreamChange → StreamChange → Type 0
FilesEnd desk files name index text result reader writer =
    ((i : List ℕ) × (t : List ℕ) × IsReadFrom (files index) i × IsReadFrom (files text) t × PlainEnds desk name i t result reader writer)
    ⊎ (AreUnreadFiles files index text result × IsUntouched reader × IsUntouched writer)
