-- What is known of the files of an install before the command comes.
use Rattle.std.specs.Prelude.{◌≡◌, ◌-◌, ◌+◌, ◌≤◌, ◌||◌, ℕ, Bool, true, false, List, take, string_bytes}
use Rattle.std.specs.Borrow.{Bor}
use Rattle.dict_index.specs.Edition.{ReadEdition}
use Rattle.dict_index.specs.Meaning.{IsReadEdition, IsFault}
use Rattle.store_rows.specs.Stored.{stored_index}
use Rattle.dict_reading.specs.Reading.{HasRead, IsAtEnd}
use Rattle.dict_reading.specs.Slices.{IsSlice}
use Rattle.dict_catalogue.specs.declared.commands.Command.{Command}
use Rattle.dict_catalogue.specs.declared.commands.Command.TheVariants.{Install}
use Rattle.store_commands.specs.Drafts.{DraftState}
use Rattle.store_commands.specs.Filing.{IsDrawnUp}
use Rattle.store_commands.specs.declared.install.InstallFiles.{InstallFiles}
use Rattle.store_commands.specs.declared.install.Progress.{Progress}
use Rattle.store_commands.specs.declared.reads.ReadInstall.{ReadInstall}
use Rattle.store_commands.specs.declared.install.Progress.TheVariants.{Reader, Refused}

-- ---- how far the files are read

-- so many lines of the index are read over the text, and pass all tests; or a test fails, the first one
abbrev pub IsReadSoFar : List ℕ → List ℕ → Progress → Type 0
IsReadSoFar index text (Reader reader) = HasRead index text reader
IsReadSoFar index text (Refused refusal line) = IsFault index text refusal line

-- all lines are read
abbrev pub IsReadWhole : List ℕ → Progress → Type 0
IsReadWhole index (Reader reader) = IsAtEnd index reader
IsReadWhole index (Refused refusal line) = ⊥

-- whether a test fails
abbrev pub is_refused : Progress → Bool
is_refused (Reader reader) = false
is_refused (Refused refusal line) = true

-- how many lines are read
abbrev pub lines_read : Progress → ℕ
lines_read (Reader reader) = reader.number
lines_read (Refused refusal line) = 0

-- the lines that were read meanwhile are a slice, unless a test fails
abbrev pub ReadsSlice : List ℕ → Progress → Progress → Type 0
ReadsSlice index old new = is_refused new ≡ false → IsSlice index (lines_read old) (lines_read new - lines_read old)

-- ---- how much of the index is written as it is stored

-- whatever edition the files say, these are the stored lines of so many of its entries, the first ones
abbrev pub AreFirstLines : List ℕ → List ℕ → ℕ → List ℕ → Type 0
AreFirstLines index text written stored = (reading : ReadEdition) → IsReadEdition index text reading → stored ≡ stored_index (take written reading.lines)

-- and these of all
abbrev pub AreAllLines : List ℕ → List ℕ → List ℕ → Type 0
AreAllLines index text stored = (reading : ReadEdition) → IsReadEdition index text reading → stored ≡ stored_index reading.lines

-- ---- the whole of it

pub record AreKnown (f : InstallFiles) : Type 0 where
  pub read : IsReadSoFar f.came.items f.text.items f.progress
  pub front : AreFirstLines f.came.items f.text.items f.written f.stored.items
  pub whole : f.is_whole ≡ true → IsReadWhole f.came.items f.progress × AreAllLines f.came.items f.text.items f.stored.items

-- this is the name, and these are the two files
pub record HasFiles (name index text : List ℕ) (f : InstallFiles) : Type 0 where
  pub name_is : string_bytes f.name ≡ name
  pub index_is : f.came.items ≡ index
  pub text_is : f.text.items ≡ text

-- nothing is left to do: the stored index is whole, or a test fails
abbrev pub is_done : InstallFiles → Bool
is_done f = f.is_whole || is_refused f.progress

-- at most a slice of lines was read, and at most so many were written
pub record IsShortStep (old new : InstallFiles) : Type 0 where
  pub reads : ReadsSlice old.came.items old.progress new.progress
  pub writes : new.written ≤ old.written + 4096

-- what contracts see of it
abbrev pub state_of : InstallFiles → DraftState
state_of f = record {
  name = string_bytes f.name;
  index = f.came.items;
  text = f.text.items;
  lines = lines_read f.progress;
  written = f.written;
  is_refused = is_refused f.progress;
  is_done = is_done f;
}

-- ---- of which all is read

-- All lines of the index that came are read over the text; and whatever edition the two say, the filing has the stored lines of all of its
-- entries, and numbers that the tables can hold.
pub record IsReadInstall (r : ReadInstall) : Type 0 where
  pub drawn : IsDrawnUp r.filing
  pub read : HasRead r.came.items r.filing.text.items r.reader
  pub all : IsAtEnd r.came.items r.reader
  pub stored : AreAllLines r.came.items r.filing.text.items r.filing.index.items

-- this is the name, and these are the two files
pub record IsInstallOf (name index text : List ℕ) (r : ReadInstall) : Type 0 where
  pub name_is : string_bytes r.name ≡ name
  pub index_is : r.came.items ≡ index
  pub text_is : r.filing.text.items ≡ text

-- ---- the command

abbrev as_lent : {X : Type 0} → X → Bor X
as_lent x = record { ref_ptr = (0, 0); now = x }

-- the install of what was read, under a name
abbrev pub install_read : List ℕ → ReadEdition → Command
install_read name reading = Install (as_lent name) (as_lent reading)
