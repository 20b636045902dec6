-- The texts of editions, which the entries of an index cut, and those of their parts that are kept in memory beside a database.
use Rattle.std.specs.Prelude.{◌≡◌, ◌⊎◌, ◌≤◌, ◌<◌, ◌^◌, ℕ, IsTrue, List, [], map, length, slice_index_or}
use Rattle.std.specs.List.{AllByRecursion}
use Rattle.sqlite.specs.Held.{Held, state}
use Rattle.sqlite.specs.State.{State, HasCleanDisk}
use Rattle.sqlite_trees.specs.declared.store.Store.{Ghosts}
use Rattle.dict_index.specs.Line.{Line}
use Rattle.dict_index.specs.Edition.{Edition, entry_in}
use Rattle.store_rows.specs.Parts.{parts_of}
use Rattle.store_holdings.specs.HeldTexts.{HoldsText}
use Rattle.store_search.specs.Entries.{Indexed, entry_of}
use Rattle.store_holdings.specs.KeptTexts.{PartNumbers, with_text}
use Rattle.dict_desk.specs.declared.fault.Fault.{Fault}
use Rattle.dict_desk.specs.declared.fault.Fault.TheVariants.{Memory}
use Rattle.store_holdings.specs.Searches.{IsReadFrom, FailsToReadUnder}

-- The entries of the index are those of lines that cut the edition's entries out of the text, which is as short as each that is stored.
pub record Cuts (index : List Indexed) (edition : Edition) (text : List ℕ) : Type 0 where
  pub lines : List Line
  pub entries : index ≡ map entry_of lines
  pub cut : edition.entries ≡ map (entry_in text) lines
  pub short : length text < 64 ^ 6

-- The index is of the edition: it cuts its entries out of some text. What lookups count and list is so, whatever the text.
abbrev pub IsIndexOf : List Indexed → Edition → Type 0
IsIndexOf index edition = (text : List ℕ) × Cuts index edition text

-- what is kept under the edition's number and a part's is that part of the text
abbrev pub IsPartOf : ℕ → List ℕ → PartNumbers × List ℕ → Type 0
IsPartOf number text kept = kept.0.0 ≡ number → kept.1 ≡ slice_index_or (parts_of text) kept.0.1 []

abbrev pub ArePartsOf : ℕ → List ℕ → List (PartNumbers × List ℕ) → Type 0
ArePartsOf number text texts = AllByRecursion (IsPartOf number text) texts

-- each part is kept under the number of an edition that an install has made
abbrev pub AreOfInstalls : ℕ → List (PartNumbers × List ℕ) → Type 0
AreOfInstalls installs texts = AllByRecursion (λ kept. kept.0.0 ≤ installs) texts

-- the texts are as they were, or this part was put among them, under a number that an install has made
abbrev pub MayKeep : ℕ → PartNumbers → List ℕ → List (PartNumbers × List ℕ) → List (PartNumbers × List ℕ) → Type 0
MayKeep installs key octets old new = (new ≡ old) ⊎ ((key.0 ≤ installs) × (new ≡ with_text key octets old))

-- The text of the edition of this number: what is kept of it are its parts, and while the store is open, the database has it.
pub record HasText (s : State) (number : ℕ) (text : List ℕ) (texts : List (PartNumbers × List ℕ)) : Type 0 where
  pub kept : ArePartsOf number text texts
  pub held : IsTrue s.is_open → HoldsText s.now number text

module _ {S : Type 0} (g : Ghosts S) where
  -- the connection wasn't asked, or was read from
  abbrev pub IsAtMostRead : Held S → Held S → Type 0
  IsAtMostRead old new = (new ≡ old) ⊎ IsReadFrom g old new

  -- Entries weren't handed out with their texts: a growth was refused, and nothing has changed; or what is to be read under the number
  -- wasn't read.
  abbrev pub FailsToFind : ℕ → Held S → Held S → Fault → Type 0
  FailsToFind number old new fault = ((fault ≡ Memory) × (new ≡ old)) ⊎ FailsToReadUnder g number old new fault

  -- Between two states parts of the text of an edition were asked for, whether they were given or not. What is kept under a number are
  -- parts of each text of which they were before, and which the database has where it is this number; and the numbers are those of installs.
  pub record KeepsParts (installs number : ℕ) (old new : Held S) (before after : List (PartNumbers × List ℕ)) : Type 0 where
    pub texts : HasCleanDisk (state g new) → (other : ℕ) (text : List ℕ) → ArePartsOf other text before → (other ≡ number → IsTrue (state g old).is_open → HoldsText (state g old).now other text) → ArePartsOf other text after
    pub made : AreOfInstalls installs before → AreOfInstalls installs after
