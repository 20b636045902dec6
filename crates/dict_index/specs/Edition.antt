-- An edition: what a pair of files in dictd's form says.
use Rattle.std.specs.Prelude.{◌≡◌, ℕ, List, map}
use Rattle.std.specs.List.{AllByRecursion}
use Rattle.dict_index.specs.Line.{Line, body_in}

-- a headword, by which searches find the entry, the headword that is shown, and the entry's text
pub record Entry : Type 0 where
  pub headword : List ℕ
  pub shown : List ℕ
  pub body : List ℕ

pub record Edition : Type 0 where
  pub title : List ℕ
  pub info : List ℕ
  pub entries : List Entry

-- each entry is shown by its headword
abbrev pub ShowsHeadwords : Edition → Type 0
ShowsHeadwords edition = AllByRecursion (λ entry. entry.shown ≡ entry.headword) edition.entries

-- an edition as it was read: its text, and the lines that make its entries
pub record ReadEdition : Type 0 where
  pub title : List ℕ
  pub info : List ℕ
  pub text : List ℕ
  pub lines : List Line

-- the entry that a line makes of the text
abbrev pub entry_in : List ℕ → Line → Entry
entry_in text said = record { headword = said.headword; shown = said.shown; body = body_in text said }

-- the edition without its intervals
abbrev pub edition_of : ReadEdition → Edition
edition_of reading = record { title = reading.title; info = reading.info; entries = map (entry_in reading.text) reading.lines }
