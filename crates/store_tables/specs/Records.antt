-- The records of the tables: numbers, and texts and blobs as their octets.
use Rattle.std.specs.Prelude.{◌≡◌, ℕ, ℤ, List, Option}

-- what the file is, and how many installs it has seen; its id is 1 where the product wrote it
pub record Mark : Type 0 where
  pub id : ℤ
  pub magic : List ℕ
  pub version : ℤ
  pub installs : ℤ

-- a database of the list; a virtual one has a title, and a regular one has editions
pub record ItemRecord : Type 0 where
  pub place : ℤ
  pub name : List ℕ
  pub kind : ℤ
  pub title : Option (List ℕ)
  pub current : Option ℤ
  pub former : Option ℤ

-- a member of a virtual database
pub record Member : Type 0 where
  pub owner : List ℕ
  pub ord : ℤ
  pub name : List ℕ

-- an edition, with the text that its entries are cut from
pub record EditionRecord : Type 0 where
  pub number : ℤ
  pub owner : List ℕ
  pub title : List ℕ
  pub info : List ℕ
  pub body : List ℕ

-- an edition without its text
pub record HeaderRecord : Type 0 where
  pub number : ℤ
  pub owner : List ℕ
  pub title : List ℕ
  pub info : List ℕ

abbrev pub header_of : EditionRecord → HeaderRecord
header_of e = record { number = e.number; owner = e.owner; title = e.title; info = e.info }

-- a part of one of the two files of an edition: of which edition and which file it is, its number, and its octets
pub record Part : Type 0 where
  pub edition : ℤ
  pub file : ℤ
  pub number : ℤ
  pub octets : List ℕ

-- a headword of an edition, where its body stands in the edition's text, and the headword that is shown
pub record EntryRecord : Type 0 where
  pub edition : ℤ
  pub ord : ℤ
  pub headword : List ℕ
  pub start : ℤ
  pub length : ℤ
  pub shown : List ℕ

-- it is shown by its headword, as each is in a table that has no column for what is shown
abbrev pub ShowsHeadword : EntryRecord → Type 0
ShowsHeadword e = e.shown ≡ e.headword

-- the same with what is shown
abbrev pub shown_as : EntryRecord → List ℕ → EntryRecord
shown_as e shown = record e { shown = shown }

-- a reply that is kept for the id of its request
pub record KeptRecord : Type 0 where
  pub id : List ℕ
  pub number : ℤ
  pub verb : List ℕ
  pub name : List ℕ
  pub edition : Option ℤ
