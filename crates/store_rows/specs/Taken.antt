-- What a reader of records has taken so far, and which tables go on from there.
use Rattle.std.specs.Prelude.{◌≡◌, ◌⊎◌, ℕ, pos, ℤ, ◌≤◌, IsTrue, List, [], ◌∷◌, ◌++◌, length, map, Option, Some, None}
use Rattle.std.specs.List.{AllByRecursion}
use Rattle.store_tables.specs.Records as spec
use Rattle.dict_index.specs.Line.{Line}
use Rattle.dict_index.specs.Edition.{Edition}
use Rattle.dict_index.specs.WellFormed.{IsWellFormedEdition}
use Rattle.dict_catalogue.specs.Items.{Stored, Item, name_of, editions_of, is_known}
use Rattle.dict_catalogue.specs.Steps.{KeptFor, Catalogue}
use Rattle.dict_catalogue.specs.Views.{item_shown}
use Rattle.dict_catalogue.specs.WellFormed.{how_many, is_install, IsEachOnce, IsLawfulReply, IsNumberedFrom}
use Rattle.store_rows.specs.Tables.{Tables, editions_numbered, entries_of}
use Rattle.store_rows.specs.Written.{numbered, mark_record, item_record, entry_record, kept_record}
use Rattle.store_rows.specs.Stands.{HoldsMembers, HoldsEdition, has_number, Stands}
use Rattle.store_rows.specs.Tests.{has_lawful_items}
use Rattle.store_rows.specs.declared.reader.Reader.{Reader}
use Rattle.store_rows.specs.declared.reader.InHand.{InHand}

-- ---- tables that go on from those that were taken

-- the list begins with these
abbrev pub BeginsWith : {X : Type 0} → List X → List X → Type 0
BeginsWith {X} xs front = (more : List X) × (xs ≡ front ++ more)

-- the mark, the items and the members are all taken; of the editions of each number, of the entries of each number, and of
-- the kept replies, the first ones
pub record GoesOnFrom (front tables : Tables) : Type 0 where
  pub marks : tables.marks ≡ front.marks
  pub items : tables.items ≡ front.items
  pub members : tables.members ≡ front.members
  pub editions : (number : ℤ) → BeginsWith (editions_numbered number tables.editions) (editions_numbered number front.editions)
  pub entries : (number : ℤ) → BeginsWith (entries_of number tables.entries) (entries_of number front.entries)
  pub kept : BeginsWith tables.kept front.kept

-- no tables that go on from these stand for a catalogue
abbrev pub StandsForNone : ℕ → Tables → Type 0
StandsForNone version front = (tables : Tables) (M : Catalogue) → GoesOnFrom front tables → Stands version tables M → ⊥

-- nothing of the other tables
abbrev pub begun : List spec.Mark → List spec.ItemRecord → List spec.Member → Tables
begun marks items members = record { marks = marks; items = items; members = members; editions = []; entries = []; kept = [] }

-- one record more
abbrev pub with_edition : Tables → spec.EditionRecord → Tables
with_edition taken row = record taken { editions = taken.editions ++ row ∷ [] }

abbrev pub with_entry : Tables → spec.EntryRecord → Tables
with_entry taken row = record taken { entries = taken.entries ++ row ∷ [] }

abbrev pub with_kept : Tables → spec.KeptRecord → Tables
with_kept taken row = record taken { kept = taken.kept ++ row ∷ [] }

-- no two of the kept replies have one id
abbrev pub HasIdsOnce : Tables → Type 0
HasIdsOnce taken = IsEachOnce (map (λ row. row.id) taken.kept)

-- the entry is one of the edition that was taken last
abbrev pub IsOfLast : Tables → spec.EntryRecord → Type 0
IsOfLast taken row = (front : List spec.EditionRecord) × (last : spec.EditionRecord) × (taken.editions ≡ front ++ last ∷ []) × (row.edition ≡ last.number)

-- the line comes next of the edition of this number
abbrev pub next_entry : Tables → ℕ → Line → spec.EntryRecord
next_entry taken number line = entry_record number (length (entries_of (pos number) taken.entries)) line

-- ---- what the reader holds

-- no record has the number
abbrev pub HasNone : Tables → ℕ → Type 0
HasNone taken number = (editions_numbered (pos number) taken.editions ≡ []) × (entries_of (pos number) taken.entries ≡ [])

-- the edition was taken, with its title
pub record IsTaken (taken : Tables) (owner : List ℕ) (number : ℕ) (told : List ℕ) : Type 0 where
  pub edition : Edition
  pub holds : HoldsEdition taken owner (record { number = number; content = edition })
  pub title : edition.title ≡ told
  pub lawful : IsWellFormedEdition edition

-- an edition whose title is empty was not taken
abbrev pub HoldsTitle : Tables → List ℕ → Stored (List ℕ) → Type 0
HoldsTitle taken owner stored = ((stored.content ≡ []) × HasNone taken stored.number) ⊎ IsTaken taken owner stored.number stored.content

abbrev pub HoldsTitles : Tables → Item (List ℕ) → Type 0
HoldsTitles taken item = AllByRecursion (HoldsTitle taken (name_of item)) (editions_of item)

-- the edition in hand is the one that was taken last, and so many entries of it were taken
pub record IsLast (hand : InHand) (taken : Tables) : Type 0 where
  pub front : List spec.EditionRecord
  pub row : spec.EditionRecord
  pub last : taken.editions ≡ front ++ row ∷ []
  pub number : row.number ≡ pos hand.number
  pub text : row.body ≡ hand.text.items
  pub entries : length (entries_of (pos hand.number) taken.entries) ≡ hand.entries

abbrev pub IsInHand : Option InHand → Tables → Type 0
IsInHand None taken = taken.editions ≡ []
IsInHand (Some hand) taken = IsLast hand taken

-- the kept replies that were taken: so many, and so many of installs
pub record AreKept (accepted installed : ℕ) (rows : List spec.KeptRecord) : Type 0 where
  pub replies : List KeptFor
  pub are : rows ≡ map kept_record replies
  pub lawful : AllByRecursion IsLawfulReply replies
  pub numbered : IsNumberedFrom 1 replies
  pub many : length replies ≡ accepted
  pub few : accepted ≤ 9223372036854775807
  pub installs : how_many (λ kept. is_install kept.reply.verb) replies ≡ installed

abbrev pub items_in : Reader → List (Item (List ℕ))
items_in reader = map item_shown reader.items.items

-- the reader has taken these records
pub record HasTaken (version : ℕ) (reader : Reader) (taken : Tables) : Type 0 where
  pub marks : taken.marks ≡ mark_record version reader.installs ∷ []
  pub items : taken.items ≡ numbered item_record 0 (items_in reader)
  pub members : AllByRecursion (HoldsMembers taken.members) (items_in reader)
  pub owners : AllByRecursion (λ row. IsTrue (is_known (items_in reader) row.owner)) taken.members
  pub lawful : IsTrue (has_lawful_items reader.installs (items_in reader))
  pub titles : AllByRecursion (HoldsTitles taken) (items_in reader)
  pub numbers : AllByRecursion (λ row. IsTrue (has_number (items_in reader) row.number)) taken.editions
  pub entries : AllByRecursion (λ row. IsTrue (has_number (items_in reader) row.edition)) taken.entries
  pub hand : IsInHand reader.edition taken
  pub kept : AreKept reader.accepted reader.installed taken.kept

-- the same, but that the edition in hand may have been let go
abbrev pub HasLetGo : ℕ → Reader → Tables → Type 0
HasLetGo version reader taken = (hand : Option InHand) × HasTaken version (record reader { edition = hand }) taken
