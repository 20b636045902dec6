-- Which catalogue the tables stand for.
use Rattle.std.specs.Prelude.{◌≡◌, ℕ, pos, ◌+◌, ◌≤◌, ◌<◌, ◌^◌, ℤ, Bool, IsTrue, List, [], ◌∷◌, length, map}
use Rattle.std.specs.List.{AllByRecursion, list_any}
use Rattle.store_tables.specs.Records.{Member}
use Rattle.dict_index.specs.Line.{Line}
use Rattle.dict_index.specs.Edition.{Edition, ReadEdition, edition_of}
use Rattle.dict_catalogue.specs.Items.{Stored, Item, name_of, members_of, editions_of, is_known, edition_numbers}
use Rattle.dict_catalogue.specs.Steps.{Catalogue}
use Rattle.dict_catalogue.specs.WellFormed.{IsWellFormed}
use Rattle.store_rows.specs.Tables.{Tables, same_number, members_of_owner, editions_numbered, entries_of}
use Rattle.store_rows.specs.Written.{numbered, mark_record, item_record, member_record, edition_record, entry_record, kept_record}

-- the members whose owner has the item's name are the item's, in their order; a regular item has none
abbrev pub HoldsMembers : {A : Type 0} → List Member → Item A → Type 0
HoldsMembers members item = members_of_owner (name_of item) members ≡ numbered (member_record (name_of item)) 0 (members_of item)

-- the line's interval lies within the text
abbrev pub IsWithin : List ℕ → Line → Type 0
IsWithin text line = line.offset + line.size ≤ length text

-- One record has the edition's number, and it has this owner, the edition's title and info, and a text. The entries
-- that have the number are the edition's, in their order: each has its headword, what is shown of it, and an interval of
-- that text, which cuts out its body. The text is so short that each place in it has a number of six digits in base 64.
pub record HoldsEdition (tables : Tables) (owner : List ℕ) (stored : Stored Edition) : Type 0 where
  pub reading : ReadEdition
  pub says : stored.content ≡ edition_of reading
  pub short : length reading.text < 64 ^ 6
  pub within : AllByRecursion (IsWithin reading.text) reading.lines
  pub row : editions_numbered (pos stored.number) tables.editions ≡ edition_record owner stored.number reading ∷ []
  pub entries : entries_of (pos stored.number) tables.entries ≡ numbered (entry_record stored.number) 0 reading.lines

-- the tables hold each edition of the item
abbrev pub HoldsEditions : Tables → Item Edition → Type 0
HoldsEditions tables item = AllByRecursion (HoldsEdition tables (name_of item)) (editions_of item)

-- one of the items has an edition of this number
abbrev pub has_number : {A : Type 0} → List (Item A) → ℤ → Bool
has_number items number = list_any (λ one. same_number (pos one) number) (edition_numbers items)

-- The tables of a file of this schema stand for the catalogue: it is well formed; there is one mark, with the count of
-- installs; the items are those of the catalogue in order, and so are the members of each, and each member is one of
-- an item; each edition of the catalogue is held with its entries, and each edition and each entry that is held is
-- one of the catalogue's; the kept replies are those of the catalogue in order. Where an interval begins, and what
-- of a text no interval cuts out, is free.
pub record Stands (version : ℕ) (tables : Tables) (M : Catalogue) : Type 0 where
  pub well_formed : IsWellFormed M
  pub marks : tables.marks ≡ mark_record version M.installs ∷ []
  pub items : tables.items ≡ numbered item_record 0 M.items
  pub members : AllByRecursion (HoldsMembers tables.members) M.items
  pub owners : AllByRecursion (λ row. IsTrue (is_known M.items row.owner)) tables.members
  pub editions : AllByRecursion (HoldsEditions tables) M.items
  pub numbers : AllByRecursion (λ row. IsTrue (has_number M.items row.number)) tables.editions
  pub entries : AllByRecursion (λ row. IsTrue (has_number M.items row.edition)) tables.entries
  pub kept : tables.kept ≡ map kept_record M.kept
