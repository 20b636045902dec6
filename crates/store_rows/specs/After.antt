-- Which records the tables hold after a command, from those before.
use Rattle.std.specs.Prelude.{◌≡◌, ℕ, pos, ◌+◌, ◌<◌, ◌^◌, length, ℤ, Bool, not, List, [], ◌∷◌, ◌++◌, filter, flat_map, Option, Some, None}
use Rattle.std.specs.List.{AllByRecursion, list_any}
use Rattle.store_tables.specs.Records.{Member, EditionRecord, EntryRecord}
use Rattle.dict_index.specs.Edition.{Edition, ReadEdition, edition_of}
use Rattle.dict_catalogue.specs.Items.{Item, name_of, members_of}
use Rattle.dict_catalogue.specs.Commands.{Command, install, rollback, retire, put_virtual, place}
use Rattle.dict_catalogue.specs.Tests.{Holdings}
use Rattle.dict_catalogue.specs.Effects.{editions_gone, effect, reply_to}
use Rattle.dict_catalogue.specs.Steps.{KeptFor, Catalogue, holdings, summary_of, with_effect}
use Rattle.store_rows.specs.Tables.{Tables, same_number}
use Rattle.store_rows.specs.Written.{numbered, mark_record, item_record, member_record, edition_record, entry_record, kept_record}
use Rattle.store_rows.specs.Stands.{IsWithin}

-- the members of all items, owner after owner
abbrev pub all_members : {A : Type 0} → List (Item A) → List Member
all_members items = flat_map (λ item. numbered (member_record (name_of item)) 0 (members_of item)) items

-- an edition that is installed: its owner, its number, and what was read of it
pub record Installed : Type 0 where
  pub owner : List ℕ
  pub number : ℕ
  pub reading : ReadEdition

-- what is written where a command acts: the summary after it, the editions that go, the one that is installed, and the reply
pub record TableChange : Type 0 where
  pub summary : Holdings (List ℕ)
  pub gone : List ℕ
  pub edition : Option Installed
  pub kept : KeptFor

-- the number is one of those that go
abbrev pub is_gone : List ℕ → ℤ → Bool
is_gone gone number = list_any (λ one. same_number (pos one) number) gone

abbrev pub installed_editions : Option Installed → List EditionRecord
installed_editions None = []
installed_editions (Some new) = edition_record new.owner new.number new.reading ∷ []

abbrev pub installed_entries : Option Installed → List EntryRecord
installed_entries None = []
installed_entries (Some new) = numbered (entry_record new.number) 0 new.reading.lines

-- The mark, the items and the members are written anew; the records of the editions that go are taken away, and those of
-- the one that is installed come last; so does the reply.
abbrev pub tables_after : ℕ → TableChange → Tables → Tables
tables_after version change old = record {
  marks = mark_record version change.summary.installs ∷ [];
  items = numbered item_record 0 change.summary.items;
  members = all_members change.summary.items;
  editions = filter (λ row. not (is_gone change.gone row.number)) old.editions ++ installed_editions change.edition;
  entries = filter (λ row. not (is_gone change.gone row.edition)) old.entries ++ installed_entries change.edition;
  kept = old.kept ++ kept_record change.kept ∷ [];
}

-- the edition that the command installs, under this number, whose bodies lie within its text, which is short enough for its index
abbrev pub IsInstalledBy : ℕ → Command Edition → Option Installed → Type 0
IsInstalledBy number (install name content) (Some new) =
    (new.owner ≡ name) × (new.number ≡ number) × (content ≡ edition_of new.reading) × AllByRecursion (IsWithin new.reading.text) new.reading.lines × (length new.reading.text < 64 ^ 6)
IsInstalledBy number (install name content) None = ⊥
IsInstalledBy number (rollback name) new = new ≡ None
IsInstalledBy number (retire name) new = new ≡ None
IsInstalledBy number (put_virtual name title members) new = new ≡ None
IsInstalledBy number (place name at) new = new ≡ None

-- this is what is written where the command acts on the catalogue
pub record IsTableChange (M : Catalogue) (id : List ℕ) (command : Command Edition) (change : TableChange) : Type 0 where
  pub summary : change.summary ≡ summary_of (with_effect M id command)
  pub gone : change.gone ≡ editions_gone M.items (with_effect M id command).items
  pub edition : IsInstalledBy (M.installs + 1) command change.edition
  pub kept : change.kept ≡ record { id = id; reply = reply_to command (effect command (holdings M)) }
