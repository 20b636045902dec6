-- The records that are given, and what is read of them.
use Rattle.std.specs.Prelude.{◌≡◌, ℕ, List, [], Option, map, String}
use Rattle.std.specs.List.{AllByRecursion}
use Rattle.std.specs.declared.alloc.Global.{Global}
use Rattle.store_tables.specs.Records as spec
use Rattle.store_tables.specs.Typed.{owned_mark, owned_item, owned_member, owned_entry, owned_kept}
use Rattle.store_tables.specs.declared.records.Mark.{Mark}
use Rattle.store_tables.specs.declared.records.ItemRecord.{ItemRecord as ItemRow}
use Rattle.store_tables.specs.declared.records.Member.{Member}
use Rattle.store_tables.specs.declared.records.EntryRecord.{EntryRecord}
use Rattle.store_tables.specs.declared.records.KeptRecord.{KeptRecord}
use Rattle.store_tables.specs.declared.records.StoredRow.{StoredRow as Row}
use Rattle.dict_index.specs.Line.{Line}
use Rattle.dict_index.specs.Edition.{Edition, entry_in}
use Rattle.dict_index.specs.WellFormed.{IsWellFormedEntry}
use Rattle.dict_catalogue.specs.Steps.{KeptFor}
use Rattle.dict_catalogue.specs.WellFormed.{IsLawfulReply}
use Rattle.dict_catalogue.specs.declared.reply.Verb.{Verb}
use Rattle.dict_catalogue.specs.Items.{Stored, Item, regular, virtual, editions_of}
use Rattle.store_rows.specs.Written.{numbered, item_record, entry_record, kept_record}
use Rattle.store_rows.specs.Stands.{HoldsMembers, IsWithin}
use Rattle.store_rows.specs.declared.fault.RowsFault.{RowsFault}
use Rattle.store_rows.specs.declared.fault.RowsFault.TheVariants.{Damaged, Memory}

-- the records without their rowids
abbrev pub marks_given : List (Row (Mark (String Global))) → List spec.Mark
marks_given rows = map (λ row. owned_mark row.value) rows

abbrev pub items_given : List (Row (ItemRow (String Global))) → List spec.ItemRecord
items_given rows = map (λ row. owned_item row.value) rows

abbrev pub members_given : List (Row (Member (String Global))) → List spec.Member
members_given rows = map (λ row. owned_member row.value) rows

abbrev pub entries_given : List (Row (EntryRecord (String Global))) → List spec.EntryRecord
entries_given rows = map (λ row. owned_entry row.value) rows

abbrev pub kept_given : List (Row (KeptRecord (String Global))) → List spec.KeptRecord
kept_given rows = map (λ row. owned_kept row.value) rows

-- the fault tells damage, and then this holds
abbrev pub OnDamage : RowsFault → Type 0 → Type 0
OnDamage Damaged P = P
OnDamage Memory P = Unit {0}

-- no edition of the item was read yet: an edition's title is never empty
abbrev pub IsUnread : Item (List ℕ) → Type 0
IsUnread item = AllByRecursion (λ stored. stored.content ≡ []) (editions_of item)

-- the record is this item's at this place, and its members are there; none of its editions was read
pub record IsItemRead (place : ℕ) (row : spec.ItemRecord) (members : List spec.Member) (item : Item (List ℕ)) : Type 0 where
  pub is : row ≡ item_record place item
  pub held : HoldsMembers members item
  pub unread : IsUnread item

-- the same of the records of all items, from a place on
pub record AreRead (place : ℕ) (rows : List spec.ItemRecord) (members : List spec.Member) (items : List (Item (List ℕ))) : Type 0 where
  pub are : rows ≡ numbered item_record place items
  pub held : AllByRecursion (HoldsMembers members) items
  pub unread : AllByRecursion IsUnread items

-- the record is no regular item's at this place, no virtual one's, and none's with its members
abbrev pub IsNotRegular : ℕ → spec.ItemRecord → Type 0
IsNotRegular place row = (name : List ℕ) (current : Stored Edition) (former : Option (Stored Edition)) → row ≡ item_record place (regular name current former) → ⊥

abbrev pub IsNotVirtual : ℕ → spec.ItemRecord → Type 0
IsNotVirtual place row = (name title : List ℕ) (members : List (List ℕ)) → row ≡ item_record {A = Edition} place (virtual name title members) → ⊥

abbrev pub IsNoItem : ℕ → spec.ItemRecord → List spec.Member → Type 0
IsNoItem place row members = (item : Item Edition) → row ≡ item_record place item → HoldsMembers members item → ⊥

abbrev pub AreNoItems : List spec.ItemRecord → List spec.Member → Type 0
AreNoItems rows members = (items : List (Item Edition)) → rows ≡ numbered item_record 0 items → AllByRecursion (HoldsMembers members) items → ⊥

-- a line that says this
abbrev pub line_with : (headword : List ℕ) (offset size : ℕ) (shown : List ℕ) → Line
line_with headword offset size shown = record { headword = headword; offset = offset; size = size; shown = shown }

-- the line's interval lies within the text, and the entry is lawful
pub record IsLawfulLine (text : List ℕ) (line : Line) : Type 0 where
  pub within : IsWithin text line
  pub lawful : IsWellFormedEntry (entry_in text line)

-- the record is that of an entry at this place, whose interval lies within the text, and the entry is lawful
pub record IsEntry (number ord : ℕ) (text : List ℕ) (row : spec.EntryRecord) : Type 0 where
  pub line : Line
  pub is : row ≡ entry_record number ord line
  pub within : IsWithin text line
  pub lawful : IsWellFormedEntry (entry_in text line)

abbrev pub IsNoEntry : ℕ → ℕ → List ℕ → spec.EntryRecord → Type 0
IsNoEntry number ord text row = (line : Line) → row ≡ entry_record number ord line → IsWithin text line → IsWellFormedEntry (entry_in text line) → ⊥

-- the record is that of a lawful reply with this number to a command that did this
pub record IsReply (number : ℕ) (verb : Verb) (row : spec.KeptRecord) : Type 0 where
  pub reply : KeptFor
  pub is : row ≡ kept_record reply
  pub lawful : IsLawfulReply reply
  pub numbered : reply.reply.number ≡ number
  pub did : reply.reply.verb ≡ verb

abbrev pub IsNoReply : ℕ → spec.KeptRecord → Type 0
IsNoReply number row = (reply : KeptFor) → row ≡ kept_record reply → IsLawfulReply reply → reply.reply.number ≡ number → ⊥
