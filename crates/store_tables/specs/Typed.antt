-- The records of the program, as the records that they are.
use denote.Ref.{Bor}
use Rattle.std.specs.Prelude.{ℕ, List, option_map, String, Vec, string_bytes}
use Rattle.std.specs.declared.alloc.Global.{Global}
use Rattle.store_tables.specs.Records as spec
use Rattle.store_tables.specs.declared.records.Mark.{Mark}
use Rattle.store_tables.specs.declared.records.ItemRecord.{ItemRecord}
use Rattle.store_tables.specs.declared.records.Member.{Member}
use Rattle.store_tables.specs.declared.records.EditionRecord.{EditionRecord}
use Rattle.store_tables.specs.declared.records.EntryRecord.{EntryRecord}
use Rattle.store_tables.specs.declared.records.KeptRecord.{KeptRecord}
use Rattle.store_tables.specs.declared.records.StoredRow.{StoredRow}
use Rattle.store_tables.specs.declared.headers.HeaderRecord.{HeaderRecord}

-- Each takes what the octets of a text are.

abbrev pub mark_of : {T : Type 0} → (T → List ℕ) → Mark T → spec.Mark
mark_of text r = record { id = r.id; magic = text r.magic; version = r.version; installs = r.installs }

abbrev pub item_of : {T : Type 0} → (T → List ℕ) → ItemRecord T → spec.ItemRecord
item_of text r = record { place = r.place; name = text r.name; kind = r.kind; title = option_map text r.title; current = r.current; former = r.former }

abbrev pub member_of : {T : Type 0} → (T → List ℕ) → Member T → spec.Member
member_of text r = record { owner = text r.owner; ord = r.ord; name = text r.name }

abbrev pub edition_record_of : {T : Type 0} → {B : Type 0} → (T → List ℕ) → (B → List ℕ) → EditionRecord T B → spec.EditionRecord
edition_record_of text octets r = record { number = r.number; owner = text r.owner; title = text r.title; info = text r.info; body = octets r.body }

abbrev pub header_with : {T : Type 0} → (T → List ℕ) → HeaderRecord T → spec.HeaderRecord
header_with text r = record { number = r.number; owner = text r.owner; title = text r.title; info = text r.info }

-- what is shown is the headword, since the record has no other
abbrev pub entry_record_of : {T : Type 0} → (T → List ℕ) → EntryRecord T → spec.EntryRecord
entry_record_of text r = record { edition = r.edition; ord = r.ord; headword = text r.headword; start = r.start; length = r.length; shown = text r.headword }

abbrev pub kept_of : {T : Type 0} → (T → List ℕ) → KeptRecord T → spec.KeptRecord
kept_of text r = record { id = text r.id; number = r.number; verb = text r.verb; name = text r.name; edition = r.edition }

-- a record that was read, whose texts are its own

abbrev pub owned_mark : Mark (String Global) → spec.Mark
owned_mark = mark_of string_bytes

abbrev pub owned_item : ItemRecord (String Global) → spec.ItemRecord
owned_item = item_of string_bytes

abbrev pub owned_member : Member (String Global) → spec.Member
owned_member = member_of string_bytes

abbrev pub owned_edition : EditionRecord (String Global) (Vec ℕ Global) → spec.EditionRecord
owned_edition = edition_record_of string_bytes (λ b. b.items)

abbrev pub owned_header : HeaderRecord (String Global) → spec.HeaderRecord
owned_header = header_with string_bytes

abbrev pub owned_entry : EntryRecord (String Global) → spec.EntryRecord
owned_entry = entry_record_of string_bytes

abbrev pub owned_kept : KeptRecord (String Global) → spec.KeptRecord
owned_kept = kept_of string_bytes

-- a record whose texts are borrowed

abbrev pub lent : Bor (List ℕ) → List ℕ
lent t = t.now

abbrev pub lent_mark : Mark (Bor (List ℕ)) → spec.Mark
lent_mark = mark_of lent

abbrev pub lent_item : ItemRecord (Bor (List ℕ)) → spec.ItemRecord
lent_item = item_of lent

abbrev pub lent_member : Member (Bor (List ℕ)) → spec.Member
lent_member = member_of lent

abbrev pub lent_edition : EditionRecord (Bor (List ℕ)) (Bor (List ℕ)) → spec.EditionRecord
lent_edition = edition_record_of lent lent

abbrev pub lent_header : HeaderRecord (Bor (List ℕ)) → spec.HeaderRecord
lent_header = header_with lent

abbrev pub lent_entry : EntryRecord (Bor (List ℕ)) → spec.EntryRecord
lent_entry = entry_record_of lent

abbrev pub lent_kept : KeptRecord (Bor (List ℕ)) → spec.KeptRecord
lent_kept = kept_of lent

-- beside its rowid

abbrev pub stored_row_as : {A : Type 0} → {B : Type 0} → (A → B) → StoredRow A → StoredRow B
stored_row_as f s = record { rowid = s.rowid; value = f s.value }
