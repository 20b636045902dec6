-- The records of entries with what is derived of their headwords: numbers, and texts and blobs as their octets.
use Rattle.std.specs.Prelude.{ℕ, ℤ, List, String, Vec, string_bytes}
use Rattle.std.specs.declared.alloc.Global.{Global}
use Rattle.store_tables.specs.Records.{EntryRecord}
use Rattle.store_tables.specs.declared.keyed_records.KeyedEntry.{KeyedEntry as TypedEntry}
use Rattle.store_tables.specs.declared.keyed_records.OldEntry.{OldEntry as TypedOld}

-- a headword of an edition, where its body stands in the edition's text, its key, the key's octets in reverse order, and the
-- headword that is shown
pub record KeyedEntry : Type 0 where
  pub edition : ℤ
  pub ord : ℤ
  pub headword : List ℕ
  pub start : ℤ
  pub length : ℤ
  pub key : List ℕ
  pub reversed : List ℕ
  pub shown : List ℕ

-- an entry as schemas 2 and 3 had it
pub record OldEntry : Type 0 where
  pub edition : ℤ
  pub ord : ℤ
  pub headword : List ℕ
  pub start : ℤ
  pub length : ℤ
  pub key : List ℕ
  pub reversed : List ℕ

-- an entry without what was derived of it: its headword is shown
abbrev pub plain_entry : OldEntry → EntryRecord
plain_entry e = record { edition = e.edition; ord = e.ord; headword = e.headword; start = e.start; length = e.length; shown = e.headword }

-- Each takes what the octets of a text and of a blob are.

abbrev pub keyed_entry_of : {T : Type 0} → {B : Type 0} → (T → List ℕ) → (B → List ℕ) → TypedEntry T B → KeyedEntry
keyed_entry_of text octets r = record { edition = r.edition; ord = r.ord; headword = text r.headword; start = r.start; length = r.length; key = octets r.key; reversed = octets r.reversed; shown = text r.shown }

abbrev pub old_entry_of : {T : Type 0} → {B : Type 0} → (T → List ℕ) → (B → List ℕ) → TypedOld T B → OldEntry
old_entry_of text octets r = record { edition = r.edition; ord = r.ord; headword = text r.headword; start = r.start; length = r.length; key = octets r.key; reversed = octets r.reversed }

-- a record that was read, whose texts are its own

abbrev pub owned_keyed_entry : TypedEntry (String Global) (Vec ℕ Global) → KeyedEntry
owned_keyed_entry = keyed_entry_of string_bytes (λ b. b.items)

abbrev pub owned_old_entry : TypedOld (String Global) (Vec ℕ Global) → OldEntry
owned_old_entry = old_entry_of string_bytes (λ b. b.items)
