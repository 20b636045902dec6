-- The records of the six tables of schema 1.
use Rattle.std.specs.Prelude.{ℕ, pos, negsuc, ℤ, Bool, false, ◌==◌, List, filter, bytes_eq}
use Rattle.store_tables.specs.Records.{Mark, ItemRecord, Member, EditionRecord, EntryRecord, KeptRecord}

pub record Tables : Type 0 where
  pub marks : List Mark
  pub items : List ItemRecord
  pub members : List Member
  pub editions : List EditionRecord
  pub entries : List EntryRecord
  pub kept : List KeptRecord

abbrev pub same_number : ℤ → ℤ → Bool
same_number (pos m) (pos n) = m == n
same_number (pos m) (negsuc n) = false
same_number (negsuc m) (pos n) = false
same_number (negsuc m) (negsuc n) = m == n

-- the members of one owner, the records of one edition and its entries, each in the order in which they stand
abbrev pub members_of_owner : List ℕ → List Member → List Member
members_of_owner owner members = filter (λ row. bytes_eq row.owner owner) members

abbrev pub editions_numbered : ℤ → List EditionRecord → List EditionRecord
editions_numbered number editions = filter (λ row. same_number row.number number) editions

abbrev pub entries_of : ℤ → List EntryRecord → List EntryRecord
entries_of number entries = filter (λ row. same_number row.edition number) entries
