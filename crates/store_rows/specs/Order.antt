-- The same records in another order, and records in the order of their keys.
use Rattle.std.specs.Prelude.{◌≡◌, ◌≤ℤ◌, ℤ, Bool, List, filter, IsPermutation}
use Rattle.std.specs.List.{list_any}
pub use Rattle.store_tables.specs.Order.{InOrder}
use Rattle.store_tables.specs.Records.{EditionRecord, EntryRecord}
use Rattle.store_rows.specs.Tables.{Tables, same_number}

-- each table has the same records, in whatever order
pub record HaveSame (old new : Tables) : Type 0 where
  pub marks : IsPermutation old.marks new.marks
  pub items : IsPermutation old.items new.items
  pub members : IsPermutation old.members new.members
  pub editions : IsPermutation old.editions new.editions
  pub entries : IsPermutation old.entries new.entries
  pub kept : IsPermutation old.kept new.kept

-- the items stand in the order of their places, the members of one owner and the entries of one edition in the order of
-- theirs, and the kept replies in the order of their numbers
pub record AreOrdered (tables : Tables) : Type 0 where
  pub items : InOrder (λ a b. a.place ≤ℤ b.place) tables.items
  pub members : InOrder (λ a b. a.owner ≡ b.owner → a.ord ≤ℤ b.ord) tables.members
  pub entries : InOrder (λ a b. a.edition ≡ b.edition → a.ord ≤ℤ b.ord) tables.entries
  pub kept : InOrder (λ a b. a.number ≤ℤ b.number) tables.kept

-- the number is one of these, and the records that have one of them
abbrev pub is_of : List ℤ → ℤ → Bool
is_of numbers number = list_any (same_number number) numbers

abbrev pub editions_of_numbers : List ℤ → List EditionRecord → List EditionRecord
editions_of_numbers numbers editions = filter (λ row. is_of numbers row.number) editions

abbrev pub entries_of_numbers : List ℤ → List EntryRecord → List EntryRecord
entries_of_numbers numbers entries = filter (λ row. is_of numbers row.edition) entries
