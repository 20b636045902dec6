-- The rows that the records of the tables stand in, column by column.
use Rattle.std.specs.Prelude.{ℕ, List, [], ◌∷◌, Option, ℤ, String, Vec}
use Rattle.std.specs.declared.alloc.Global.{Global}
use Rattle.sqlite.specs.declared.types.Value.{Value}
use Rattle.sqlite.specs.declared.types.Value.TheVariants.{Int, Text as Words, Blob as Bytes}
use Rattle.sqlite.specs.Order.{Row}
use Rattle.sqlite.specs.Values.{or_null}
use Rattle.store_tables.specs.Records.{Mark, ItemRecord, Member, EditionRecord, EntryRecord, KeptRecord}
use Rattle.store_tables.specs.Typed.{stored_row_as, owned_mark, owned_item, owned_member, owned_edition, owned_entry, owned_kept}
use Rattle.store_tables.specs.declared.records.StoredRow.{StoredRow}
use Rattle.store_tables.specs.declared.records as typed
use Rattle.store_sql.specs.declared.records.EditionNumber.{EditionNumber}

abbrev pub number_or_null : Option ℤ → Value
number_or_null = or_null Int

abbrev pub text_or_null : Option (List ℕ) → Value
text_or_null = or_null Words

abbrev pub mark_row : Mark → Row
mark_row m = Int m.id ∷ Words m.magic ∷ Int m.version ∷ Int m.installs ∷ []

abbrev pub item_row : ItemRecord → Row
item_row i = Int i.place ∷ Words i.name ∷ Int i.kind ∷ text_or_null i.title ∷ number_or_null i.current ∷ number_or_null i.former ∷ []

abbrev pub member_row : Member → Row
member_row m = Words m.owner ∷ Int m.ord ∷ Words m.name ∷ []

abbrev pub edition_row : EditionRecord → Row
edition_row e = Int e.number ∷ Words e.owner ∷ Words e.title ∷ Words e.info ∷ Bytes e.body ∷ []

abbrev pub entry_row : EntryRecord → Row
entry_row e = Int e.edition ∷ Int e.ord ∷ Words e.headword ∷ Int e.start ∷ Int e.length ∷ []

abbrev pub kept_row : KeptRecord → Row
kept_row k = Words k.id ∷ Int k.number ∷ Words k.verb ∷ Words k.name ∷ number_or_null k.edition ∷ []

-- the row of a record, behind its rowid
abbrev pub stored_row : {R : Type 0} → (R → Row) → StoredRow R → Row
stored_row encode s = Int s.rowid ∷ encode s.value

-- of a record that was read

abbrev pub stored_mark : StoredRow (typed.Mark.Mark (String Global)) → Row
stored_mark r = stored_row mark_row (stored_row_as owned_mark r)

abbrev pub stored_item : StoredRow (typed.ItemRecord.ItemRecord (String Global)) → Row
stored_item r = stored_row item_row (stored_row_as owned_item r)

abbrev pub stored_member : StoredRow (typed.Member.Member (String Global)) → Row
stored_member r = stored_row member_row (stored_row_as owned_member r)

abbrev pub stored_edition : StoredRow (typed.EditionRecord.EditionRecord (String Global) (Vec ℕ Global)) → Row
stored_edition r = stored_row edition_row (stored_row_as owned_edition r)

abbrev pub stored_entry : StoredRow (typed.EntryRecord.EntryRecord (String Global)) → Row
stored_entry r = stored_row entry_row (stored_row_as owned_entry r)

abbrev pub stored_kept : StoredRow (typed.KeptRecord.KeptRecord (String Global)) → Row
stored_kept r = stored_row kept_row (stored_row_as owned_kept r)

abbrev pub stored_number : StoredRow EditionNumber → Row
stored_number r = stored_row (λ (e : EditionNumber). Int e.number ∷ []) r
