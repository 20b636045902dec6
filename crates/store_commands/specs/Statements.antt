-- The statements of a command that acts, in their order.
use Rattle.std.specs.Prelude.{ℕ, ℤ, pos, true, List, [], ◌∷◌, ◌++◌, codes, map, flat_map, Option, Some, None}
use Rattle.store_tables.specs.Tables.{table_of}
use Rattle.store_tables.specs.declared.tables.StoreTable.{StoreTable}
use Rattle.store_tables.specs.declared.tables.StoreTable.TheVariants as table
use Rattle.store_tables.specs.Effects.{equals_number}
use Rattle.store_sql.specs.Encodings.{mark_row, item_row, member_row, kept_row}
use Rattle.store_sql.specs.Statements.{Statement, add, remove}
use Rattle.store_sql.specs.HeaderRecords.{header_row}
use Rattle.store_sql.specs.PartRecords.{part_row}
use Rattle.store_sql.specs.ChosenParts.{is_part_from}
use Rattle.store_tables.specs.Records.{Mark, ItemRecord, Member, EditionRecord, Part, KeptRecord, header_of}
use Rattle.store_holdings.specs.Files.{installed_parts}
use Rattle.dict_catalogue.specs.Items.{Item}
use Rattle.dict_catalogue.specs.Steps.{KeptFor}
use Rattle.store_rows.specs.Written.{numbered, mark_record, item_record, kept_record}
use Rattle.store_rows.specs.After.{Installed, TableChange, all_members, installed_editions}

-- all records of a table are taken out
abbrev pub clearing : StoreTable → Statement
clearing table = remove (table_of table 0).name (λ _. true)

-- a record is added to its table
abbrev pub adding_mark : Mark → Statement
adding_mark it = add (codes "mark") (mark_row it)

abbrev pub adding_item : ItemRecord → Statement
adding_item it = add (codes "item") (item_row it)

abbrev pub adding_member : Member → Statement
adding_member it = add (codes "member") (member_row it)

-- an edition's has no text: that stands in parts
abbrev pub adding_edition : EditionRecord → Statement
adding_edition it = add (codes "edition") (header_row (header_of it))

abbrev pub adding_part : Part → Statement
adding_part it = add (codes "dictcat_part") (part_row it)

abbrev pub adding_kept : KeptRecord → Statement
adding_kept it = add (codes "kept") (kept_row it)

-- the mark, the items and the members are written anew
abbrev pub mark_anew : ℕ → ℕ → List Statement
mark_anew version installs = clearing table.Mark ∷ adding_mark (mark_record version installs) ∷ []

abbrev pub items_anew : {A : Type 0} → List (Item A) → List Statement
items_anew items = clearing table.Item ∷ map adding_item (numbered item_record 0 items)

abbrev pub members_anew : {A : Type 0} → List (Item A) → List Statement
members_anew items = clearing table.Member ∷ map adding_member (all_members items)

abbrev pub summary_anew : {A : Type 0} → ℕ → ℕ → List (Item A) → List Statement
summary_anew version installs items = mark_anew version installs ++ (items_anew items ++ members_anew items)

-- the rows of the edition of this number are taken out of a table; of one of its files the parts from one on
abbrev pub taking_of : List ℕ → ℕ → Statement
taking_of name number = remove name (equals_number 1 (pos number))

abbrev pub taking_from : ℕ → ℤ × ℤ → Statement
taking_from number bound = remove (codes "dictcat_part") (is_part_from (pos number) bound.0 bound.1)

-- its parts go some at a time: those of a file from each of these on, one after the other, and then the rest
abbrev pub taking_parts : ℕ → List (ℤ × ℤ) → List Statement
taking_parts number parts = map (taking_from number) parts ++ taking_of (codes "dictcat_part") number ∷ []

-- from its last part on a text goes 128 parts, which are 2 MiB, at a time, and then so does an index
abbrev pub last_parts : List (ℤ × ℤ)
last_parts =
    (pos 1, pos 3968) ∷ (pos 1, pos 3840) ∷ (pos 1, pos 3712) ∷ (pos 1, pos 3584) ∷ (pos 1, pos 3456) ∷ (pos 1, pos 3328) ∷ (pos 1, pos 3200) ∷ (pos 1, pos 3072)
    ∷ (pos 1, pos 2944) ∷ (pos 1, pos 2816) ∷ (pos 1, pos 2688) ∷ (pos 1, pos 2560) ∷ (pos 1, pos 2432) ∷ (pos 1, pos 2304) ∷ (pos 1, pos 2176) ∷ (pos 1, pos 2048)
    ∷ (pos 1, pos 1920) ∷ (pos 1, pos 1792) ∷ (pos 1, pos 1664) ∷ (pos 1, pos 1536) ∷ (pos 1, pos 1408) ∷ (pos 1, pos 1280) ∷ (pos 1, pos 1152) ∷ (pos 1, pos 1024)
    ∷ (pos 1, pos 896) ∷ (pos 1, pos 768) ∷ (pos 1, pos 640) ∷ (pos 1, pos 512) ∷ (pos 1, pos 384) ∷ (pos 1, pos 256) ∷ (pos 1, pos 128) ∷ (pos 1, pos 0)
    ∷ (pos 0, pos 896) ∷ (pos 0, pos 768) ∷ (pos 0, pos 640) ∷ (pos 0, pos 512) ∷ (pos 0, pos 384) ∷ (pos 0, pos 256) ∷ (pos 0, pos 128) ∷ []

-- the record of the edition of this number is taken out; its parts are left
abbrev pub taking : ℕ → List Statement
taking number = taking_of (codes "edition") number ∷ []

-- in place of what parts stand under a number these are added
abbrev pub parts_anew : ℕ → List Part → List Statement
parts_anew number parts = taking_parts number last_parts ++ map adding_part parts

-- so are the parts of the edition that is installed, if there is one: those of its index, and then those of its text
abbrev pub filing_of : Option Installed → List Statement
filing_of None = []
filing_of (Some new) = parts_anew new.number (installed_parts (Some new))

-- the reply is kept
abbrev pub replying : KeptFor → List Statement
replying kept = adding_kept (kept_record kept) ∷ []

-- behind what was filed: the summary anew, the editions that go, the record of the edition, and the reply
abbrev pub finishing : ℕ → TableChange → List Statement
finishing version change =
    summary_anew version change.summary.installs change.summary.items
    ++ (flat_map taking change.gone ++ (map adding_edition (installed_editions change.edition) ++ replying change.kept))

-- all of them
abbrev pub statements_of : ℕ → TableChange → List Statement
statements_of version change = filing_of change.edition ++ finishing version change
