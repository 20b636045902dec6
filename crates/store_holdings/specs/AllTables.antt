-- The records of all tables, with the parts of the files that they stand for; and what a command makes of them.
use Rattle.std.specs.Prelude.{◌≡◌, ℕ, pos, ℤ, false, not, List, [], ◌∷◌, ◌++◌, map, filter, Option, Some, None}
use Rattle.std.specs.List.{AllByRecursion}
pub use Rattle.store_tables.specs.AllTables.{AllTables}
use Rattle.store_tables.specs.Records.{Mark, Part}
use Rattle.store_rows.specs.Tables.{Tables, same_number}
use Rattle.store_rows.specs.Written.{numbered, mark_record, item_record, kept_record}
use Rattle.store_rows.specs.After.{Installed, TableChange, is_gone, installed_editions, installed_entries, all_members}
use Rattle.store_holdings.specs.Files.{all_parts, installed_parts}

-- the records with the parts of their files, behind orphans: parts of no edition
abbrev pub with_derived : List Part → Tables → AllTables
with_derived orphans t = record { marks = t.marks; items = t.items; members = t.members; editions = t.editions; entries = t.entries; parts = orphans ++ all_parts t; kept = t.kept }

-- the same records under the mark of another version
abbrev pub as_version : ℕ → Tables → Tables
as_version version t = record t { marks = map (λ (mark : Mark). record mark { version = pos version }) t.marks }

-- no record has the number
abbrev pub HasNoneOf : ℤ → Tables → Type 0
HasNoneOf number t = AllByRecursion (λ row. same_number row.number number ≡ false) t.editions × AllByRecursion (λ row. same_number row.edition number ≡ false) t.entries

-- ---- what a command does

-- the parts beside those of an edition that is installed: none has its number
abbrev pub beside_installed : Option Installed → List Part → List Part
beside_installed None parts = parts
beside_installed (Some new) parts = filter (λ row. not (is_gone (new.number ∷ []) row.edition)) parts

-- the orphans after a command: those that there were, and the parts of the editions that went
abbrev pub orphans_after : TableChange → List Part → Tables → List Part
orphans_after change orphans old = beside_installed change.edition orphans ++ filter (λ row. is_gone change.gone row.edition) (all_parts old)

-- all records after a command, from those before; the parts of an edition that goes are left, of no edition then
abbrev pub all_after : ℕ → TableChange → AllTables → AllTables
all_after version change old = record {
  marks = mark_record version change.summary.installs ∷ [];
  items = numbered item_record 0 change.summary.items;
  members = all_members change.summary.items;
  editions = filter (λ row. not (is_gone change.gone row.number)) old.editions ++ installed_editions change.edition;
  entries = filter (λ row. not (is_gone change.gone row.edition)) old.entries ++ installed_entries change.edition;
  parts = beside_installed change.edition old.parts ++ installed_parts change.edition;
  kept = old.kept ++ kept_record change.kept ∷ [];
}

-- no record has the number of the edition that is installed
abbrev pub HasNewNumber : Option Installed → Tables → Type 0
HasNewNumber None t = Unit {0}
HasNewNumber (Some new) t = HasNoneOf (pos new.number) t
