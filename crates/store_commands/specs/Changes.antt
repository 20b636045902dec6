-- What each part of a command's change makes of the records.
use Rattle.std.specs.Prelude.{ℕ, ◌≤◌, not, List, [], ◌∷◌, ◌++◌, filter, Option, Some, None, IfSome, option_map}
use Rattle.std.specs.List.{AllByRecursion}
use Rattle.dict_catalogue.specs.Items.{Item, numbers_of, edition_numbers}
use Rattle.dict_catalogue.specs.Steps.{KeptFor}
use Rattle.dict_catalogue.specs.Tests.{Holdings}
use Rattle.dict_catalogue.specs.Views.{item_shown, summary_shown, kept_shown}
use Rattle.dict_catalogue.specs.declared.commands.Command.{Command}
use Rattle.dict_catalogue.specs.declared.commands.Command.TheVariants.{Install, Rollback, Retire, PutVirtual, Place}
use Rattle.dict_catalogue.specs.declared.planning.PlannedChange.{PlannedChange as Planned}
use Rattle.store_tables.specs.Records.{ItemRecord, Member, EditionRecord, HeaderRecord, Part, header_of}
use Rattle.store_holdings.specs.Files.{installed_parts}
use Rattle.store_holdings.specs.AllTables.{AllTables, beside_installed}
use Rattle.store_rows.specs.Stored.{stored_index}
use Rattle.store_rows.specs.Written.{numbered, mark_record, item_record, edition_record, kept_record}
use Rattle.store_rows.specs.After.{Installed, TableChange, all_members, is_gone, installed_editions}
use Rattle.store_rows.specs.Versions.{known}
use Rattle.store_commands.specs.KeptRecords.{FitsColumn, AreStorable}

-- a table is empty
abbrev pub without_items : AllTables → AllTables
without_items all = record all { items = [] }

abbrev pub without_members : AllTables → AllTables
without_members all = record all { members = [] }

-- records that come last in their table
abbrev pub with_more_items : List ItemRecord → AllTables → AllTables
with_more_items more all = record all { items = all.items ++ more }

abbrev pub with_more_members : List Member → AllTables → AllTables
with_more_members more all = record all { members = all.members ++ more }

abbrev pub with_more_editions : List EditionRecord → AllTables → AllTables
with_more_editions more all = record all { editions = all.editions ++ more }

abbrev pub with_more_parts : List Part → AllTables → AllTables
with_more_parts more all = record all { parts = all.parts ++ more }

-- without the parts of these editions
abbrev pub without_parts : List ℕ → AllTables → AllTables
without_parts gone all = record all { parts = filter (λ row. not (is_gone gone row.edition)) all.parts }

-- without the records and the entries of these editions; their parts are left, of no edition then
abbrev pub without_editions : List ℕ → AllTables → AllTables
without_editions gone all = record all { editions = filter (λ row. not (is_gone gone row.number)) all.editions; entries = filter (λ row. not (is_gone gone row.edition)) all.entries }

-- with these parts in place of those under a number
abbrev pub with_parts_anew : ℕ → List Part → AllTables → AllTables
with_parts_anew number parts all = with_more_parts parts (without_parts (number ∷ []) all)

-- with the parts of the edition that is installed, where there is one, in place of those under its number
abbrev pub with_files : Option Installed → AllTables → AllTables
with_files edition all = record all { parts = beside_installed edition all.parts ++ installed_parts edition }

-- the mark, the items and the members written anew
abbrev pub with_mark : ℕ → AllTables → AllTables
with_mark installs all = record all { marks = mark_record known installs ∷ [] }

abbrev pub with_items : {A : Type 0} → List (Item A) → AllTables → AllTables
with_items items all = record all { items = numbered item_record 0 items }

abbrev pub with_members : {A : Type 0} → List (Item A) → AllTables → AllTables
with_members items all = record all { members = all_members items }

-- with one reply more
abbrev pub with_reply : KeptFor → AllTables → AllTables
with_reply kept all = record all { kept = all.kept ++ kept_record kept ∷ [] }

-- what the statements behind those of the parts make of the records
abbrev pub finished : TableChange → AllTables → AllTables
finished change all =
    with_reply change.kept
    (with_more_editions (installed_editions change.edition)
    (without_editions change.gone (with_members change.summary.items (with_items change.summary.items (with_mark change.summary.installs all)))))

-- the record of the edition that is installed, without its text
abbrev pub installed_header : Option Installed → Option HeaderRecord
installed_header edition = option_map (λ new. header_of (edition_record new.owner new.number new.reading)) edition

-- the edition that a command installs, under this number
abbrev pub installed_by : ℕ → Command → Option Installed
installed_by number (Install name edition) = Some (record { owner = name.now; number = number; reading = edition.now })
installed_by number (Rollback name) = None
installed_by number (Retire name) = None
installed_by number (PutVirtual name title members) = None
installed_by number (Place name at) = None

-- the octets of the index of the edition that a command installs
abbrev pub index_by : Command → List ℕ
index_by (Install name edition) = stored_index edition.now.lines
index_by (Rollback name) = []
index_by (Retire name) = []
index_by (PutVirtual name title members) = []
index_by (Place name at) = []

-- what is written where a command was planned so, and this edition is installed
abbrev pub change_with : List ℕ → Option Installed → Planned → TableChange
change_with id edition planned = record {
  summary = summary_shown planned.summary;
  gone = planned.gone.items;
  edition = edition;
  kept = record { id = id; reply = kept_shown planned.kept };
}

abbrev pub change_by : List ℕ → Command → Planned → TableChange
change_by id command planned = change_with id (installed_by planned.summary.installs command) planned

-- the numbers of what was planned can be held by the tables
pub record IsWritable (planned : Planned) : Type 0 where
  pub installs : FitsColumn planned.summary.installs
  pub items : AllByRecursion (λ item. AreStorable (numbers_of (item_shown item))) planned.summary.items.items
  pub gone : AreStorable planned.gone.items
  pub number : FitsColumn planned.kept.number
  pub edition : IfSome planned.kept.edition FitsColumn

-- each edition of a summary has a number that an install made
abbrev pub IsInRange : Holdings (List ℕ) → Type 0
IsInRange summary = AllByRecursion (λ number. number ≤ summary.installs) (edition_numbers summary.items)
