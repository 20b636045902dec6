-- The same records under the mark of another version.
use Rattle.std.proofs.Common.{ℕ, pos, List, map, ap}
use Rattle.dict_text.proofs.AllLemmas.{all_weaker}
use Rattle.store_tables.specs.Records as spec
use Rattle.dict_index.specs.Edition.{Edition}
use Rattle.dict_catalogue.specs.Items.{Stored, Item, name_of, editions_of}
use Rattle.dict_catalogue.specs.Steps.{Catalogue}
use Rattle.store_rows.specs.Tables.{Tables}
use Rattle.store_rows.specs.Stands.{HoldsEdition, HoldsEditions, Stands}
use Rattle.store_holdings.specs.AllTables.{as_version}

edition_same : (new : ℕ) (t : Tables) (owner : List ℕ) (stored : Stored Edition) → HoldsEdition t owner stored → HoldsEdition (as_version new t) owner stored
edition_same new t owner stored h = record { reading = h.reading; says = h.says; short = h.short; within = h.within; row = h.row; entries = h.entries }

item_same : (new : ℕ) (t : Tables) (item : Item Edition) → HoldsEditions t item → HoldsEditions (as_version new t) item
item_same new t item h = all_weaker (HoldsEdition t (name_of item)) (HoldsEdition (as_version new t) (name_of item)) (edition_same new t (name_of item)) (editions_of item) h

pub same_stands : (old new : ℕ) (t : Tables) (M : Catalogue) → Stands old t M → Stands new (as_version new t) M
same_stands old new t M s = record {
  well_formed = s.well_formed;
  marks = ap (map (λ (mark : spec.Mark). record mark { version = pos new })) s.marks;
  items = s.items;
  members = s.members;
  owners = s.owners;
  editions = all_weaker (HoldsEditions t) (HoldsEditions (as_version new t)) (item_same new t) M.items s.editions;
  numbers = s.numbers;
  entries = s.entries;
  kept = s.kept;
}
