-- What a file holds of which all rows were read.
use Rattle.std.proofs.Common.{◌≡◌, ℕ, List}
use Rattle.sqlite.specs.Effect.{Database}
use Rattle.dict_catalogue.specs.Steps.{Catalogue, summary_of}
use Rattle.dict_catalogue.specs.Tests.{Holdings}
use Rattle.store_tables.specs.Records.{Part}
use Rattle.store_rows.specs.Stands.{Stands}
use Rattle.store_rows.specs.Taken.{HasTaken}
use Rattle.store_rows.proofs.StrayLemmas.{numbers_taken}
use Rattle.store_rows.specs.Tables.{Tables}
use Rattle.store_rows.specs.Versions.{layout_of}
use Rattle.store_rows.specs.declared.reader.Reader.{Reader}
use Rattle.store_holdings.specs.Holds.{Holds, HasLayout, HoldsNoneAs}
use Rattle.store_tables.specs.Effects.{HasApartRowids, rows_of}
use Rattle.store_holdings.specs.AllTables.{with_derived}
use Rattle.store_sql.specs.Readings.{TableReading, KeepsRows, KeepsAll, table_name_of}
use Rattle.store_opening.specs.Opens.{HasAll, HasSummary, HasOthersApart, HasRows}
use Rattle.store_opening.proofs.OrphanLemmas.{are_orphans}

-- ---- all rows

pub has_summary : (version : ℕ) (db : Database) (reader : Reader) (front after : Tables) → HasTaken version reader front → HasAll version db reader front after → (M : Catalogue) → Stands version after M → (holdings : Holdings (List ℕ))
    → summary_of M ≡ holdings → HasSummary version db holdings
has_summary version db reader front after h a M s holdings is = record {
  catalogue = M;
  tables = after;
  orphans = a.orphans;
  keeps = a.keeps;
  apart = (a.known.editions.apart, (a.known.contents.apart, tt));
  shown = a.shown;
  stands = s;
  beside = are_orphans version reader M a.orphans (numbers_taken version reader front after M h a.goes s) a.unknown a.later;
  summary = is;
}

-- ---- so it holds a catalogue

keeps_rows : (db : Database) (orphans : List Part) (tables : Tables) (r : TableReading) → HasRows db orphans tables r → HasApartRowids (rows_of (table_name_of r) db) → KeepsRows r db (with_derived orphans tables)
keeps_rows db orphans tables r rows apart = record { rows = rows; apart = apart }

pub holds_of : (version : ℕ) (db : Database) (holdings : Holdings (List ℕ)) → HasLayout (layout_of version) db.schema → HasOthersApart db → HasSummary version db holdings → (M : Catalogue) × Holds version db M × (summary_of M ≡ holdings)
holds_of version db holdings own apart s =
    let k = s.keeps in
    let keep = keeps_rows db s.orphans s.tables in
    let keeps : KeepsAll (layout_of version) db (with_derived s.orphans s.tables) =
    (keep _ k.0 apart.0.0, (keep _ k.1.0 apart.0.1, (keep _ k.1.1.0 apart.0.2, (keep _ k.1.1.1.0 apart.1, (keep _ k.1.1.1.1.0 s.apart.0, (keep _ k.1.1.1.1.1.0 s.apart.1.0, tt)))))) in
    (s.catalogue, record { own = own; tables = s.tables; orphans = s.orphans; keeps = keeps; shown = s.shown; stands = s.stands; apart = s.beside }, s.summary)

-- a schema without the tables, or without room for the later one, is that of no such database
pub none_without : (version : ℕ) (db : Database) → (HasLayout (layout_of version) db.schema → ⊥) → HoldsNoneAs version db
none_without version db none M h = none h.own

pub others_apart : (version : ℕ) (db : Database) (M : Catalogue) → Holds version db M → HasOthersApart db
others_apart version db M h = ((h.keeps.0.apart, h.keeps.1.0.apart, h.keeps.1.1.0.apart), h.keeps.1.1.1.0.apart)
