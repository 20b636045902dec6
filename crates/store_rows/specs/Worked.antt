-- A small catalogue and its records, worked by hand: the databases `ore` and `gem`, and the virtual database `all`.
use Rattle.std.specs.Prelude.{pos, [], ◌∷◌, codes, Some, None}
use Rattle.dict_index.specs.Edition.{ReadEdition, edition_of}
use Rattle.dict_index.specs.Worked.{worked_reading}
use Rattle.dict_catalogue.specs.Items.{regular, virtual}
use Rattle.dict_catalogue.specs.Steps.{Catalogue}
use Rattle.dict_catalogue.specs.declared.reply.Verb.TheVariants.{Install, Virtual}
use Rattle.store_rows.specs.Tables.{Tables}

abbrev pub ore_reading : ReadEdition
ore_reading = record { title = codes "Ores"; info = []; text = codes "00-database-short\nOres\niron\n  ore\n"; lines = record { headword = codes "iron"; offset = 23; size = 11; shown = codes "iron" } ∷ [] }

-- the first command installed `ore`, the second `gem`, and the third put `all`
abbrev pub commanded_catalogue : Catalogue
commanded_catalogue = record {
  items = regular (codes "ore") (record { number = 1; content = edition_of ore_reading }) None
      ∷ regular (codes "gem") (record { number = 2; content = edition_of worked_reading }) None
      ∷ virtual (codes "all") (codes "All") (codes "ore" ∷ codes "gem" ∷ []) ∷ [];
  kept = record { id = codes "r1"; reply = record { number = 1; verb = Install; name = codes "ore"; edition = Some 1 } }
      ∷ record { id = codes "r2"; reply = record { number = 2; verb = Install; name = codes "gem"; edition = Some 2 } }
      ∷ record { id = codes "r3"; reply = record { number = 3; verb = Virtual; name = codes "all"; edition = None } } ∷ [];
  installs = 2;
}

abbrev pub worked_tables : Tables
worked_tables = record {
  marks = record { id = pos 1; magic = codes "dictcat"; version = pos 1; installs = pos 2 } ∷ [];
  items = record { place = pos 0; name = codes "ore"; kind = pos 0; title = None; current = Some (pos 1); former = None }
      ∷ record { place = pos 1; name = codes "gem"; kind = pos 0; title = None; current = Some (pos 2); former = None }
      ∷ record { place = pos 2; name = codes "all"; kind = pos 1; title = Some (codes "All"); current = None; former = None } ∷ [];
  members = record { owner = codes "all"; ord = pos 0; name = codes "ore" } ∷ record { owner = codes "all"; ord = pos 1; name = codes "gem" } ∷ [];
  editions = record { number = pos 1; owner = codes "ore"; title = codes "Ores"; info = []; body = codes "00-database-short\nOres\niron\n  ore\n" }
      ∷ record { number = pos 2; owner = codes "gem"; title = codes "Gems"; info = []; body = codes "00-database-short\n  Gems\nopal\n  a stone\n.dot\n" } ∷ [];
  entries = record { edition = pos 1; ord = pos 0; headword = codes "iron"; start = pos 23; length = pos 11; shown = codes "iron" }
      ∷ record { edition = pos 2; ord = pos 0; headword = codes "opal"; start = pos 25; length = pos 15; shown = codes "opal" }
      ∷ record { edition = pos 2; ord = pos 1; headword = codes "Fire Opal"; start = pos 25; length = pos 15; shown = codes "Fire Opal" }
      ∷ record { edition = pos 2; ord = pos 2; headword = codes "dot"; start = pos 40; length = pos 5; shown = codes "dot" } ∷ [];
  kept = record { id = codes "r1"; number = pos 1; verb = codes "install"; name = codes "ore"; edition = Some (pos 1) }
      ∷ record { id = codes "r2"; number = pos 2; verb = codes "install"; name = codes "gem"; edition = Some (pos 2) }
      ∷ record { id = codes "r3"; number = pos 3; verb = codes "virtual"; name = codes "all"; edition = None } ∷ [];
}
