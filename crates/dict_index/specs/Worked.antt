-- A small database, worked by hand: its two files, and what they say.
use Rattle.std.specs.Prelude.{ℕ, List, [], ◌∷◌, codes}
use Rattle.dict_index.specs.Line.{Line}
use Rattle.dict_index.specs.Edition.{ReadEdition}

abbrev pub worked_index : List ℕ
worked_index = codes "00-database-short\tA\tZ\nopal\tZ\tP\nFire Opal\tZ\tP\ndot\to\tF\n"

abbrev pub worked_text : List ℕ
worked_text = codes "00-database-short\n  Gems\nopal\n  a stone\n.dot\n"

abbrev pub opal : Line
opal = record { headword = codes "opal"; offset = 25; size = 15; shown = codes "opal" }

abbrev pub fire_opal : Line
fire_opal = record { headword = codes "Fire Opal"; offset = 25; size = 15; shown = codes "Fire Opal" }

abbrev pub dot : Line
dot = record { headword = codes "dot"; offset = 40; size = 5; shown = codes "dot" }

abbrev pub worked_reading : ReadEdition
worked_reading = record { title = codes "Gems"; info = []; text = worked_text; lines = opal ∷ fire_opal ∷ dot ∷ [] }
