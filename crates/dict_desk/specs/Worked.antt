-- A small catalogue, and what it is asked, worked by hand.
use Rattle.std.specs.Prelude.{ℕ, List, [], ◌∷◌, codes, Some, None}
use Rattle.dict_index.specs.Edition.{Edition, Entry}
use Rattle.dict_catalogue.specs.Items.{regular, virtual}
use Rattle.dict_catalogue.specs.Steps.{Catalogue}
use Rattle.dict_index.specs.Found.{shown_of}
use Rattle.dict_desk.specs.Asked.{Definition, Match}

abbrev pub iron : Entry
iron = record { headword = codes "iron"; shown = codes "iron"; body = codes "iron\n  ore\n" }

abbrev pub opal_entry : Entry
opal_entry = record { headword = codes "opal"; shown = codes "opal"; body = codes "opal\n  a stone\n" }

abbrev pub fire_opal_entry : Entry
fire_opal_entry = record { headword = codes "Fire Opal"; shown = codes "Fire Opal"; body = codes "opal\n  a stone\n" }

abbrev pub dot_entry : Entry
dot_entry = record { headword = codes "dot"; shown = codes "dot"; body = codes ".dot\n" }

abbrev pub dot_again : Entry
dot_again = record { headword = codes "dot"; shown = codes "dot"; body = codes "a dot\n" }

abbrev pub ores : Edition
ores = record { title = codes "Ores"; info = []; entries = iron ∷ [] }

abbrev pub gems : Edition
gems = record { title = codes "Gems"; info = []; entries = opal_entry ∷ fire_opal_entry ∷ dot_entry ∷ [] }

abbrev pub old_gems : Edition
old_gems = record { title = codes "Old"; info = []; entries = opal_entry ∷ dot_entry ∷ opal_entry ∷ dot_again ∷ [] }

-- `ore`, then `gem` with a former edition, then `all`, which lists both in the other order
abbrev pub worked_catalogue : Catalogue
worked_catalogue = record {
  items = regular (codes "ore") (record { number = 3; content = ores }) None
      ∷ regular (codes "gem") (record { number = 2; content = gems }) (Some (record { number = 1; content = old_gems }))
      ∷ virtual (codes "all") (codes "All") (codes "gem" ∷ codes "ore" ∷ []) ∷ [];
  kept = [];
  installs = 3;
}

abbrev pub of_gem : Entry → Definition
of_gem entry = record { name = codes "gem"; title = codes "Gems"; shown = shown_of entry; body = entry.body }

abbrev pub in_gem : List ℕ → Match
in_gem shown = record { name = codes "gem"; shown = shown }

abbrev pub in_ore : List ℕ → Match
in_ore shown = record { name = codes "ore"; shown = shown }
