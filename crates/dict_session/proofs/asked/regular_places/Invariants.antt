use Rattle.std.proofs.Common.{◌≡◌, ◌≤◌, ◌++◌, length, map, drop}
use Rattle.dict_catalogue.specs.Items.{is_regular}
use Rattle.dict_catalogue.specs.Views.{item_shown}
use Rattle.dict_session.specs.Places.{places_from}
use Rattle.dict_session.proofs.asked.regular_places.Given as goal

abbrev pub invariant-loop-place : goal.invariant-loop-place
invariant-loop-place l = length (places_from is_regular 0 (map item_shown l.items)) ≤ 64
    → l.places.items ++ places_from is_regular l.place (drop l.place (map item_shown l.items)) ≡ places_from is_regular 0 (map item_shown l.items)
