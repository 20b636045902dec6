use Rattle.std.proofs.Common.{◌≡◌, ◌≤◌, ◌++◌, length, map, drop}
use Rattle.dict_catalogue.specs.Views.{item_shown}
use Rattle.dict_session.specs.Places.{places_from, is_regular_named}
use Rattle.dict_session.proofs.asked.add_named.Given as goal

abbrev pub invariant-loop-place : goal.invariant-loop-place
invariant-loop-place l = length (l.initial.places.items ++ places_from (is_regular_named l.name) 0 (map item_shown l.items)) ≤ 64
    → l.places.items ++ places_from (is_regular_named l.name) l.place (drop l.place (map item_shown l.items)) ≡ l.initial.places.items ++ places_from (is_regular_named l.name) 0 (map item_shown l.items)
