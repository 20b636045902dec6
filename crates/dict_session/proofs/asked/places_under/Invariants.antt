use Rattle.std.proofs.Common.{◌≡◌, map, drop}
use Rattle.dict_catalogue.specs.Views.{item_shown}
use Rattle.dict_session.specs.Places.{places_under}
use Rattle.dict_session.proofs.asked.places_under.Given as goal

abbrev pub invariant-loop-place : goal.invariant-loop-place
invariant-loop-place l = places_under (map item_shown l.items) l.name l.place (drop l.place (map item_shown l.items)) ≡ places_under (map item_shown l.items) l.name 0 (map item_shown l.items)
