use Rattle.std.proofs.Common.{◌≡◌, ◌≤◌, ◌++◌, length, map, drop}
use Rattle.std.specs.List.{flat_map}
use Rattle.dict_catalogue.specs.Views.{item_shown, texts_shown}
use Rattle.dict_session.specs.Places.{places_named}
use Rattle.dict_session.proofs.asked.member_places.Given as goal

abbrev pub invariant-loop-member : goal.invariant-loop-member
invariant-loop-member l = length (flat_map (places_named (map item_shown l.items)) (texts_shown l.members)) ≤ 64
    → l.places.items ++ flat_map (places_named (map item_shown l.items)) (drop l.member-index (texts_shown l.members)) ≡ flat_map (places_named (map item_shown l.items)) (texts_shown l.members)
