use Rattle.std.proofs.Common.{◌≡◌, map, take}
use Rattle.serde_json.specs.Data.{string}
use Rattle.serde_json.specs.View.{view}
use Rattle.dict_catalogue.specs.Views.{names_shown}
use Rattle.http_service.proofs.bodies.texts_of.Given as goal

-- the items so far are these texts
abbrev pub invariant-loop-item : goal.invariant-loop-item
invariant-loop-item l = map view (take l.item-index l.items) ≡ map string (names_shown l.texts.items)
