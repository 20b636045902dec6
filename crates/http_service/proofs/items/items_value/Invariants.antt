use Rattle.std.proofs.Common.{◌≡◌, map, take}
use Rattle.serde_json.specs.View.{view}
use Rattle.dict_catalogue.specs.Views.{item_shown}
use Rattle.http_service.specs.Values.{item_value}
use Rattle.http_service.proofs.items.items_value.Given as goal

-- the values of the items so far
abbrev pub invariant-loop-item : goal.invariant-loop-item
invariant-loop-item l = map view l.values.items ≡ map (λ item. item_value (item_shown item)) (take l.item-index l.items)
