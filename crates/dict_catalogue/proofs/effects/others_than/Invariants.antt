-- what was made so far
use Rattle.std.proofs.Common.{◌≡◌, take}
use Rattle.std.specs.Prelude.{map}
use Rattle.dict_catalogue.specs.Effects.{others_than}
use Rattle.dict_catalogue.specs.Views.{item_shown}
use Rattle.dict_catalogue.proofs.effects.others_than.Given as goal

abbrev pub invariant-loop-item : goal.invariant-loop-item
invariant-loop-item l = map item_shown l.others.items ≡ others_than l.name (map item_shown (take l.item-index l.items))
