-- what was made so far
use Rattle.std.proofs.Common.{◌≡◌, take}
use Rattle.std.specs.Prelude.{map, filter}
use Rattle.dict_catalogue.specs.Items.{is_named}
use Rattle.dict_catalogue.specs.Views.{item_shown}
use Rattle.dict_catalogue.proofs.effects.items_named.Given as goal

abbrev pub invariant-loop-item : goal.invariant-loop-item
invariant-loop-item l = map item_shown l.named.items ≡ filter (is_named l.name) (map item_shown (take l.item-index l.items))
