-- what was made so far
use Rattle.std.proofs.Common.{◌≡◌, take}
use Rattle.std.specs.Prelude.{map}
use Rattle.dict_catalogue.specs.Effects.{changed_in_place}
use Rattle.dict_catalogue.specs.Views.{item_shown, command_shown}
use Rattle.dict_catalogue.proofs.effects.changed_in_place.Given as goal

abbrev pub invariant-loop-item : goal.invariant-loop-item
invariant-loop-item l = map item_shown l.after.items ≡ changed_in_place l.number (command_shown l.command) (map item_shown (take l.item-index l.items))
