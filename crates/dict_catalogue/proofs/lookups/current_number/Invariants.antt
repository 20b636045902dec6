-- the items so far don't have the name
use Rattle.std.proofs.Common.{◌≡◌, drop}
use Rattle.std.specs.Prelude.{map}
use Rattle.dict_catalogue.specs.Items.{current_number}
use Rattle.dict_catalogue.specs.Views.{item_shown}
use Rattle.dict_catalogue.proofs.lookups.current_number.Given as goal

abbrev pub invariant-loop-item : goal.invariant-loop-item
invariant-loop-item l = current_number (map item_shown l.items) l.name ≡ current_number (map item_shown (drop l.item-index l.items)) l.name
