-- the items so far don't settle it
use Rattle.std.proofs.Common.{◌≡◌, drop}
use Rattle.std.specs.Prelude.{map}
use Rattle.dict_catalogue.specs.Items.{names_former}
use Rattle.dict_catalogue.specs.Views.{item_shown}
use Rattle.dict_catalogue.proofs.lookups.names_former.Given as goal

abbrev pub invariant-loop-item : goal.invariant-loop-item
invariant-loop-item l = names_former (map item_shown l.items) l.name ≡ names_former (map item_shown (drop l.item-index l.items)) l.name
