-- the elements so far don't settle it
use Rattle.std.proofs.Common.{◌≡◌, drop}
use Rattle.std.specs.Prelude.{map}
use Rattle.dict_catalogue.specs.Views.{item_shown}
use Rattle.store_rows.specs.Tests.{has_names_once}
use Rattle.store_rows.proofs.lawful.has_names_once.Given as goal

abbrev pub invariant-loop-index : goal.invariant-loop-index
invariant-loop-index l = has_names_once (map item_shown l.items) ≡ has_names_once (map item_shown (drop l.index l.items))
