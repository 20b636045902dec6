-- the elements so far don't settle it
use Rattle.std.proofs.Common.{◌≡◌, drop}
use Rattle.std.specs.Prelude.{map}
use Rattle.std.specs.List.{list_all}
use Rattle.dict_catalogue.specs.Views.{item_shown}
use Rattle.store_rows.specs.Tests.{has_known_members}
use Rattle.store_rows.proofs.lawful.have_known_members.Given as goal

abbrev pub invariant-loop-item : goal.invariant-loop-item
invariant-loop-item l = list_all (has_known_members (map item_shown l.items)) (map item_shown l.items) ≡ list_all (has_known_members (map item_shown l.items)) (map item_shown (drop l.item-index l.items))
