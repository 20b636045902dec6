use Rattle.std.proofs.Common.{◌≡◌, map, take}
use Rattle.std.specs.Prelude.{string_bytes}
use Rattle.dict_catalogue.specs.Views.{item_shown}
use Rattle.store_fixtures.specs.Listed.{items_text}
use Rattle.store_fixtures.proofs.showing.listed.Given as goal

abbrev pub invariant-loop-item : goal.invariant-loop-item
invariant-loop-item l = string_bytes l.text ≡ items_text (map item_shown (take l.item-index l.summary.items.items))
