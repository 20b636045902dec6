-- the items so far await it not
use Rattle.std.proofs.Common.{◌≡◌, drop}
use Rattle.std.specs.Prelude.{map}
use Rattle.std.specs.List.{list_any}
use Rattle.dict_catalogue.specs.Views.{item_shown}
use Rattle.store_rows.specs.Titles.{awaits}
use Rattle.store_rows.proofs.titles.place_of.Given as goal

abbrev pub invariant-loop-place : goal.invariant-loop-place
invariant-loop-place l = list_any (awaits l.owner l.number) (map item_shown l.items) ≡ list_any (awaits l.owner l.number) (map item_shown (drop l.place l.items))
