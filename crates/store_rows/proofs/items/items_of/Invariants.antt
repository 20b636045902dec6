-- the items so far
use Rattle.std.proofs.Common.{◌≡◌, take, length}
use Rattle.std.specs.Prelude.{map}
use Rattle.dict_catalogue.specs.Views.{item_shown}
use Rattle.store_rows.specs.Given.{items_given, members_given, AreRead}
use Rattle.store_rows.proofs.items.items_of.Given as goal

abbrev pub invariant-loop-place : goal.invariant-loop-place
invariant-loop-place l = record {
  read : AreRead 0 (items_given (take l.place l.rows)) (members_given l.members) (map item_shown l.items.items);
  many : length (map item_shown l.items.items) ≡ l.place;
}
