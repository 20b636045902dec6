use Rattle.std.proofs.Common.{◌≡◌, map, reverse, take}
use Rattle.store_places.proofs.sorting.turn_more.Given as goal

abbrev pub invariant-loop-at : goal.invariant-loop-at
invariant-loop-at l = l.turned ≡ map reverse (take l.at l.texts)
