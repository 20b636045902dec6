use Rattle.std.proofs.Common.{◌≡◌, map, reverse, take}
use Rattle.store_places.proofs.order.reversed_texts.Given as goal

abbrev pub invariant-loop-at : goal.invariant-loop-at
invariant-loop-at l = l.all ≡ map reverse (take l.at l.texts)
