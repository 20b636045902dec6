use Rattle.std.proofs.Common.{take}
use Rattle.std.specs.List.Sorted.{IsSorted}
use Rattle.store_places.specs.Orders.{place_cmp}
use Rattle.store_places.proofs.order.are_in_order.Given as goal

abbrev pub invariant-loop-at : goal.invariant-loop-at
invariant-loop-at l = IsSorted (place_cmp l.texts) (take l.from l.places) → IsSorted (place_cmp l.texts) (take l.at l.places)
