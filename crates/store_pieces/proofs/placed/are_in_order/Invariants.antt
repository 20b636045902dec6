use Rattle.std.proofs.Common.{take}
use Rattle.std.specs.List.Sorted.{IsSorted}
use Rattle.store_pieces.specs.PlacedPieces.{gram_cmp}
use Rattle.store_pieces.proofs.placed.are_in_order.Given as goal

abbrev pub invariant-loop-at : goal.invariant-loop-at
invariant-loop-at l = IsSorted gram_cmp (take l.from l.runs) → IsSorted gram_cmp (take l.at l.runs)
