use Rattle.store_pieces.specs.Grouped.{GoesOnGrouping}
use Rattle.store_pieces.specs.PlacedPieces.{grams_placed}
use Rattle.store_pieces.proofs.listing.group_more.Given as goal

abbrev pub invariant-loop-k : goal.invariant-loop-k
invariant-loop-k l = GoesOnGrouping (grams_placed l.placed.items) l.k l.texts l.lists
