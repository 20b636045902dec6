use Rattle.store_pieces.specs.PlacedPieces.{grams_placed}
use Rattle.store_pieces.specs.Grouped.{GoesOnGrouping}
use Rattle.store_pieces.proofs.pieces.group_grams.Given as goal

abbrev pub invariant-loop-one : goal.invariant-loop-one
invariant-loop-one l = GoesOnGrouping (grams_placed l.placed) l.one-index l.texts l.lists
