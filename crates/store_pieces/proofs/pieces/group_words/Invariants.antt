use Rattle.store_pieces.specs.PlacedPieces.{words_placed}
use Rattle.store_pieces.specs.Grouped.{GoesOnGrouping}
use Rattle.store_pieces.proofs.pieces.group_words.Given as goal

abbrev pub invariant-loop-one : goal.invariant-loop-one
invariant-loop-one l = GoesOnGrouping (words_placed l.placed) l.one-index l.texts l.lists
