use Rattle.store_pieces.specs.Grouped.{GoesOnGrouping}
use Rattle.store_pieces.specs.Wording.{words_with_places}
use Rattle.store_pieces.proofs.wording.group_more.Given as goal

abbrev pub invariant-loop-k : goal.invariant-loop-k
invariant-loop-k l = GoesOnGrouping (words_with_places l.fn.grouped.found l.places.items l.order.items) l.k l.texts l.lists
