use Rattle.std.specs.List.Sorted.{IsStrictlyIncreasing}
use Rattle.store_pieces.proofs.CommonLemmas.{GoesOn}
use Rattle.store_pieces.proofs.common.common_places.Given as goal

abbrev pub invariant-loop-place : goal.invariant-loop-place
invariant-loop-place l = IsStrictlyIncreasing l.fewer → IsStrictlyIncreasing l.more → GoesOn l.fewer l.more l.place-index l.rest l.both.items
