use Rattle.std.proofs.Common.{◌-◌}
use Rattle.store_pieces.proofs.PieceLemmas.{IsSought}
use Rattle.store_pieces.proofs.pieces.place_of.Given as goal

abbrev pub invariant-loop-low : goal.invariant-loop-low
invariant-loop-low l = IsSought l.texts l.wanted l.low l.high

abbrev pub decreases-loop-low : goal.decreases-loop-low
decreases-loop-low l = l.high - l.low
