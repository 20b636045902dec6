use Rattle.std.proofs.Common.{◌≡◌, ◌-◌, drop}
use Rattle.store_pieces.specs.Selected.{has_gram}
use Rattle.store_pieces.proofs.grams.has_gram.Given as goal

-- the run is none of those that end before here
abbrev pub invariant-loop-end : goal.invariant-loop-end
invariant-loop-end l = has_gram l.gram (drop (l.end - 3) l.key) ≡ has_gram l.gram l.key
