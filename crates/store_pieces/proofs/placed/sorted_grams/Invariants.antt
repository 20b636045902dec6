use Rattle.std.proofs.Common.{◌≡◌, take}
use Rattle.store_derived.specs.KeptGrams.{kept_grams}
use Rattle.store_pieces.specs.Pieces.{occurrences_from}
use Rattle.store_pieces.specs.PlacedPieces.{grams_placed}
use Rattle.store_pieces.proofs.placed.sorted_grams.Given as goal

-- the list has what stands in the keys so far
abbrev pub invariant-loop-place : goal.invariant-loop-place
invariant-loop-place l = grams_placed l.runs.items ≡ occurrences_from kept_grams 0 (take l.place l.keys)
