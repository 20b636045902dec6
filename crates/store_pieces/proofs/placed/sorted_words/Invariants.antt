use Rattle.std.proofs.Common.{◌≡◌, take}
use Rattle.dict_match.specs.Words.{words_between_blanks}
use Rattle.store_pieces.specs.Pieces.{occurrences_from}
use Rattle.store_pieces.specs.PlacedPieces.{words_placed}
use Rattle.store_pieces.proofs.placed.sorted_words.Given as goal

-- the list has what stands in the keys so far
abbrev pub invariant-loop-place : goal.invariant-loop-place
invariant-loop-place l = words_placed l.list.items ≡ occurrences_from words_between_blanks 0 (take l.place l.keys)
