use Rattle.std.proofs.Common.{◌≡◌, length, take}
use Rattle.std.specs.List.{zip}
use Rattle.dict_match.specs.Words.{words_between_blanks}
use Rattle.store_pieces.specs.Pieces.{occurrences_from}
use Rattle.store_pieces.proofs.wording.take_more.Given as goal

-- the lists have what stands in the keys so far
abbrev pub invariant-loop-at : goal.invariant-loop-at
invariant-loop-at l = record {
  same : length l.found ≡ length l.places.items;
  are : zip l.found l.places.items ≡ occurrences_from words_between_blanks 0 (take l.at l.keys);
}
