use Rattle.std.proofs.Common.{◌≡◌, ◌++◌, map, length}
use Rattle.std.specs.List.{zip}
use Rattle.dict_match.specs.Words.{words_between_blanks}
use Rattle.store_pieces.specs.Pieces.{placed_at}
use Rattle.store_pieces.proofs.wording.put_words.Given as goal

-- what was put behind the others, and what is left, are the words of the key
abbrev pub invariant-loop-word : goal.invariant-loop-word
invariant-loop-word l =
    (goal.iterator-loop-word).can_next l.word-iterator × (goal.iterator-loop-word).is_finite l.word-iterator
    × (length l.found ≡ length l.places.items)
    × (zip l.found l.places.items ++ map (placed_at l.place) l.word-iterator ≡ zip l.fn.found l.fn.places.items ++ map (placed_at l.place) (words_between_blanks l.key))
