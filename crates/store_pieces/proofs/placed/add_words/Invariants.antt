use Rattle.std.proofs.Common.{◌≡◌, ◌++◌, map}
use Rattle.dict_match.specs.Words.{words_between_blanks}
use Rattle.store_pieces.specs.Pieces.{placed_at}
use Rattle.store_pieces.specs.PlacedPieces.{words_placed}
use Rattle.store_pieces.proofs.placed.add_words.Given as goal

-- what was put behind the list, and what is left, are the words of the key
abbrev pub invariant-loop-word : goal.invariant-loop-word
invariant-loop-word l =
    (goal.iterator-loop-word).can_next l.word-iterator × (goal.iterator-loop-word).is_finite l.word-iterator
    × (words_placed l.list.items ++ map (placed_at l.place) l.word-iterator ≡ words_placed l.fn.list.items ++ map (placed_at l.place) (words_between_blanks l.key))
