use Rattle.dict_match.specs.Words.{words_between_blanks}
use Rattle.dict_match.proofs.MatchLemmas.{AgreeSoFar}
use Rattle.dict_match.proofs.matching.begins_with_words.Given as goal

abbrev pub invariant-loop-word : goal.invariant-loop-word
invariant-loop-word l =
    (goal.iterator-loop-word).can_next l.word-iterator × (goal.iterator-loop-word).is_finite l.word-iterator
    × AgreeSoFar (words_between_blanks l.key) (words_between_blanks l.query) l.rest l.word-iterator
