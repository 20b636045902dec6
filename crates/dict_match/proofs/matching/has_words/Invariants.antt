use Rattle.std.proofs.Common.{◌↔◌, length}
use Rattle.dict_match.specs.Words.{words_between_blanks}
use Rattle.dict_match.specs.Matching.{HasWords}
use Rattle.dict_match.proofs.matching.has_words.Given as goal

abbrev pub invariant-loop-rest : goal.invariant-loop-rest
invariant-loop-rest l = HasWords (words_between_blanks l.rest) (words_between_blanks l.query) ↔ HasWords (words_between_blanks l.key) (words_between_blanks l.query)

abbrev pub decreases-loop-rest : goal.decreases-loop-rest
decreases-loop-rest l = length (words_between_blanks l.rest)
