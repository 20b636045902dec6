use Rattle.std.proofs.Common.{◌≡◌, drop}
use Rattle.dict_match.specs.Words.{words_between_blanks}
use Rattle.dict_match.proofs.matching.without_words.Given as goal

abbrev pub invariant-loop : goal.invariant-loop
invariant-loop l = words_between_blanks l.rest ≡ drop l.counter (words_between_blanks l.key)
