use Rattle.std.proofs.Common.{inl, arith}
use Rattle.dict_match.proofs.matching.count_words.Goals as goal

pub count-requires-clause-fits : goal.count-requires-clause-fits
count-requires-clause-fits c = inl (omega (arith, c.words.ensures.len))
