use Rattle.std.proofs.Common.{sym, ◌∙◌, arith}
use Rattle.dict_match.proofs.MatchLemmas.{drop_past, drop_next}
use Rattle.dict_match.proofs.matching.without_words.Goals as goal

pub returns-in-None : goal.returns-in-None
returns-in-None c =
    c.in-None.ensures ∙ sym (drop_past _ c.loop.counter c.args.count (sym c.loop.invariant ∙ c.in-None.ensures) (omega arith))

pub loop-preserved : goal.loop-preserved
loop-preserved c = sym (drop_next _ c.loop.counter _ _ (sym c.loop.invariant ∙ c.in-Some.ensures))
