use Rattle.std.proofs.Common.{sym, ◌∙◌, arith}
use Rattle.std.proofs.lemmas.Grind.{common_steps}
use Rattle.std.proofs.lemmas.Slice.Eq.{bytes_eq-Decides}
use Rattle.dict_match.proofs.StrategyLemmas.{named_only, one_name}
use Rattle.dict_match.proofs.strategy.Strategy.by_name.Goals as goal

pub returns-then-eq-clause-only : goal.returns-then-eq-clause-only
returns-then-eq-clause-only c t =
    let is_name = (bytes_eq-Decides c.name.result.now c.args.name.now).0 (sym c.eq.ensures ∙ c.if-eq.true) in
    one_name c.args.name.now _ t (sym is_name ∙ c.name.ensures)

pub returns-clause-only : goal.returns-clause-only
returns-clause-only c = named_only c.args.name.now _ (grind (arith, common_steps))
