use Rattle.std.proofs.Common.{Some, cond, sym, ap, ◌∙◌}
use Rattle.dict_match.specs.StrategyText.{strategy_named}
use Rattle.dict_match.specs.declared.strategy.Strategy.TheVariants.{Prefix}
use Rattle.dict_desk.specs.Asked.{strategy_of}
use Rattle.dict_session.proofs.answer.strategy_of.Goals as goal

pub returns-then-eq : goal.returns-then-eq
unfolding strategy_of
returns-then-eq c = sym (ap (λ b. cond b (Some Prefix) (strategy_named c.args.name.now)) (sym c.eq.ensures ∙ c.if-eq.true))

pub returns-else-eq : goal.returns-else-eq
unfolding strategy_of
returns-else-eq c = c.by_name.ensures.named ∙ sym (ap (λ b. cond b (Some Prefix) (strategy_named c.args.name.now)) (sym c.eq.ensures ∙ c.if-eq.false))
