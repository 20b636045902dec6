use Rattle.std.proofs.Common.{◌≡◌, drop, bytes_eq}
use Rattle.std.specs.Prelude.{find}
use Rattle.dict_match.specs.StrategyText.{strategy_name, strategies, strategy_named}
use Rattle.dict_match.proofs.strategy.Strategy.by_name.Given as goal

-- the name is none of the strategies that were looked at
abbrev pub invariant-loop-strategy : goal.invariant-loop-strategy
invariant-loop-strategy l = strategy_named l.name ≡ find (λ strategy. bytes_eq l.name (strategy_name strategy)) (drop l.strategy-index strategies)
