use Rattle.std.proofs.Common.{take}
use Rattle.std.specs.List.{flat_map}
use Rattle.dict_proto.specs.Streams.{PutsAll}
use Rattle.dict_match.specs.StrategyText.{strategies}
use Rattle.dict_session.specs.Shows.{strategy_line}
use Rattle.dict_session.proofs.show.put_strategy_lines.Given as goal

abbrev pub invariant-loop-strategy : goal.invariant-loop-strategy
invariant-loop-strategy g l = PutsAll (g.K.Sink.stream l.fn.sink) (g.K.Sink.stream l.sink) (flat_map strategy_line (take l.strategy-index strategies))
