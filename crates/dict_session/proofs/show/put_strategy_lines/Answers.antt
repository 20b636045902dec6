use Rattle.std.proofs.Common.{sym, subst, arith}
use Rattle.dict_proto.specs.Streams.{Puts, PutsFront}
use Rattle.dict_proto.proofs.PutLemmas.{puts_err, front_after, front_longer, pieces_at}
use Rattle.dict_match.specs.StrategyText.{strategies}
use Rattle.dict_session.specs.Shows.{strategy_line}
use Rattle.dict_session.proofs.show.put_strategy_lines.Goals as goal

pub returns-in_err-write_reply : goal.returns-in_err-write_reply
returns-in_err-write_reply g c =
    subst (Puts c.from_residual.result (g.K.Sink.stream c.args.sink.now) (g.K.Sink.stream c.write_reply.new.sink)) (sym (pieces_at strategy_line strategies c.loop-strategy.strategy-index _ (omega arith)))
    (puts_err _ _ _ _ c.from_residual.ensures.0 (front_after _ _ _ _ _ c.loop-strategy.invariant
    (front_longer _ _ _ _ (subst (PutsFront (g.K.Sink.stream c.loop-strategy.sink) (g.K.Sink.stream c.write_reply.new.sink)) c.line_of.ensures c.in_err-write_reply.ensures))))
