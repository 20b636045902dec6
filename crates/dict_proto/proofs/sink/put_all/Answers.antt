use Rattle.std.proofs.Common.{sym, subst, arith}
use Rattle.dict_proto.specs.Streams.{Puts}
use Rattle.dict_proto.proofs.PutLemmas.{puts_err, front_after, front_longer, pieces_at}
use Rattle.dict_proto.proofs.sink.put_all.Goals as goal

pub returns-in_err-put : goal.returns-in_err-put
returns-in_err-put g c =
    subst (Puts c.from_residual.result (g.K.Sink.stream c.args.sink.now) (g.K.Sink.stream c.put.new.self)) (sym (pieces_at (λ part. part.now) c.args.parts.now c.loop-part.part-index _ (omega arith)))
    (puts_err _ _ _ _ c.from_residual.ensures.0 (front_after _ _ _ _ _ c.loop-part.invariant (front_longer _ _ _ _ c.in_err-put.ensures.put)))
