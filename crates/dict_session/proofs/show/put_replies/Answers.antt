use Rattle.std.proofs.Common.{sym, ap, subst, arith}
use Rattle.std.specs.List.{flat_map}
use Rattle.std.proofs.lemmas.List.{take_all}
use Rattle.dict_proto.specs.Streams.{Puts, PutsAll}
use Rattle.dict_proto.specs.Replies.{reply_octets}
use Rattle.dict_proto.proofs.PutLemmas.{puts_err, front_after, front_longer, pieces_at}
use Rattle.dict_session.proofs.show.put_replies.Goals as goal

pub returns-in_err-write_reply : goal.returns-in_err-write_reply
returns-in_err-write_reply g c =
    subst (Puts c.from_residual.result (g.K.Sink.stream c.args.sink.now) (g.K.Sink.stream c.write_reply.new.sink)) (sym (pieces_at reply_octets c.args.replies.now c.loop-reply.reply-index _ (omega arith)))
    (puts_err _ _ _ _ c.from_residual.ensures.0 (front_after _ _ _ _ _ c.loop-reply.invariant (front_longer _ _ _ _ c.in_err-write_reply.ensures)))

pub returns : goal.returns
returns g c =
    subst (PutsAll (g.K.Sink.stream c.args.sink.now) (g.K.Sink.stream c.loop-reply.sink))
    (ap (flat_map reply_octets) (take_all c.loop-reply.reply-index c.args.replies.now (omega arith)))
    c.loop-reply.invariant
