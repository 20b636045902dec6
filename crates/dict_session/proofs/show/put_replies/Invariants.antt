use Rattle.std.proofs.Common.{take}
use Rattle.std.specs.List.{flat_map}
use Rattle.dict_proto.specs.Replies.{reply_octets}
use Rattle.dict_proto.specs.Streams.{PutsAll}
use Rattle.dict_session.proofs.show.put_replies.Given as goal

abbrev pub invariant-loop-reply : goal.invariant-loop-reply
invariant-loop-reply g l = PutsAll (g.K.Sink.stream l.fn.sink) (g.K.Sink.stream l.sink) (flat_map reply_octets (take l.reply-index l.replies))
