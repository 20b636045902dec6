use Rattle.std.proofs.Common.{subst}
use Rattle.dict_proto.specs.Streams.{Puts}
use Rattle.dict_proto.proofs.StuffingLemmas.{list_line-told}
use Rattle.dict_proto.proofs.reply.put_list_line.Goals as goal

pub returns : goal.returns
returns g c =
    subst (Puts c.put_parts.result (g.K.Sink.stream c.args.sink.now) (g.K.Sink.stream c.put_parts.new.sink))
    (list_line-told c.stuffing.result.now c.as_bytes.result.now c.as_bytes-2.result.now c.args.name.now c.args.text.now c.stuffing.ensures c.as_bytes.ensures.value c.as_bytes-2.ensures.value) c.put_parts.ensures
