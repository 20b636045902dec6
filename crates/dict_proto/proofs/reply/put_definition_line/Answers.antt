use Rattle.dict_proto.specs.Replies.{definition_line}
use Rattle.dict_proto.proofs.reply.put_definition_line.Goals as goal

pub returns : goal.returns
unfolding definition_line
returns g c = rw c.as_bytes.ensures.value at c.put_parts.ensures
