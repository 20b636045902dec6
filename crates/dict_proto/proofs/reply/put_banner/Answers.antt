use Rattle.dict_proto.specs.Replies.{banner_octets}
use Rattle.dict_proto.proofs.reply.put_banner.Goals as goal

pub returns : goal.returns
unfolding banner_octets
returns g c = rw c.as_bytes.ensures.value at (rw c.as_bytes-2.ensures.value at c.put_parts.ensures)
