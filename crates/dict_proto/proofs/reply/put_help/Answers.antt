use Rattle.dict_proto.specs.Text.{sent_line}
use Rattle.dict_proto.specs.Replies.{help_lines, help_octets}
use Rattle.dict_proto.proofs.reply.put_help.Goals as goal

pub returns : goal.returns
unfolding sent_line help_lines help_octets
returns g c = c.put_parts.ensures
