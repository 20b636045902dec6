use Rattle.dict_proto.proofs.ReplyLinesLemmas.{reply_octets-short}
use Rattle.dict_proto.proofs.reply.reply_lines_are_short.Goals as goal

pub returns : goal.returns
returns c = reply_octets-short
