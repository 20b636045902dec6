use Rattle.dict_proto.proofs.StuffingLemmas.{rows_are_a_block}
use Rattle.dict_proto.proofs.reply.list_is_a_block.Goals as goal

pub returns : goal.returns
returns c = rows_are_a_block
