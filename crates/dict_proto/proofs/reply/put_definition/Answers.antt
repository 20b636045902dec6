use Rattle.dict_proto.specs.Replies.{definition_octets}
use Rattle.dict_proto.proofs.PutLemmas.{puts_err, puts_after, front_longer}
use Rattle.dict_proto.proofs.reply.put_definition.Goals as goal

pub returns-in_err-put_definition_line : goal.returns-in_err-put_definition_line
unfolding definition_octets
returns-in_err-put_definition_line g c = puts_err _ _ _ _ c.from_residual.ensures.0 (front_longer _ _ _ _ c.in_err-put_definition_line.ensures)

pub returns : goal.returns
unfolding definition_octets
returns g c = puts_after _ _ _ _ _ _ c.in_ok-put_definition_line.ensures c.put_text.ensures
