use Rattle.dict_proto.proofs.PutLemmas.{puts_err}
use Rattle.dict_proto.proofs.GatheringLemmas.{puts_gathered, front_gathered}
use Rattle.dict_proto.proofs.part.put_parts.Goals as goal

pub returns-in_err-add_parts : goal.returns-in_err-add_parts
returns-in_err-add_parts g c = puts_err _ _ _ _ c.from_residual.ensures.0 (front_gathered _ _ _ _ c.new-gathered.ensures c.in_err-add_parts.ensures)

pub returns : goal.returns
returns g c = puts_gathered _ _ _ _ _ _ _ c.new-gathered.ensures c.in_ok-add_parts.ensures c.put.ensures.put
