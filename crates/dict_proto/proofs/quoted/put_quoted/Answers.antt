use Rattle.dict_proto.proofs.PutLemmas.{puts_err}
use Rattle.dict_proto.proofs.GatheringLemmas.{puts_gathered, front_gathered}
use Rattle.dict_proto.proofs.quoted.put_quoted.Goals as goal

pub returns-in_err-add_quoted : goal.returns-in_err-add_quoted
returns-in_err-add_quoted g c = puts_err _ _ _ _ c.from_residual.ensures.0 (front_gathered _ _ _ _ c.new-gathered.ensures c.in_err-add_quoted.ensures)

pub returns : goal.returns
returns g c = puts_gathered _ _ _ _ _ _ _ c.new-gathered.ensures c.in_ok-add_quoted.ensures c.put.ensures.put
