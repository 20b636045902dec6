use Rattle.dict_proto.proofs.PutLemmas.{puts_err}
use Rattle.dict_proto.proofs.GatheringLemmas.{puts_gathered, front_gathered}
use Rattle.dict_proto.proofs.text.put_text.Goals as goal

pub returns-in_err-add_text : goal.returns-in_err-add_text
returns-in_err-add_text g c = puts_err _ _ _ _ c.from_residual.ensures.0 (front_gathered _ _ _ _ c.new-gathered.ensures c.in_err-add_text.ensures)

pub returns : goal.returns
returns g c = puts_gathered _ _ _ _ _ _ _ c.new-gathered.ensures c.in_ok-add_text.ensures c.put.ensures.put
