use Rattle.dict_proto.proofs.PutLemmas.{puts_err, puts_after, front_longer}
use Rattle.app_words.proofs.listing.put_behind_comma.Goals as goal

pub returns-in_err-put : goal.returns-in_err-put
returns-in_err-put g c = puts_err _ _ _ _ c.from_residual.ensures.0 (front_longer _ _ _ _ c.in_err-put.ensures.put)

pub returns : goal.returns
returns g c = rw c.as_bytes.ensures.value at (puts_after _ _ _ _ _ _ c.in_ok-put.ensures.put c.put-2.ensures.put)
