use Rattle.dict_proto.proofs.PutLemmas.{puts_err, puts_after, front_longer}
use Rattle.app_words.proofs.listing.put_title.Goals as goal

pub returns-in_err-put_quoted : goal.returns-in_err-put_quoted
returns-in_err-put_quoted g c = puts_err _ _ _ _ c.from_residual.ensures.0 (front_longer _ _ _ _ c.in_err-put_quoted.ensures)

pub returns : goal.returns
returns g c = puts_after _ _ _ _ _ _ c.in_ok-put_quoted.ensures c.put.ensures.put
