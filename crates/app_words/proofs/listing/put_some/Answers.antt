use Rattle.dict_proto.proofs.PutLemmas.{puts_err, puts_after, all_after, front_after, front_longer}
use Rattle.app_words.proofs.listing.put_some.Goals as goal

pub returns-in_err-put : goal.returns-in_err-put
returns-in_err-put g c = puts_err _ _ _ _ c.from_residual.ensures.0 (front_longer _ _ _ _ (front_longer _ _ _ _ (rw c.as_bytes.ensures.value at c.in_err-put.ensures.put)))

pub returns-in_err-put_further : goal.returns-in_err-put_further
returns-in_err-put_further g c =
    puts_err _ _ _ _ c.from_residual-in_err-put_further.ensures.0
    (front_longer _ _ _ _ (front_after _ _ _ _ _ (rw c.as_bytes.ensures.value at c.in_ok-put.ensures.put) c.in_err-put_further.ensures))

pub returns : goal.returns
returns g c = puts_after _ _ _ _ _ _ (all_after _ _ _ _ _ (rw c.as_bytes.ensures.value at c.in_ok-put.ensures.put) c.in_ok-put_further.ensures) c.put-2.ensures.put
