use Rattle.dict_proto.proofs.PutLemmas.{puts_err, puts_after, front_after, front_longer}
use Rattle.app_words.proofs.listing.put_item.Goals as goal

pub returns-in_err-put_place : goal.returns-in_err-put_place
returns-in_err-put_place g c = puts_err _ _ _ _ c.from_residual.ensures.0 (front_longer _ _ _ _ c.in_err-put_place.ensures)

pub returns-in_err-put_kind : goal.returns-in_err-put_kind
returns-in_err-put_kind g c = puts_err _ _ _ _ c.from_residual-in_err-put_kind.ensures.0 (front_after _ _ _ _ _ c.in_ok-put_place.ensures (front_longer _ _ _ _ c.in_err-put_kind.ensures))

pub returns : goal.returns
returns g c = rw c.title.ensures at (puts_after _ _ _ _ _ _ c.in_ok-put_place.ensures (puts_after _ _ _ _ _ _ c.in_ok-put_kind.ensures c.put_title.ensures))
