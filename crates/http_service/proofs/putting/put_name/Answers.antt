use Rattle.std.proofs.Common.{[], ◌∷◌, ◌++◌, codes}
use Rattle.json.specs.Print.{escape}
use Rattle.dict_proto.proofs.PutLemmas.{puts_err, puts_after, front_after, front_longer}
use Rattle.http_service.proofs.putting.put_name.Goals as goal

pub returns-in_err-put : goal.returns-in_err-put
returns-in_err-put g c =
    puts_err _ _ _ _ c.from_residual.ensures.0 (front_longer _ _ (codes ",\"name\":\"") (escape c.args.name.now ++ 34 ∷ []) c.in_err-put.ensures.put)

pub returns-in_err-put_escaped : goal.returns-in_err-put_escaped
returns-in_err-put_escaped g c =
    puts_err _ _ _ _ c.from_residual-in_err-put_escaped.ensures.0
    (front_after _ _ _ (codes ",\"name\":\"") (escape c.args.name.now ++ 34 ∷ []) c.in_ok-put.ensures.put
    (front_longer _ _ (escape c.args.name.now) (34 ∷ []) (rw c.as_bytes.ensures.value at c.in_err-put_escaped.ensures)))

pub returns : goal.returns
returns g c =
    puts_after _ _ _ _ (codes ",\"name\":\"") (escape c.args.name.now ++ 34 ∷ []) c.in_ok-put.ensures.put
    (puts_after _ _ _ _ (escape c.args.name.now) (34 ∷ []) (rw c.as_bytes.ensures.value at c.in_ok-put_escaped.ensures) c.put-2.ensures.put)
