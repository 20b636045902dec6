use Rattle.std.proofs.Common.{◌++◌, ap, ◌∙◌}
use Rattle.json.specs.Print.{escape}
use Rattle.dict_proto.proofs.PutLemmas.{puts_err, all_after}
use Rattle.http_service.proofs.EscapeLemmas.{one_more, broken, whole}
use Rattle.http_service.proofs.putting.put_escaped.Goals as goal

pub returns-in_err-put_all : goal.returns-in_err-put_all
returns-in_err-put_all g c =
    let (done, split, put) = c.loop-front.invariant in
    puts_err _ _ _ _ c.from_residual.ensures.0
    (broken _ _ _ _ done _ _ (one_more _ done _ c.in-Some.front.now (escape c.in-Some.back.now) _ _ split c.in-Some.ensures.octets c.escape_of-len.ensures.value) put c.in_err-put_all.ensures)

pub loop-front-preserved : goal.loop-front-preserved
loop-front-preserved g c =
    let (done, split, put) = c.loop-front.invariant in (
      _,
      one_more _ done _ c.in-Some.front.now (escape c.in-Some.back.now) _ _ split c.in-Some.ensures.octets c.escape_of-len.ensures.value,
      all_after _ _ _ done _ put c.in_ok-put_all.ensures,
    )

pub returns : goal.returns
returns g c =
    let (done, split, put) = c.loop-front.invariant in
    whole c.put.result _ _ _ _ done _ (split ∙ ap (λ l. done ++ l) c.in_default.ensures.octets) put c.put.ensures.put
