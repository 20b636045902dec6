use Rattle.std.proofs.Common.{sym}
use Rattle.dict_catalogue.specs.Views.{kept_shown}
use Rattle.http_request.specs.declared.statuses.Status.TheVariants as statuses
use Rattle.http_service.specs.Texts.{kept_text}
use Rattle.http_service.specs.Answers.{with_body}
use Rattle.http_service.specs.Settling.{stays}
use Rattle.http_service.specs.Responding.{ended}
use Rattle.http_service.proofs.RespondLemmas.{stays_so, ends_before, responds_before, responds_so, settles_kept, settles_new}
use Rattle.http_service.proofs.changing.change.Goals as goal

pub returns-in-Ok-Some-clause-responds : goal.returns-in-Ok-Some-clause-responds
returns-in-Ok-Some-clause-responds g c = λ trusted M shown.
    let kept = kept_shown c.in-Ok-Some.kept in
    let is = rw c.in-Ok-Some.field-0-is at (c.in-Ok-Some.ensures.value trusted M shown) in
    ended (stays M (with_body statuses.Ok (kept_text kept))) (settles_kept M c.args.id.now c.args.action c.args.name.now c.args.body.now kept is)
    (ends_before _ _ _ _ _ M _ _ c.in-Ok-Some.ensures.keeps.leaves (stays_so _ _ _ M _ _ (c.in-Ok-Some.ensures.keeps.shows trusted M shown) c.kept_answer.ensures))

pub returns-in-Ok-None-clause-responds : goal.returns-in-Ok-None-clause-responds
returns-in-Ok-None-clause-responds g c = λ trusted M shown.
    let before = c.change_anew.ensures.trust trusted in
    let is = rw c.in-Ok-None.field-0-is at (c.in-Ok-None.ensures.value before M shown) in
    responds_so _ _ _ _ M _ _ _ (λ s new. settles_new M c.args.id.now c.args.action c.args.name.now c.args.body.now s is new)
    (responds_before _ _ _ _ _ M _ _ c.in-Ok-None.ensures.keeps.leaves (c.change_anew.ensures.responds trusted M (c.in-Ok-None.ensures.keeps.shows before M shown) (sym is)))
