use Rattle.std.proofs.Common.{rules, ◌≡◌, ◌≢◌, inl, inr, refl, subst}
use Rattle.dict_catalogue.specs.Steps.{summary_of}
use Rattle.http_request.specs.declared.statuses.Status.TheVariants as statuses
use Rattle.http_service.specs.Texts.{list_text}
use Rattle.http_service.specs.Answers.{plain, with_body}
use Rattle.http_service.specs.Settling.{stays, SettlesChange}
use Rattle.http_service.specs.Responding.{ended, answered}
use Rattle.http_service.specs.declared.actions.Action.TheVariants as actions
use Rattle.http_service.proofs.RespondLemmas.{stays_so, responds_so}
use Rattle.http_service.proofs.ServiceLemmas.{settles_ids, no_id}
use Rattle.http_service.proofs.service.act.Goals as goal

pub returns-then-eq-clause-responds : goal.returns-then-eq-clause-responds
returns-then-eq-clause-responds g c =
    let is : c.args.action ≡ actions.List = search rules in
    rw is (λ trusted M asked shown ids body. ended (stays M (with_body statuses.Ok (list_text (summary_of M).items))) refl (stays_so _ _ _ M _ _ shown (c.list.ensures.lists M shown)))

pub returns-in_default-clause-responds : goal.returns-in_default-clause-responds
returns-in_default-clause-responds g c = λ trusted M asked shown ids body.
    let other : c.args.action ≢ actions.List = search rules in
    let none_is = c.in_default.ensures asked.ids ids in
    ended (stays M (plain statuses.BadRequest)) (settles_ids M asked c.args.action c.args.name.now _ other (inr (none_is, refl)))
    (answered c.bad_request.ensures shown (λ ms left. left))

pub returns-clause-responds : goal.returns-clause-responds
returns-clause-responds g c = λ trusted M asked shown ids body.
    let other : c.args.action ≢ actions.List = search rules in
    let one = c.in-Some.ensures asked.ids ids in
    let id = c.in-Some.id.now in
    responds_so _ _ _ _ M _ _ _ (λ s is. settles_ids M asked c.args.action c.args.name.now s other
    (inl (id, one, subst (λ b. SettlesChange M id c.args.action c.args.name.now b s) body is))) (c.change.ensures.responds trusted M shown)

pub returns-in_default-clause-shut : goal.returns-in_default-clause-shut
returns-in_default-clause-shut g c = λ M asked ids shut s is kind.
    let other : c.args.action ≢ actions.List = search rules in
    absurd (no_id M asked c.args.action c.args.name.now s other (c.in_default.ensures asked.ids ids) is kind)
