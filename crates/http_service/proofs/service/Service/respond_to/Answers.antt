use Rattle.std.proofs.Common.{◌≡◌, ◌∙◌, inl, inr, refl, sym, ap, subst}
use Rattle.std.specs.Prelude.{Some, None}
use Rattle.http_request.specs.declared.statuses.Status.TheVariants as statuses
use Rattle.http_request.specs.Paths.{IsPath}
use Rattle.http_service.specs.Answers.{plain, not_allowed}
use Rattle.http_service.specs.Actions.{action_of, changes}
use Rattle.http_service.specs.Settling.{stays}
use Rattle.http_service.specs.Responding.{ended, answered}
use Rattle.http_service.proofs.RespondLemmas.{responds_so}
use Rattle.http_service.proofs.ServiceLemmas.{settles_none, settles_action, settles_at, action_at, no_route, no_action, only_list}
use Rattle.http_service.proofs.service.Service.respond_to.Goals as goal

pub returns-in_default-clause-responds : goal.returns-in_default-clause-responds
returns-in_default-clause-responds g c = λ trusted M asked shown tells.
    ended (stays M (plain statuses.NotFound)) (inr (λ route name path. c.in_default.ensures route name (subst (λ t. IsPath t route name) (sym tells.target) path), refl))
    (answered c.not_found.ensures shown (λ ms left. left))

pub returns-in_default-action_of-clause-responds : goal.returns-in_default-action_of-clause-responds
returns-in_default-action_of-clause-responds g c = λ trusted M asked shown tells.
    let route = c.in-Some.found.route in
    let name = c.in-Some.found.name.now in
    let path = subst (λ t. IsPath t route name) tells.target c.in-Some.ensures in
    let e : None ≡ action_of route asked.method = c.in_default-action_of.ensures ∙ ap (action_of route) tells.method in
    ended (stays M (not_allowed route)) (inl (route, name, path, settles_none M asked route name e)) (answered c.method_not_allowed.ensures shown (λ ms left. left))

pub returns-clause-responds : goal.returns-clause-responds
returns-clause-responds g c = λ trusted M asked shown tells.
    let route = c.in-Some.found.route in
    let name = c.in-Some.found.name.now in
    let path = subst (λ t. IsPath t route name) tells.target c.in-Some.ensures in
    let action = c.in-Some-action_of.action in
    let e : Some action ≡ action_of route asked.method = c.in-Some-action_of.ensures ∙ ap (action_of route) tells.method in
    responds_so _ _ _ _ M _ _ _ (λ s is. inl (route, name, path, settles_action M asked route name action s e is)) (c.act.ensures.responds trusted M asked shown tells.ids tells.body)

pub returns-in_default-clause-shut : goal.returns-in_default-clause-shut
returns-in_default-clause-shut g c = λ M asked tells shut s is kind.
    absurd (no_route M asked s (λ route name path. c.in_default.ensures route name (subst (λ t. IsPath t route name) (sym tells.target) path)) is kind)

pub returns-in_default-action_of-clause-shut : goal.returns-in_default-action_of-clause-shut
returns-in_default-action_of-clause-shut g c = λ M asked tells shut s is kind.
    let route = c.in-Some.found.route in
    let name = c.in-Some.found.name.now in
    let path = subst (λ t. IsPath t route name) tells.target c.in-Some.ensures in
    let e : None ≡ action_of route asked.method = c.in_default-action_of.ensures ∙ ap (action_of route) tells.method in
    absurd (no_action M asked route name s e (settles_at M asked route name s path is) kind)

pub returns-clause-shut : goal.returns-clause-shut
returns-clause-shut g c = λ M asked tells shut s is kind.
    let route = c.in-Some.found.route in
    let name = c.in-Some.found.name.now in
    let path = subst (λ t. IsPath t route name) tells.target c.in-Some.ensures in
    let action = c.in-Some-action_of.action in
    let e : Some action ≡ action_of route asked.method = c.in-Some-action_of.ensures ∙ ap (action_of route) tells.method in
    c.act.ensures.shut M asked tells.ids shut s (action_at M asked route name action s e (settles_at M asked route name s path is)) kind

pub returns-clause-quiet : goal.returns-clause-quiet
returns-clause-quiet g c = λ none.
    c.act.ensures.quiet (only_list c.in-Some-action_of.action (ap changes c.in-Some-action_of.ensures ∙ none c.in-Some.found.route c.in-Some.found.name.now c.in-Some.ensures))
