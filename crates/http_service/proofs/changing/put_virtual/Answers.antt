use Rattle.std.proofs.Common.{inl, inr, refl, sym, subst}
use Rattle.serde_json.specs.View.{view}
use Rattle.dict_catalogue.specs.Commands.{put_virtual}
use Rattle.dict_catalogue.specs.Views.{names_shown}
use Rattle.http_request.specs.declared.statuses.Status.TheVariants.{BadRequest}
use Rattle.http_service.specs.Bodies.{IsVirtualValue}
use Rattle.http_service.specs.Answers.{plain}
use Rattle.http_service.specs.Actions.{command, unformed}
use Rattle.http_service.specs.Settling.{applied, stays}
use Rattle.http_service.specs.Responding.{ended, answered}
use Rattle.http_service.proofs.RespondLemmas.{no_virtual}
use Rattle.http_service.proofs.changing.put_virtual.Goals as goal

pub returns-in-Ok-None-clause-responds : goal.returns-in-Ok-None-clause-responds
returns-in-Ok-None-clause-responds g c = λ trusted M shown none.
    let none_is = rw c.in-Ok-None.field-0-is at c.in-Ok-None.ensures in
    ended (stays M (plain BadRequest)) (unformed, inr (λ title members body. none_is body.0 body.1, refl), refl)
    (answered c.bad_request.ensures shown (λ ms left. left))

pub returns-in-Ok-Some-read_virtual-clause-responds : goal.returns-in-Ok-Some-read_virtual-clause-responds
returns-in-Ok-Some-read_virtual-clause-responds g c = λ trusted M shown none.
    let json = rw c.in-Ok-Some.field-0-is at c.in-Ok-Some.ensures in
    let form = rw c.in-Ok-Some-read_virtual.field-0-is at c.in-Ok-Some-read_virtual.ensures in
    let title = c.in-Ok-Some-read_virtual.form.title.now in
    let is = subst (λ ms. IsVirtualValue (view c.in-Ok-Some.value) title (names_shown ms)) (sym c.as_slice.ensures.value) form in
    let members = names_shown c.as_slice.result.now in
    ended (applied M c.args.id.now (put_virtual c.args.name.now title members))
    (command (put_virtual c.args.name.now title members), inl (title, members, (view c.in-Ok-Some.value, json, is), refl), refl) (c.apply.ensures.ends trusted M shown none)

pub returns-in-Ok-None-read_virtual-clause-responds : goal.returns-in-Ok-None-read_virtual-clause-responds
returns-in-Ok-None-read_virtual-clause-responds g c = λ trusted M shown none.
    let json = rw c.in-Ok-Some.field-0-is at c.in-Ok-Some.ensures in
    let none_is = rw c.in-Ok-None-read_virtual.field-0-is at c.in-Ok-None-read_virtual.ensures in
    ended (stays M (plain BadRequest)) (unformed, inr (λ title members body. no_virtual _ _ body.0 json body.1 none_is title members body.2, refl), refl)
    (answered c.bad_request-in-Ok-None-read_virtual.ensures shown (λ ms left. left))
