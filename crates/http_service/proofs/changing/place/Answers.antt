use Rattle.std.proofs.Common.{inl, inr, refl, sym, subst}
use Rattle.dict_catalogue.specs.Commands.{place}
use Rattle.http_request.specs.declared.statuses.Status.TheVariants.{BadRequest}
use Rattle.http_service.specs.Bodies.{IsPlace}
use Rattle.http_service.specs.Answers.{plain}
use Rattle.http_service.specs.Actions.{command, unformed}
use Rattle.http_service.specs.Settling.{applied, stays}
use Rattle.http_service.specs.Responding.{ended, answered}
use Rattle.http_service.proofs.changing.place.Goals as goal

pub returns-in-Ok-Some-clause-responds : goal.returns-in-Ok-Some-clause-responds
returns-in-Ok-Some-clause-responds g c = λ trusted M shown none.
    let is = subst (λ n. IsPlace c.args.body.now n) (sym c.from.ensures) (rw c.in-Ok-Some.field-0-is at c.in-Ok-Some.ensures) in
    ended (applied M c.args.id.now (place c.args.name.now c.from.result))
    (command (place c.args.name.now c.from.result), inl (c.from.result, is, refl), refl) (c.apply.ensures.ends trusted M shown none)

pub returns-in-Ok-None-clause-responds : goal.returns-in-Ok-None-clause-responds
returns-in-Ok-None-clause-responds g c = λ trusted M shown none.
    ended (stays M (plain BadRequest)) (unformed, inr (rw c.in-Ok-None.field-0-is at c.in-Ok-None.ensures, refl), refl)
    (answered c.bad_request.ensures shown (λ ms left. left))
