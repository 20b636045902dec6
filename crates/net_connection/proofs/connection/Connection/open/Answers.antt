use Rattle.std.proofs.Common.{[], ap, refl, sym, subst, ◌∙◌, ◌++◌}
use Rattle.std.specs.Prelude.{None, Some}
use Rattle.net_hub.specs.Hubs.{HasHolding}
use Rattle.net_hub.specs.Holding.{left_by}
use Rattle.net_connection.specs.Causes.{CountOn}
use Rattle.net_connection.specs.Events.{ArePut}
use Rattle.net_connection.specs.Stages.{stage_of_new}
use Rattle.net_connection.proofs.LeadLemmas.{led_as, led_still}
use Rattle.net_connection.proofs.connection.Connection.open.Goals as goal

pub returns-in-Ok-greet-clause-led : goal.returns-in-Ok-greet-clause-led
returns-in-Ok-greet-clause-led g c =
    led_as c.in-Ok-greet.ensures.led (λ events told.
    let answered = told.0.0.answered in (
      answered.0,
      answered.1,
      answered.2,
      c.stage_of_new.ensures ∙ ap stage_of_new (sym answered.3),
      subst (λ o. HasHolding c.greet.new.hub c.args.id (left_by c.args.kind [] o)) (sym answered.3) told.0.1,
      subst (λ l. ArePut events l) (sym (told.0.0.order ∙ ap (λ l. l ++ told.0.0.put) c.new-queue.ensures.waits)) told.0.0.are_put,
      subst (λ n. CountOn n c.greet.new.queue.failures events) c.new-queue.ensures.failures told.1.failures,
    ))

pub returns-in-Err-clause-led : goal.returns-in-Err-clause-led
returns-in-Err-clause-led g c = led_as c.in-Err.ensures.led (λ events told. told.0.answered)

pub returns-in-Err-clause-unopened : goal.returns-in-Err-clause-unopened
returns-in-Err-clause-unopened g c = ((Some c.in-Err.field-0, c.in-Err.ensures.refused, c.in-Err.ensures.cause.0), c.in-Err.ensures.cause.1)

pub returns-in_default-clause-led : goal.returns-in_default-clause-led
returns-in_default-clause-led g c = led_still refl

pub returns-in_default-clause-unopened : goal.returns-in_default-clause-unopened
returns-in_default-clause-unopened g c = ((None, c.in_default.ensures, tt), λ other held has. has)
