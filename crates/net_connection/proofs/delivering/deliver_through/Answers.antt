use Rattle.std.proofs.Common.{subst}
use Rattle.net_hub.specs.Events.Happening.{came}
use Rattle.dict_session.specs.Desks.{condition}
use Rattle.net_connection.specs.Causes.{AreCaused}
use Rattle.net_connection.specs.Telling.{IsToldThrough, answer_of}
use Rattle.net_connection.proofs.LeadLemmas.{led_as}
use Rattle.net_connection.proofs.delivering.deliver_through.Goals as goal

pub returns-clause-led : goal.returns-clause-led
returns-clause-led g c =
    let r = c.deliver_from-answer.result in
    let desk = condition g.K.Lookup.has_failed g.K.Lookup.is_closed c.deliver_from-answer.new.desk in
    led_as c.deliver_from-answer.ensures.led (λ events told. (
      subst (λ q. IsToldThrough g.T.Transport.taken g.T.Transport.coming g.T.Transport.made (came c.args.id c.args.piece.now) (answer_of r.0) q r.1 c.args.transport.now r.2 events) c.take.ensures
          (subst (λ t. IsToldThrough g.T.Transport.taken g.T.Transport.coming g.T.Transport.made (came c.args.id c.args.piece.now) (answer_of r.0) c.take.result r.1 t r.2 events) c.replace-lent.ensures.value told.0),
      subst (λ q. AreCaused desk q r.1 events) c.take.ensures told.1,
      told.2,
    ))
