use Rattle.std.proofs.Common.{refl}
use Rattle.std.specs.Prelude.{None, Some}
use Rattle.net_hub.specs.Events.{happening}
use Rattle.dict_session.specs.Desks.{condition}
use Rattle.net_outlet.specs.Queues.{queue_stream}
use Rattle.net_connection.proofs.CauseLemmas.{caused_none, caused_one}
use Rattle.net_connection.proofs.LeadLemmas.{led_at, led_none}
use Rattle.net_connection.proofs.LeaveLemmas.{lost_refused, lost_told}
use Rattle.net_connection.specs.Causes.{AreCaused}
use Rattle.net_connection.specs.Telling.{IsTold}
use Rattle.net_connection.proofs.TellLemmas.{led_accepted, told_none, told_one}
use Rattle.net_connection.proofs.delivering.deliver.Goals as goal

pub returns-in-Ok-clause-led : goal.returns-in-Ok-clause-led
returns-in-Ok-clause-led g c =
    led_at {P = λ events. IsTold (happening c.args.event) (Some c.in-Ok.out) c.args.queue.now c.event.new.sink events
    × AreCaused (condition g.K.Lookup.has_failed g.K.Lookup.is_closed c.event.new.desk) c.args.queue.now c.event.new.sink events}
    (led_accepted (g.K.Lookup.is_trusted c.event.new.desk) (g.K.Lookup.shows c.args.desk.now) (g.K.Lookup.shows c.event.new.desk) (g.K.Lookup.leaves_one_of c.args.desk.now) (g.K.Lookup.leaves_one_of c.event.new.desk)
    c.args.hub.now c.event.new.self (happening c.args.event) c.in-Ok.out (condition g.K.Lookup.has_failed g.K.Lookup.is_closed c.event.new.desk) (queue_stream c.args.queue.now) (queue_stream c.event.new.sink) _
    c.in-Ok.ensures.leads (λ one same answer put stood grows ends trusted shown. (
      told_one (happening c.args.event) c.in-Ok.out c.args.queue.now c.event.new.sink one same answer put grows ends,
      caused_one (condition g.K.Lookup.has_failed g.K.Lookup.is_closed c.event.new.desk) (queue_stream c.args.queue.now) (queue_stream c.event.new.sink) c.args.queue.now c.event.new.sink one refl refl put stood,
    )))
    (λ events origin start state stands at leads is told. (told.0, told.1, lost_told c.event.new.self (happening c.args.event) c.in-Ok.out origin start events state stands leads is told.0.answered))

pub returns-in-Err-clause-led : goal.returns-in-Err-clause-led
returns-in-Err-clause-led g c =
    rw c.in-Err.ensures.desk (led_at {P = λ events. IsTold (happening c.args.event) None c.args.queue.now c.event.new.sink events
    × AreCaused (condition g.K.Lookup.has_failed g.K.Lookup.is_closed c.args.desk.now) c.args.queue.now c.event.new.sink events}
    (led_none c.in-Err.ensures.state (told_none (happening c.args.event) c.args.queue.now c.event.new.sink c.in-Err.ensures.sink, caused_none _ c.args.queue.now c.event.new.sink c.in-Err.ensures.sink))
    (λ events origin start state stands at leads is told. (
      told.0,
      told.1,
      lost_refused c.args.hub.now c.event.new.self (happening c.args.event) _ origin at c.in-Err.ensures.memory c.in-Err.ensures.kept,
    )))
