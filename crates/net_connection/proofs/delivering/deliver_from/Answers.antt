use Rattle.std.proofs.Common.{◌++◌, ◌∙◌, ap, refl}
use Rattle.std.specs.Prelude.{Some}
use Rattle.net_hub.specs.Events.Happening.{came}
use Rattle.dict_session.specs.Desks.{condition}
use Rattle.net_outlet.specs.Outlets.{stream_through}
use Rattle.net_outlet.specs.Queues.{waiting}
use Rattle.net_connection.proofs.CauseLemmas.{caused_none, caused_one}
use Rattle.net_connection.proofs.LeadLemmas.{led_none}
use Rattle.net_connection.proofs.QuietLemmas.{quiet_one}
use Rattle.net_connection.proofs.StuckLemmas.{stuck_counted}
use Rattle.net_connection.proofs.TellLemmas.{led_accepted, told_through, told_through_none}
use Rattle.net_connection.proofs.delivering.deliver_from.Goals as goal

pub returns-in-Ok-clause-led : goal.returns-in-Ok-clause-led
returns-in-Ok-clause-led g c =
    let n = c.new-outlet.result in
    let s = c.hand.new.sink in
    let what = came c.args.id c.args.piece.now in
    led_accepted (g.K.Lookup.is_trusted c.hand.new.desk) (g.K.Lookup.shows c.args.desk.now) (g.K.Lookup.shows c.hand.new.desk) (g.K.Lookup.leaves_one_of c.args.desk.now) (g.K.Lookup.leaves_one_of c.hand.new.desk)
    c.args.hub.now c.hand.new.hub what c.in-Ok.out (condition g.K.Lookup.has_failed g.K.Lookup.is_closed c.hand.new.desk) (stream_through n.taken n.queue) (stream_through s.taken s.queue) _
    c.in-Ok.ensures.leads (λ one same answer put stood grows ends trusted shown.
    rw c.over.ensures.answer (rw c.over.ensures.queue (rw c.over.ensures.transport (
      told_through g.T.Transport.taken g.T.Transport.coming g.T.Transport.made g.B.Beginning.taken g.B.Beginning.coming g.B.Beginning.made what c.in-Ok.out c.args.queue s.queue
          c.args.transport s.transport s.taken (stream_through n.taken n.queue) one c.requires.taken c.requires.coming c.requires.made s.takes s.keeps s.makes s.lazy
          (ap (λ l. Some (l ++ waiting n.queue)) c.new-outlet.ensures.taken ∙ ap (λ q. Some (waiting q)) c.new-outlet.ensures.queue) same answer put grows
          (stuck_counted g.B.Beginning.made (g.T.Transport.made s.transport) g.B.Beginning.counts.refused c.args.queue s.queue s.has_failed (ap (λ n. n.refused) c.requires.counts) s.stuck
          (λ well. s.counts well ∙ ap (λ n. n.failures) c.requires.counts)),
      caused_one (condition g.K.Lookup.has_failed g.K.Lookup.is_closed c.hand.new.desk) (stream_through n.taken n.queue) (stream_through s.taken s.queue) c.args.queue s.queue one
          (ap (λ q. q.failures) c.new-outlet.ensures.queue) refl put stood,
      quiet_one c.args.hub.now c.args.desk.now c.hand.new.desk what one same (c.hand.ensures.quiet trusted one.before.catalogue shown),
    ))))

pub returns-in-Err-clause-led : goal.returns-in-Err-clause-led
returns-in-Err-clause-led g c =
    let s = c.hand.new.sink in
    let queue = ap (λ o. o.queue) c.in-Err.ensures.sink ∙ c.new-outlet.ensures.queue in
    rw c.in-Err.ensures.desk (led_none c.in-Err.ensures.state
    (rw c.over-in-Err.ensures.answer (rw c.over-in-Err.ensures.queue (rw c.over-in-Err.ensures.transport (
      told_through_none g.T.Transport.taken g.T.Transport.coming g.T.Transport.made (came c.args.id c.args.piece.now) c.args.queue s.queue c.args.transport s.transport
          queue (ap (λ o. o.transport) c.in-Err.ensures.sink ∙ c.new-outlet.ensures.transport),
      caused_none _ c.args.queue s.queue queue,
      λ quiet. refl,
    )))))
