use Rattle.std.proofs.Common.{refl, sym, ◌∙◌}
use Rattle.net_driver.proofs.AcceptLemmas.{taken_not, taken_unwatched, taken_watched}
use Rattle.net_connection.proofs.LeadLemmas.{led_as, led_still}
use Rattle.net_driver.proofs.RoundLemmas.{moves_same}
use Rattle.net_driver.proofs.event_loop.EventLoop.admit.Goals as goal

pub returns-in-None-clause-led : goal.returns-in-None-clause-led
returns-in-None-clause-led g c =
    let all = c.args.self.now.connections in
    led_still (moves_same all all refl (λ id octets now. now), taken_not g.S.Opening.refuses c.args.transport c.args.kind (g.S.Sockets.asked c.args.self.now.sockets) c.args.self.now.hub all c.in-None.ensures)

pub returns-else-is_ok-clause-led : goal.returns-else-is_ok-clause-led
returns-else-is_ok-clause-led g c =
    let all = c.args.self.now.connections in
    led_still (
      moves_same all all refl (λ id octets now. now),
      taken_unwatched g.S.Opening.refuses c.args.transport c.args.kind _ _ c.args.self.now.hub all c.in-Some.id _ c.in-Some.ensures.0 c.in-Some.ensures.1 (sym c.is_ok.ensures.value ∙ c.if-is_ok.false) c.watch.ensures.asked,
    )

pub returns-then-is_ok-clause-led : goal.returns-then-is_ok-clause-led
returns-then-is_ok-clause-led g c =
    led_as c.admit.ensures.led
    (λ events all. (
      all.0,
      taken_watched g.S.Opening.refuses c.args.transport c.watch.new.transport c.args.kind _ _ c.args.self.now.hub c.admit.new.hub c.args.self.now.connections c.admit.new.self c.in-Some.id _ events c.in-Some.ensures.0 c.in-Some.ensures.1
          (sym c.is_ok.ensures.value ∙ c.if-is_ok.true) c.watch.ensures.transport c.watch.ensures.asked all.1,
    ))
