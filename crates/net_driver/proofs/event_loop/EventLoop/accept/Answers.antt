use Rattle.std.proofs.Common.{◌≡◌, ◌+◌, List, [], ◌∷◌, ◌++◌, refl, sym, ap, subst, ◌∙◌, Ok, Err}
use Rattle.net_hub.specs.Hubs.{HasHolding}
use Rattle.net_hub.specs.Runs.{Accepted, IsAt}
use Rattle.net_driver.specs.Accepting.{HasAsked}
use Rattle.net_driver.specs.Asking.{Asks, accepts}
use Rattle.net_driver.specs.Listening.{is_ready, listening_by}
use Rattle.net_driver.specs.Looking.{listening_of}
use Rattle.net_driver.specs.Rounds.{Moves}
use Rattle.net_driver.proofs.AcceptLemmas.{accepted_none, accepted_one, same_listening}
use Rattle.net_connection.proofs.LeadLemmas.{led_joined, led_none}
use Rattle.net_driver.proofs.RoundLemmas.{moves_as, moves_joined}
use Rattle.net_driver.proofs.event_loop.EventLoop.accept.Goals as goal

pub returns-in-Ok-clause-led : goal.returns-in-Ok-clause-led
returns-in-Ok-clause-led g c =
    let self = c.args.self.now in
    let ready = same_listening c.args.kind c.note.new.self c.admit.new.self c.admit.ensures.dict c.admit.ensures.http ∙ c.note.ensures.noted in
    led_joined
    (led_none {P = λ events. Moves self.connections c.note.new.self.connections events × (events ≡ [])} (λ state at. subst (λ h. IsAt h state) (sym c.note.ensures.hub) at)
    (moves_as self.connections c.note.new.self.connections c.note.ensures.connections, refl))
    c.admit.ensures.led c.admit.ensures.trust
    (λ es fs before later. subst (λ (l : List Accepted). Moves self.connections c.admit.new.self.connections (l ++ fs)
    × HasAsked g.S.Opening.refuses g.S.Sockets.asked c.args.kind self c.admit.new.self (l ++ fs)) (sym before.1) (
      moves_joined self.connections c.note.new.self.connections c.admit.new.self.connections [] fs (subst (λ (l : List Accepted). Moves self.connections c.note.new.self.connections l) before.1 before.0) later.0,
      accepted_one g.S.Opening.refuses c.args.kind (listening_of c.args.kind c.admit.new.self) c.in-Ok.transport (g.S.Sockets.asked self.sockets) (g.S.Sockets.asked c.note.new.self.sockets)
          (g.S.Sockets.asked c.admit.new.self.sockets) self.hub c.note.new.self.hub c.admit.new.self.hub self.connections c.note.new.self.connections c.admit.new.self.connections fs ready c.note.ensures.hub c.note.ensures.connections
          (subst (λ s. Asks (g.S.Sockets.asked self.sockets) (g.S.Sockets.asked s) (accepts c.args.kind (Ok c.in-Ok.transport) ∷ [])) (sym c.note.ensures.sockets)
          (subst (λ r. Asks (g.S.Sockets.asked self.sockets) (g.S.Sockets.asked c.accept.new.self) (accepts c.args.kind r ∷ [])) c.in-Ok.is c.accept.ensures.asked))
          later.1,
    ))

pub returns-in-Ok-clause-asked : goal.returns-in-Ok-clause-asked
returns-in-Ok-clause-asked g c = sym (ap is_ready (same_listening c.args.kind c.note.new.self c.admit.new.self c.admit.ensures.dict c.admit.ensures.http ∙ c.note.ensures.noted))

pub returns-in-Err-clause-led : goal.returns-in-Err-clause-led
returns-in-Err-clause-led g c =
    let self = c.args.self.now in
    led_none (λ state at. subst (λ h. IsAt h state) (sym c.note-in-Err.ensures.hub) at) (
      moves_as self.connections c.note-in-Err.new.self.connections c.note-in-Err.ensures.connections,
      accepted_none g.S.Opening.refuses c.args.kind (listening_of c.args.kind c.note-in-Err.new.self) c.in-Err.error (g.S.Sockets.asked self.sockets) (g.S.Sockets.asked c.note-in-Err.new.self.sockets)
          self.hub c.note-in-Err.new.self.hub self.connections c.note-in-Err.new.self.connections (c.note-in-Err.ensures.noted ∙ c.listening_by-listening.ensures ∙ ap listening_by c.kind.ensures) c.note-in-Err.ensures.hub
          c.note-in-Err.ensures.connections
          (subst (λ s. Asks (g.S.Sockets.asked self.sockets) (g.S.Sockets.asked s) (accepts c.args.kind (Err c.in-Err.error) ∷ [])) (sym c.note-in-Err.ensures.sockets)
          (subst (λ r. Asks (g.S.Sockets.asked self.sockets) (g.S.Sockets.asked c.accept.new.self) (accepts c.args.kind r ∷ [])) c.in-Err.is c.accept.ensures.asked)),
    )

pub returns-in-Ok-clause-others : goal.returns-in-Ok-clause-others
returns-in-Ok-clause-others g c = λ other held apart has.
    c.admit.ensures.others other held (λ same. apart (same ∙ ap (λ all. all.last + 1) c.note.ensures.connections)) (subst (λ h. HasHolding h other held) (sym c.note.ensures.hub) has)

pub returns-in-Err-clause-others : goal.returns-in-Err-clause-others
returns-in-Err-clause-others g c = λ other held apart has. subst (λ h. HasHolding h other held) (sym c.note-in-Err.ensures.hub) has
