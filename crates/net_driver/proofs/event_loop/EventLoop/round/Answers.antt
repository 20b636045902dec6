use Rattle.std.proofs.Common.{◌≡◌, ◌∙◌, List, [], ◌++◌, true, false, is_ok, sym, ap, subst, refl}
use Rattle.std.specs.Prelude.{nat_lt}
use Rattle.dict_session.specs.Desks.{condition}
use Rattle.http_service.specs.Foreseeing.{IsToldAnew}
use Rattle.net_hub.specs.Runs.{Accepted, IsAt}
use Rattle.net_hub.specs.declared.kind.Kind.TheVariants.{Dict}
use Rattle.net_driver.specs.Accepting.{HasAccepted}
use Rattle.net_driver.specs.Listening.{is_ready}
use Rattle.net_driver.specs.Looking.{Looks}
use Rattle.net_driver.specs.Rounds.{Moves, TurnEach}
use Rattle.net_driver.proofs.BoolLemmas.{none_of}
use Rattle.net_connection.proofs.LeadLemmas.{led_joined, led_none}
use Rattle.net_driver.proofs.LeaveLemmas.{only_looked, only_taken}
use Rattle.net_driver.proofs.LookLemmas.{moves_looked}
use Rattle.net_driver.proofs.OrderLemmas.{round_none}
use Rattle.net_driver.proofs.LoopLemmas.{AreTaken, moved_by, round_made, taken_round}
use Rattle.net_driver.proofs.RoundLemmas.{moves_joined}
use Rattle.net_driver.proofs.event_loop.EventLoop.round.Goals as goal

pub returns-in-Err-clause-led : goal.returns-in-Err-clause-led
returns-in-Err-clause-led g c =
    led_none (λ state at. subst (λ h. IsAt h state) (sym c.poll.ensures.hub) at) (
      moves_looked (g.S.Sockets.told c.poll.new.self.sockets) c.poll.result c.args.self.now c.poll.new.self c.poll.ensures,
      round_none,
      (refl, refl, subst (λ r. Looks g.S.Sockets.asked 0 (g.S.Sockets.told c.poll.new.self.sockets) r c.args.self.now c.poll.new.self) c.in-Err.is c.poll.ensures),
      only_looked g.S.Sockets.asked 0 (g.S.Sockets.told c.poll.new.self.sockets) c.poll.result c.args.self.now c.poll.new.self c.poll.ensures,
    )

pub returns-clause-led : goal.returns-clause-led
returns-clause-led g c =
    let self = c.args.self.now in
    let asked = g.S.Sockets.asked in
    led_joined
    (led_joined {R = λ events. Moves self.connections c.accept_all-by_http.new.self.connections events × AreTaken g.S.Opening.refuses asked c.poll.new.self c.accept_all-by_dict.new.self c.accept_all-by_http.new.self events}
    (led_joined {R = λ events. Moves self.connections c.accept_all-by_dict.new.self.connections events × HasAccepted g.S.Opening.refuses asked Dict c.poll.new.self c.accept_all-by_dict.new.self events}
    (led_none {P = λ events. events ≡ []} (λ state at. subst (λ h. IsAt h state) (sym c.poll.ensures.hub) at) refl)
    c.accept_all-by_dict.ensures.led c.accept_all-by_dict.ensures.trust
    (λ es fs before then.
    subst (λ (l : List Accepted). Moves self.connections c.accept_all-by_dict.new.self.connections (l ++ fs) × HasAccepted g.S.Opening.refuses asked Dict c.poll.new.self c.accept_all-by_dict.new.self (l ++ fs)) (sym before) (
      moves_joined self.connections c.poll.new.self.connections c.accept_all-by_dict.new.self.connections [] fs (moves_looked _ c.poll.result self c.poll.new.self c.poll.ensures) then.0,
      then.1,
    )))
    c.accept_all-by_http.ensures.led c.accept_all-by_http.ensures.trust
    (λ es fs before then. (
      moves_joined self.connections c.accept_all-by_dict.new.self.connections c.accept_all-by_http.new.self.connections es fs before.0 then.0,
      record { readers = es; editors = fs; whole = refl; by_dict = before.1; by_http = then.1 },
    )))
    c.turn-turned.ensures.led c.turn-turned.ensures.trust
    (λ es fs before then. (
      moves_joined self.connections c.accept_all-by_http.new.self.connections c.turn-turned.new.self es fs before.0 then.0,
      taken_round g.S.Opening.refuses asked c.poll.new.self c.accept_all-by_dict.new.self c.accept_all-by_http.new.self es fs before.1 then.1 then.2,
      round_made g.S.Opening.refuses asked (condition g.K.Lookup.has_failed g.K.Lookup.is_closed)
          (IsToldAnew g.K.Lookup.shows g.K.Lookup.leaves_one_of g.K.Lookup.keeps_beside g.K.Lookup.is_trusted g.K.Lookup.has_failed g.K.Lookup.is_closed g.K.Preparer.expects)
          g.K.Preparer.prepares g.T.Transport.taken g.T.Transport.coming g.T.Transport.made
          (g.S.Sockets.told c.poll.new.self.sockets) c.poll.result c.args.desk.now c.turn-turned.new.desk self c.poll.new.self c.accept_all-by_dict.new.self c.accept_all-by_http.new.self _
          c.has_any.result c.turn-turned.result es fs (ap is_ok c.in-Ok.is) c.poll.ensures before.1
          (subst (λ d. TurnEach (condition g.K.Lookup.has_failed g.K.Lookup.is_closed)
          (IsToldAnew g.K.Lookup.shows g.K.Lookup.leaves_one_of g.K.Lookup.keeps_beside g.K.Lookup.is_trusted g.K.Lookup.has_failed g.K.Lookup.is_closed g.K.Preparer.expects)
          g.K.Preparer.prepares g.T.Transport.taken g.T.Transport.coming g.T.Transport.made g.S.Opening.refuses
          c.accept_all-by_http.new.self.hub d c.turn-turned.new.desk c.accept_all-by_http.new.self.connections c.turn-turned.new.self c.turn-turned.result fs)
          (c.accept_all-by_http.ensures.unasked ∙ c.accept_all-by_dict.ensures.unasked) then.3) c.turn-turned.ensures.others refl c.accept_all-by_http.ensures.other refl c.accept_all-by_dict.ensures.other
          (moved_by c.has_any.result c.has_given-is_more.result c.accept_all-by_dict.result c.accept_all-by_http.result c.turn-turned.result _ _ _ c.has_any.ensures
          (c.has_given-is_more.ensures ∙ ap (λ last. nat_lt last c.turn-turned.new.self.last) (c.last_id-last.ensures ∙ c.poll.ensures.last))
          c.accept_all-by_dict.ensures.asked c.accept_all-by_http.ensures.asked),
      λ had. then.4 (only_taken g.S.Opening.refuses asked c.poll.new.self c.accept_all-by_dict.new.self c.accept_all-by_http.new.self es before.1
          (only_looked asked 0 (g.S.Sockets.told c.poll.new.self.sockets) c.poll.result self c.poll.new.self c.poll.ensures had)),
    ))

pub returns-clause-idle : goal.returns-clause-idle
returns-clause-idle g c = λ still. (
    let none = none_of c.has_given-is_more.result c.accept_all-by_dict.result c.accept_all-by_http.result c.turn-turned.result (sym c.has_any.ensures ∙ still) in
    record {
      dict = λ ready. absurd (let never : true ≡ false = sym (ap is_ready (sym c.accept_all-by_http.ensures.other ∙ ready)) ∙ sym c.accept_all-by_dict.ensures.asked ∙ none.1 in cc);
      http = λ ready. absurd (let never : true ≡ false = sym (ap is_ready ready) ∙ sym c.accept_all-by_http.ensures.asked ∙ none.2 in cc);
      read = c.turn-turned.ensures.idle none.3;
    })
