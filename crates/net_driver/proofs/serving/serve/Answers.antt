use Rattle.std.proofs.Common.{◌≡◌, ◌<◌, ◌+◌, ◌^◌, ◌∙◌, [], ◌∷◌, ◌++◌, Bool, true, false, Ok, Err, refl, sym, subst, ap, arith}
use Rattle.std.proofs.lemmas.Result.{err_from_is_err_and}
use Rattle.std.specs.Duration.{as_nanos}
use Rattle.std.specs.Prelude.{None, Some, Result, is_err, min, ◌≤◌, ◌-◌}
use Rattle.net_hub.specs.Runs.{IsAt}
use Rattle.net_driver.specs.Looking.{WaitsIf}
use Rattle.net_driver.specs.Rounds.{Moves}
use Rattle.net_driver.specs.Served.{Round, ended, is_waited}
use Rattle.net_driver.specs.declared.serving.RoundsEnd.TheVariants.{Closed}
use Rattle.net_connection.proofs.LeadLemmas.{led_joined, led_none, led_still}
use Rattle.net_driver.proofs.RoundLemmas.{moves_same, moves_joined}
use Rattle.net_driver.proofs.ServedLemmas.{closed_by_summary, made_last, made_more, made_whole, waits_not}
use Rattle.net_driver.proofs.serving.serve.Goals as goal

-- a desk that shows its summary isn't closed
open_by_summary : {A E : Type 0} (closed : Bool) (result : Result A E) (fault : E) (told : Bool) → (closed ≡ true → result ≡ Err fault) → told ≡ is_err result → told ≡ false → closed ≡ false
open_by_summary true result fault told tells is fine = sym (is ∙ ap is_err (tells refl)) ∙ fine
open_by_summary false result fault told tells is fine = refl

pub loop-made-init : goal.loop-made-init
loop-made-init g c =
    record {
      by_rounds = ([], (omega arith, refl, refl));
      grown = omega arith;
      counted = λ few. omega arith;
      is_open = λ lt. absurd (omega (arith, lt));
      trust = λ trusted. trusted;
      beside = λ beside kept. kept;
      led =
          led_still (moves_same c.args.event_loop.now.connections c.args.event_loop.now.connections refl (λ id octets now. now));
    }

pub returns-in_err-has_moved-clause-led : goal.returns-in_err-has_moved-clause-led
returns-in_err-has_moved-clause-led g c =
    led_joined c.loop-made.invariant.led c.round.ensures.led c.round.ensures.trust
    (λ es fs before then. moves_joined c.args.event_loop.now.connections c.loop-made.event_loop.connections c.round.new.self.connections es fs before then.0)

pub returns-then-is_err-clause-led : goal.returns-then-is_err-clause-led
returns-then-is_err-clause-led g c =
    led_joined c.loop-made.invariant.led c.round.ensures.led c.round.ensures.trust
    (λ es fs before then. moves_joined c.args.event_loop.now.connections c.loop-made.event_loop.connections c.round.new.self.connections es fs before then.0)

pub returns-in_err-wait_if-clause-led : goal.returns-in_err-wait_if-clause-led
returns-in_err-wait_if-clause-led g c =
    led_joined
    (led_joined {R = λ events. Moves c.args.event_loop.now.connections c.round.new.self.connections events} c.loop-made.invariant.led c.round.ensures.led c.round.ensures.trust
    (λ es fs before then. moves_joined c.args.event_loop.now.connections c.loop-made.event_loop.connections c.round.new.self.connections es fs before then.0))
    (led_none {P = λ events. Moves c.round.new.self.connections c.wait_if.new.event_loop.connections events} (λ state at. subst (λ h. IsAt h state) (sym c.wait_if.ensures.hub) at)
    (moves_same c.round.new.self.connections c.wait_if.new.event_loop.connections c.wait_if.ensures.last c.wait_if.ensures.waits))
    (λ trusted. trusted)
    (λ es fs before then. moves_joined c.args.event_loop.now.connections c.round.new.self.connections c.wait_if.new.event_loop.connections es fs before then)

pub returns-in_err-has_moved-clause-by_rounds : goal.returns-in_err-has_moved-clause-by_rounds
returns-in_err-has_moved-clause-by_rounds g c =
    let held = c.loop-made.invariant.by_rounds in
    let rest = c.args.rounds - c.loop-made.made in
    let error = err_from_is_err_and c.from_residual.result c.from_residual.ensures.1 in
    let one : Round _ _ _ _ = record {
      before = c.loop-made.event_loop;
      desk = c.loop-made.desk;
      result = Err c.in_err-has_moved.field-0.0;
      made = c.round.new.self;
      left = c.round.new.desk;
      waited = Ok tt;
      after = c.round.new.self;
    } in
    rw (error.1, error.2) (
      held.0 ++ one ∷ [],
      made_last g.K.Lookup.shows g.K.Lookup.leaves_one_of g.K.Lookup.keeps_beside g.K.Lookup.is_trusted g.K.Lookup.has_failed g.K.Lookup.is_closed g.K.Preparer.expects g.K.Preparer.prepares g.T.Transport.taken g.T.Transport.coming
          g.T.Transport.made
          g.S.Opening.refuses g.S.Sockets.asked g.S.Sockets.told (as_nanos c.args.wait)
          c.args.rounds rest c.args.event_loop.now c.loop-made.event_loop c.args.desk.now c.loop-made.desk held.0 one (Err c.in_err-has_moved.field-0.0) held.1 refl refl
          (record {
            some = omega (arith, c.loop-made-test.true);
            round = record {
              led = c.in_err-has_moved.ensures.led;
              trust = c.round.ensures.trust;
              beside = c.round.ensures.beside;
              rounds = c.in_err-has_moved.ensures.rounds;
              grown = c.round.ensures.grown;
              idle = c.in_err-has_moved.ensures.idle;
              failure = c.in_err-has_moved.ensures.failure;
            };
            waits = (refl, refl);
          })
          refl,
    )

pub returns-then-is_err-clause-by_rounds : goal.returns-then-is_err-clause-by_rounds
returns-then-is_err-clause-by_rounds g c =
    let held = c.loop-made.invariant.by_rounds in
    let rest = c.args.rounds - c.loop-made.made in
    let moved = c.in_ok-has_moved.has_moved in
    let after = c.round.new.self in
    let closed : g.K.Lookup.is_closed c.round.new.desk ≡ true = closed_by_summary _ _ _ c.summary.ensures.open c.is_err.ensures.value c.if-is_err.true in
    let one : Round _ _ _ _ = record { before = c.loop-made.event_loop; desk = c.loop-made.desk; result = Ok moved; made = after; left = c.round.new.desk; waited = Ok tt; after = after } in (
      held.0 ++ one ∷ [],
      made_last g.K.Lookup.shows g.K.Lookup.leaves_one_of g.K.Lookup.keeps_beside g.K.Lookup.is_trusted g.K.Lookup.has_failed g.K.Lookup.is_closed g.K.Preparer.expects g.K.Preparer.prepares g.T.Transport.taken g.T.Transport.coming
          g.T.Transport.made
          g.S.Opening.refuses g.S.Sockets.asked g.S.Sockets.told (as_nanos c.args.wait)
          c.args.rounds rest c.args.event_loop.now c.loop-made.event_loop c.args.desk.now c.loop-made.desk held.0 one (Ok (Closed (rest - 1))) held.1 refl refl
          (record {
            some = omega (arith, c.loop-made-test.true);
            round = record {
              led = c.in_ok-has_moved.ensures.led;
              trust = c.round.ensures.trust;
              beside = c.round.ensures.beside;
              rounds = c.in_ok-has_moved.ensures.rounds;
              grown = c.round.ensures.grown;
              idle = c.in_ok-has_moved.ensures.idle;
              failure = c.in_ok-has_moved.ensures.failure;
            };
            waits = subst (λ b. WaitsIf g.S.Sockets.asked (as_nanos c.args.wait) (g.S.Sockets.told after.sockets) b (Ok tt) after after) (sym (ap (λ b. is_waited (Ok moved) b rest) closed ∙ waits_not moved rest)) (refl, refl);
          })
          (subst (λ b. ended (Ok moved) b (Ok tt) rest ≡ Some (Ok (Closed (rest - 1)))) (sym closed) refl),
    )

pub returns-in_err-wait_if-clause-by_rounds : goal.returns-in_err-wait_if-clause-by_rounds
returns-in_err-wait_if-clause-by_rounds g c =
    let held = c.loop-made.invariant.by_rounds in
    let rest = c.args.rounds - c.loop-made.made in
    let moved = c.in_ok-has_moved.has_moved in
    let made = c.round.new.self in
    let after = c.wait_if.new.event_loop in
    let fault = c.in_err-wait_if.field-0.0 in
    let error = err_from_is_err_and c.from_residual-in_err-wait_if.result c.from_residual-in_err-wait_if.ensures.1 in
    let closed : g.K.Lookup.is_closed c.round.new.desk ≡ false = open_by_summary _ _ _ _ c.summary.ensures.closed c.is_err.ensures.value c.if-is_err.false in
    let one : Round _ _ _ _ = record { before = c.loop-made.event_loop; desk = c.loop-made.desk; result = Ok moved; made = made; left = c.round.new.desk; waited = Err fault; after = after } in
    rw (error.1, error.2) (
      held.0 ++ one ∷ [],
      made_last g.K.Lookup.shows g.K.Lookup.leaves_one_of g.K.Lookup.keeps_beside g.K.Lookup.is_trusted g.K.Lookup.has_failed g.K.Lookup.is_closed g.K.Preparer.expects g.K.Preparer.prepares g.T.Transport.taken g.T.Transport.coming
          g.T.Transport.made
          g.S.Opening.refuses g.S.Sockets.asked g.S.Sockets.told (as_nanos c.args.wait)
          c.args.rounds rest c.args.event_loop.now c.loop-made.event_loop c.args.desk.now c.loop-made.desk held.0 one (Err fault) held.1 refl refl
          (record {
            some = omega (arith, c.loop-made-test.true);
            round = record {
              led = c.in_ok-has_moved.ensures.led;
              trust = c.round.ensures.trust;
              beside = c.round.ensures.beside;
              rounds = c.in_ok-has_moved.ensures.rounds;
              grown = c.round.ensures.grown;
              idle = c.in_ok-has_moved.ensures.idle;
              failure = c.in_ok-has_moved.ensures.failure;
            };
            waits = subst (λ b. WaitsIf g.S.Sockets.asked (as_nanos c.args.wait) (g.S.Sockets.told after.sockets) b (Err fault) made after) (c.is_wait_due.ensures ∙ ap (λ b. is_waited (Ok moved) b rest) (sym closed))
                c.in_err-wait_if.ensures.behind;
          })
          (subst (λ b. ended (Ok moved) b (Err fault) rest ≡ Some (Err fault)) (sym closed) refl),
    )

pub returns-clause-by_rounds : goal.returns-clause-by_rounds
returns-clause-by_rounds g c =
    let held = c.loop-made.invariant.by_rounds in (
      held.0,
      made_whole g.K.Lookup.shows g.K.Lookup.leaves_one_of g.K.Lookup.keeps_beside g.K.Lookup.is_trusted g.K.Lookup.has_failed g.K.Lookup.is_closed g.K.Preparer.expects g.K.Preparer.prepares g.T.Transport.taken g.T.Transport.coming
          g.T.Transport.made
          g.S.Opening.refuses g.S.Sockets.asked g.S.Sockets.told (as_nanos c.args.wait)
          c.args.rounds (c.args.rounds - c.loop-made.made) c.args.event_loop.now c.loop-made.event_loop c.args.desk.now c.loop-made.desk held.0 held.1 (omega (arith, c.loop-made-test.false)),
    )

pub loop-made-preserved : goal.loop-made-preserved
loop-made-preserved g c = record {
  by_rounds =
      let held = c.loop-made.invariant.by_rounds in
      let rest = c.args.rounds - c.loop-made.made in
      let moved = c.in_ok-has_moved.has_moved in
      let made = c.round.new.self in
      let after = c.wait_if.new.event_loop in
      let closed : g.K.Lookup.is_closed c.round.new.desk ≡ false = open_by_summary _ _ _ _ c.summary.ensures.closed c.is_err.ensures.value c.if-is_err.false in
      let one : Round _ _ _ _ = record { before = c.loop-made.event_loop; desk = c.loop-made.desk; result = Ok moved; made = made; left = c.round.new.desk; waited = Ok tt; after = after } in (
        held.0 ++ one ∷ [],
        made_more g.K.Lookup.shows g.K.Lookup.leaves_one_of g.K.Lookup.keeps_beside g.K.Lookup.is_trusted g.K.Lookup.has_failed g.K.Lookup.is_closed g.K.Preparer.expects g.K.Preparer.prepares g.T.Transport.taken g.T.Transport.coming
            g.T.Transport.made
            g.S.Opening.refuses g.S.Sockets.asked g.S.Sockets.told (as_nanos c.args.wait)
            c.args.rounds rest (c.args.rounds - (c.loop-made.made + 1)) c.args.event_loop.now c.loop-made.event_loop c.args.desk.now c.loop-made.desk held.0 one held.1 refl refl
            (record {
              some = omega (arith, c.loop-made-test.true);
              round = record {
                led = c.in_ok-has_moved.ensures.led;
                trust = c.round.ensures.trust;
                beside = c.round.ensures.beside;
                rounds = c.in_ok-has_moved.ensures.rounds;
                grown = c.round.ensures.grown;
                idle = c.in_ok-has_moved.ensures.idle;
                failure = c.in_ok-has_moved.ensures.failure;
              };
              waits = subst (λ b. WaitsIf g.S.Sockets.asked (as_nanos c.args.wait) (g.S.Sockets.told after.sockets) b (Ok tt) made after) (c.is_wait_due.ensures ∙ ap (λ b. is_waited (Ok moved) b rest) (sym closed))
                  c.in_ok-wait_if.ensures.behind;
            })
            (subst (λ b. ended (Ok moved) b (Ok tt) rest ≡ None) (sym closed) refl) (omega arith),
      );
  grown =
      let before : c.args.event_loop.now.rounds ≤ c.loop-made.event_loop.rounds = c.loop-made.invariant.grown in
      let one : c.loop-made.event_loop.rounds ≤ c.round.new.self.rounds = c.round.ensures.grown in
      let kept : c.wait_if.new.event_loop.rounds ≡ c.round.new.self.rounds = c.wait_if.ensures.rounds in
      omega (arith, before, one, kept);
  counted = λ few.
      let before : c.loop-made.event_loop.rounds ≡ c.args.event_loop.now.rounds + c.loop-made.made = c.loop-made.invariant.counted few in
      let room : c.loop-made.event_loop.rounds + 1 < 2 ^ 64 = omega (arith, few, before) in
      let one : c.round.new.self.rounds ≡ min (c.loop-made.event_loop.rounds + 1) (2 ^ 64 - 1) = c.in_ok-has_moved.ensures.rounds in
      let kept : c.wait_if.new.event_loop.rounds ≡ c.round.new.self.rounds = c.wait_if.ensures.rounds in
      omega (arith, before, one, kept, room);
  is_open = λ lt. open_by_summary _ _ _ _ c.summary.ensures.closed c.is_err.ensures.value c.if-is_err.false;
  trust = λ trusted. c.loop-made.invariant.trust (c.round.ensures.trust trusted);
  beside = λ beside kept. c.round.ensures.beside beside (c.loop-made.invariant.beside beside kept);
  led = led_joined
      (led_joined {R = λ events. Moves c.args.event_loop.now.connections c.round.new.self.connections events} c.loop-made.invariant.led c.round.ensures.led c.round.ensures.trust
      (λ es fs before then. moves_joined c.args.event_loop.now.connections c.loop-made.event_loop.connections c.round.new.self.connections es fs before then.0))
      (led_none {P = λ events. Moves c.round.new.self.connections c.wait_if.new.event_loop.connections events} (λ state at. subst (λ h. IsAt h state) (sym c.wait_if.ensures.hub) at)
      (moves_same c.round.new.self.connections c.wait_if.new.event_loop.connections c.wait_if.ensures.last c.wait_if.ensures.waits))
      (λ trusted. trusted)
      (λ es fs before then. moves_joined c.args.event_loop.now.connections c.round.new.self.connections c.wait_if.new.event_loop.connections es fs before then);
}
