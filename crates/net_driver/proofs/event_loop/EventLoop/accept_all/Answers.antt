use Rattle.std.proofs.Common.{◌≡◌, ◌-◌, ◌+◌, ◌++◌, [], true, false, suc, refl, sym, ap, subst, ◌∙◌, arith}
use Rattle.net_driver.specs.Listening.{is_ready, may_accept}
use Rattle.net_driver.specs.Looking.{listening_of}
use Rattle.net_driver.specs.declared.listening.Listening.TheVariants.{Ready}
use Rattle.net_driver.proofs.AcceptLemmas.{HasBegun, accepts_not, asks_none, begun_more, begun_none, begun_whole, not_ready, ready_is}
use Rattle.net_connection.proofs.LeadLemmas.{led_as, led_joined, led_still}
use Rattle.net_driver.proofs.RoundLemmas.{moves_joined, moves_same}
use Rattle.net_driver.proofs.event_loop.EventLoop.accept_all.Goals as goal

pub returns-then-not-may_accept-clause-led : goal.returns-then-not-may_accept-clause-led
returns-then-not-may_accept-clause-led g c =
    let self = c.args.self.now in
    let isnt = ap may_accept (sym c.listening.ensures) ∙ sym c.may_accept.ensures ∙ c.if-not-may_accept.true in
    led_still (
      moves_same self.connections self.connections refl (λ id octets now. now),
      ([], asks_none (g.S.Sockets.asked self.sockets), accepts_not g.S.Opening.refuses c.args.kind (listening_of c.args.kind self) self.hub self.connections isnt),
    )

pub returns-then-not-may_accept-clause-asked : goal.returns-then-not-may_accept-clause-asked
returns-then-not-may_accept-clause-asked g c =
    sym (not_ready (listening_of c.args.kind c.args.self.now) (ap may_accept (sym c.listening.ensures) ∙ sym c.may_accept.ensures ∙ c.if-not-may_accept.true))

pub loop-init : goal.loop-init
loop-init g c =
    let self = c.args.self.now in
    record {
      ready = λ some. absurd (omega (arith, some));
      trust = λ trusted. trusted;
      beside = λ beside kept. kept;
      unasked = refl;
      kept = record { rounds = refl; failure = refl };
      other = refl;
      led = led_still (moves_same self.connections self.connections refl (λ id octets now. now), begun_none g.S.Opening.refuses g.S.Sockets.asked c.args.kind self);
    }

pub loop-preserved : goal.loop-preserved
loop-preserved g c =
    let self = c.args.self.now in
    let before = c.loop.invariant in
    let after = c.accept.new.self in
    let ready : listening_of c.args.kind after ≡ Ready = ready_is (listening_of c.args.kind after) (sym c.accept.ensures.asked ∙ c.if-not-accept.false) in
    let left : 16 - c.loop.counter ≡ suc (16 - (c.loop.counter + 1)) = omega (arith, c.loop-test.true) in
    record {
      ready = λ some. ready;
      trust = λ trusted. before.trust (c.accept.ensures.trust trusted);
      beside = λ beside kept. c.accept.ensures.beside beside (before.beside beside kept);
      unasked = c.accept.ensures.unasked ∙ before.unasked;
      kept = record { rounds = c.accept.ensures.kept.rounds ∙ before.kept.rounds; failure = c.accept.ensures.kept.failure ∙ before.kept.failure };
      other = c.accept.ensures.other ∙ before.other;
      led = led_joined before.led c.accept.ensures.led c.accept.ensures.trust
          (λ es fs made then. (
            moves_joined self.connections c.loop.self.connections after.connections es fs made.0 then.0,
            subst (λ l. HasBegun g.S.Opening.refuses g.S.Sockets.asked (16 - (c.loop.counter + 1)) c.args.kind l self after (es ++ fs)) ready
                (begun_more g.S.Opening.refuses g.S.Sockets.asked (16 - c.loop.counter) (16 - (c.loop.counter + 1)) c.args.kind self c.loop.self after es fs left made.1 then.1),
          ));
    }

pub returns-then-not-accept-clause-led : goal.returns-then-not-accept-clause-led
returns-then-not-accept-clause-led g c =
    let self = c.args.self.now in
    let before = c.loop.invariant in
    let after = c.accept.new.self in
    let may = ap may_accept (sym c.listening.ensures) ∙ sym c.may_accept.ensures ∙ c.if-not-may_accept.false in
    let isnt : is_ready (listening_of c.args.kind after) ≡ false = sym c.accept.ensures.asked ∙ c.if-not-accept.true in
    let rest = 16 - (c.loop.counter + 1) in
    let left : 16 - c.loop.counter ≡ suc (16 - (c.loop.counter + 1)) = omega (arith, c.loop-test.true) in
    led_joined before.led c.accept.ensures.led c.accept.ensures.trust
    (λ es fs made then. (
      moves_joined self.connections c.loop.self.connections after.connections es fs made.0 then.0,
      begun_whole g.S.Opening.refuses g.S.Sockets.asked rest c.args.kind (listening_of c.args.kind after) self after (es ++ fs) refl (λ ready. absurd (let never : true ≡ false = sym ready ∙ isnt in cc)) may
          (begun_more g.S.Opening.refuses g.S.Sockets.asked (16 - c.loop.counter) rest c.args.kind self c.loop.self after es fs left made.1 then.1),
    ))

pub returns-then-not-accept-clause-trust : goal.returns-then-not-accept-clause-trust
returns-then-not-accept-clause-trust g c = λ trusted. c.loop.invariant.trust (c.accept.ensures.trust trusted)

pub returns-then-not-accept-clause-beside : goal.returns-then-not-accept-clause-beside
returns-then-not-accept-clause-beside g c = λ beside kept. c.accept.ensures.beside beside (c.loop.invariant.beside beside kept)

pub returns-then-not-accept-clause-unasked : goal.returns-then-not-accept-clause-unasked
returns-then-not-accept-clause-unasked g c = c.accept.ensures.unasked ∙ c.loop.invariant.unasked

pub returns-then-not-accept-clause-kept : goal.returns-then-not-accept-clause-kept
returns-then-not-accept-clause-kept g c =
    let before = c.loop.invariant in
    record { rounds = c.accept.ensures.kept.rounds ∙ before.kept.rounds; failure = c.accept.ensures.kept.failure ∙ before.kept.failure }

pub returns-then-not-accept-clause-asked : goal.returns-then-not-accept-clause-asked
returns-then-not-accept-clause-asked g c = sym c.if-not-accept.true ∙ c.accept.ensures.asked

pub returns-then-not-accept-clause-other : goal.returns-then-not-accept-clause-other
returns-then-not-accept-clause-other g c = c.accept.ensures.other ∙ c.loop.invariant.other

pub returns-clause-led : goal.returns-clause-led
returns-clause-led g c =
    let self = c.args.self.now in
    let before = c.loop.invariant in
    let may = ap may_accept (sym c.listening.ensures) ∙ sym c.may_accept.ensures ∙ c.if-not-may_accept.false in
    let ready : listening_of c.args.kind c.loop.self ≡ Ready = before.ready (omega (arith, c.loop-test.false)) in
    led_as before.led
    (λ events made. (
      made.0,
      begun_whole g.S.Opening.refuses g.S.Sockets.asked (16 - c.loop.counter) c.args.kind Ready self c.loop.self events ready (λ is. omega (arith, c.loop-test.false)) may made.1,
    ))

pub returns-clause-asked : goal.returns-clause-asked
returns-clause-asked g c = sym (ap is_ready (c.loop.invariant.ready (omega (arith, c.loop-test.false))))
