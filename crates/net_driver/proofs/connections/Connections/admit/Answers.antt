use Rattle.std.proofs.Common.{◌≡◌, ◌<◌, ◌+◌, refl, sym, ◌∙◌, subst, inl, inr, arith}
use Rattle.net_connection.specs.Opening.{IsConnectionUnopened}
use Rattle.net_driver.specs.Rounds.{Moves}
use Rattle.net_connection.specs.Turns.{IsOpened}
use Rattle.net_connection.proofs.LeadLemmas.{led_as, led_still}
use Rattle.net_driver.proofs.ListLemmas.{apart_push, rising_push, given_push}
use Rattle.net_driver.proofs.RoundLemmas.{moves_same, moves_opened, opened_flows, opened_own}
use Rattle.net_driver.proofs.connections.Connections.admit.Goals as goal

pub returns-in_default-clause-led : goal.returns-in_default-clause-led
returns-in_default-clause-led g c =
    led_still (moves_same c.args.self.now c.args.self.now refl (λ id octets now. now), inl (refl, refl, refl, refl, (λ other held has. has), inl c.in_default.ensures))

-- the new id is above all
above : (g : _) (c : goal.After-push_reserved g) → c.args.self.now.last < c.in-Some-open.one.id
above g c =
    let id : c.in-Some-open.one.id ≡ c.in-Some.id = c.in-Some-open.ensures.id in
    let value : c.in-Some.id ≡ c.args.self.now.last + 1 = c.in-Some.ensures.0 in
    omega arith

pub invariant_of-self-clause-apart : goal.invariant_of-self-clause-apart
invariant_of-self-clause-apart g c =
    rw c.push_reserved.ensures.items
    (apart_push c.args.self.now.opened.items c.args.self.now.departing.items c.in-Some-open.one c.args.self.now.last c.args.self.now.apart c.args.self.now.given_departing (above g c))

pub invariant_of-self-clause-rising : goal.invariant_of-self-clause-rising
invariant_of-self-clause-rising g c =
    rw c.push_reserved.ensures.items (rising_push c.args.self.now.opened.items c.in-Some-open.one c.args.self.now.last c.args.self.now.rising c.args.self.now.given_open (above g c))

pub invariant_of-self-clause-given_open : goal.invariant_of-self-clause-given_open
invariant_of-self-clause-given_open g c =
    let id : c.in-Some-open.one.id ≡ c.in-Some.id = c.in-Some-open.ensures.id in
    let value : c.in-Some.id ≡ c.args.self.now.last + 1 = c.in-Some.ensures.0 in
    rw c.push_reserved.ensures.items (given_push c.args.self.now.opened.items c.in-Some-open.one c.args.self.now.last c.in-Some.id c.args.self.now.given_open (omega arith) (omega arith))

pub returns-in-Some-open-clause-led : goal.returns-in-Some-open-clause-led
returns-in-Some-open-clause-led g c =
    let one = c.in-Some-open.one in
    let id : one.id ≡ c.in-Some.id = c.in-Some-open.ensures.id in
    let value : c.in-Some.id ≡ c.args.self.now.last + 1 = c.in-Some.ensures.0 in
    let up : c.args.self.now.last < one.id = omega arith in
    led_as c.in-Some-open.ensures.led
    (λ events opened. (
      moves_opened c.args.self.now _ one events c.push_reserved.ensures.items refl (sym id) up
          (opened_own one.id c.args.kind c.open.new.hub one events (subst (λ i. IsOpened i c.args.kind c.open.new.hub one events) (sym id) opened))
          (opened_flows c.in-Some.id c.args.kind c.open.new.hub one events opened),
      inr (
        one,
        subst (λ i. IsOpened i c.args.kind c.open.new.hub one events) value opened,
        id ∙ value,
        c.in-Some-open.ensures.transport,
        c.in-Some-open.ensures.may_receive,
        c.in-Some-open.ensures.kind,
        c.in-Some-open.ensures.held,
        c.in-Some-open.ensures.dropped,
        c.push_reserved.ensures.items,
        refl,
        value,
        λ other held apart has. c.open.ensures.others other held (λ same. apart (same ∙ value)) has,
      ),
    ))

pub returns-in_default-open-clause-led : goal.returns-in_default-open-clause-led
returns-in_default-open-clause-led g c =
    led_as c.in_default-open.ensures.led
    (λ events none. (
      subst (λ es. Moves c.args.self.now c.args.self.now es) (sym none) (moves_same c.args.self.now c.args.self.now refl (λ id octets now. now)),
      inl (
        none,
        refl,
        refl,
        refl,
        c.in_default-open.ensures.unopened.1,
        inr (subst (λ i. IsConnectionUnopened g.O.Opening.refuses c.args.hub.now i c.args.kind) c.in-Some.ensures.0 c.in_default-open.ensures.unopened.0),
      ),
    ))

pub returns-in-Some-open-clause-others : goal.returns-in-Some-open-clause-others
returns-in-Some-open-clause-others g c = λ other held apart has. c.open.ensures.others other held (λ same. apart (same ∙ c.in-Some.ensures.0)) has

pub returns-in_default-open-clause-others : goal.returns-in_default-open-clause-others
returns-in_default-open-clause-others g c = λ other held apart has. c.open.ensures.others other held (λ same. apart (same ∙ c.in-Some.ensures.0)) has
