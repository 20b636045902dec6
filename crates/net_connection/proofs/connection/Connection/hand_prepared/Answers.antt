use Rattle.std.proofs.Common.{refl, ap, ◌∙◌}
use Rattle.dict_session.specs.Desks.{condition}
use Rattle.net_hub.specs.Events.{is_of_editor}
use Rattle.net_connection.specs.Causes.{IsRefused}
use Rattle.net_connection.proofs.CauseLemmas.{caused_behind, caused_from, caused_still}
use Rattle.net_connection.proofs.BackLemmas.{back_never, rest_back}
use Rattle.net_connection.specs.Handing.{held_in}
use Rattle.net_connection.proofs.HoldLemmas.{back_once, handed_from, hands_none, led_before, led_behind, led_quiet}
use Rattle.net_connection.proofs.LeaveLemmas.{only_from, only_still}
use Rattle.net_connection.proofs.connection.Connection.hand_prepared.Goals as goal

pub returns-then-prepare-clause-led : goal.returns-then-prepare-clause-led
returns-then-prepare-clause-led g c =
    let old = c.args.self.now in
    let kept = c.prepare.ensures in
    led_quiet kept.shows kept.leaves (λ state at. at) (
      hands_none g.T.Transport.taken g.T.Transport.coming g.T.Transport.made old c.prepare.new.self (held_in old.held) kept.same kept.kind kept.octets,
      back_once (IsRefused g.O.Opening.refuses c.args.hub.now) old c.prepare.new.self kept.same kept.octets (kept.fewer c.if-prepare.true).0,
      caused_still _ old c.prepare.new.self (ap (λ it. it.queue.failures) kept.same),
      λ reader quiet. kept.reader reader,
      only_still c.args.hub.now c.args.hub.now old c.prepare.new.self (ap (λ it. it.id) kept.same) (ap (λ it. it.stage) kept.same) (λ other held has. has),
    )

pub returns-clause-led : goal.returns-clause-led
returns-clause-led g c =
    let old = c.args.self.now in
    let kept = c.prepare.ensures in
    let gone = c.let_go.ensures in
    let stood = condition g.K.Lookup.has_failed g.K.Lookup.is_closed in
    led_before
    (led_behind (led_quiet kept.shows kept.leaves (λ state at. at) refl) c.hand.ensures.led c.hand.ensures.trust
    (λ events handed.
    let both = handed_from g.T.Transport.taken g.T.Transport.coming g.T.Transport.made (IsRefused g.O.Opening.refuses c.args.hub.now) old c.prepare.new.self c.hand.new.self events kept.same kept.kind kept.octets (handed.0, handed.1) in (
      both.0,
      both.1,
      caused_behind (stood c.hand.new.desk) (stood c.let_go.new.desk) old c.hand.new.self events
          (λ reader. ap stood (gone.reader (ap is_of_editor (c.hand.ensures.kind ∙ kept.kind) ∙ reader)))
          (caused_from (stood c.hand.new.desk) old c.prepare.new.self c.hand.new.self events (ap (λ it. it.queue.failures) kept.same) kept.kind handed.2),
      λ reader quiet.
          gone.reader (ap is_of_editor (c.hand.ensures.kind ∙ kept.kind) ∙ reader)
          ∙ handed.3 (ap is_of_editor kept.kind ∙ reader) quiet ∙ kept.reader reader,
      only_from c.args.hub.now c.args.hub.now c.hand.new.hub old c.prepare.new.self c.hand.new.self (ap (λ it. it.id) kept.same) (ap (λ it. it.stage) kept.same) (λ other held has. has) handed.4,
    )))
    (led_quiet gone.shows gone.leaves (λ state at. at) refl) gone.trust

pub returns-clause-others : goal.returns-clause-others
returns-clause-others g c = λ other held apart has. c.hand.ensures.others other held (λ same. apart (same ∙ ap (λ it. it.id) c.prepare.ensures.same)) has

pub returns-then-prepare-clause-back : goal.returns-then-prepare-clause-back
returns-then-prepare-clause-back g c = λ still back.
    let fewer = c.prepare.ensures.fewer c.if-prepare.true in
    (fewer.1, fewer.2, fewer.3, c.prepare.ensures.waited c.if-prepare.true, c.prepare.ensures.octets, c.prepare.ensures.prepared c.if-prepare.true)

pub returns-clause-back : goal.returns-clause-back
returns-clause-back g c = λ still back. back_never _ (rest_back c.hand.new.self.held _ _ c.hand.ensures.kind (c.hand.ensures.whole still)) back
