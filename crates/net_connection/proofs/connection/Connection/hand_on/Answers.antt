use Rattle.std.proofs.Common.{refl, ap, ◌∙◌, inl}
use Rattle.http_service.specs.Foreseeing.{IsToldAnew}
use Rattle.net_hub.specs.Events.{is_of_editor}
use Rattle.net_connection.specs.Causes.{IsRefused}
use Rattle.net_connection.specs.Handing.{held_in}
use Rattle.net_connection.proofs.BackLemmas.{back_never, prepares_on, rest_back, waits_still}
use Rattle.net_connection.proofs.CauseLemmas.{caused_from, caused_still}
use Rattle.net_connection.proofs.CommandLemmas.{answered_no_command}
use Rattle.net_connection.proofs.HoldLemmas.{answer_over, back_once, handed_over, hands_none, led_behind, led_quiet, refused_over}
use Rattle.net_connection.proofs.QuietLemmas.{quiet_kept}
use Rattle.net_connection.proofs.LeaveLemmas.{only_from, only_still}
use Rattle.net_connection.proofs.connection.Connection.hand_on.Goals as goal

pub returns-then-not-is_behind-clause-led : goal.returns-then-not-is_behind-clause-led
returns-then-not-is_behind-clause-led g c =
    let told = c.foresee.ensures in
    led_behind (led_quiet told.shows told.leaves told.state refl) c.hand_prepared.ensures.led c.hand_prepared.ensures.trust
    (λ events handed.
    let both = handed_over g.T.Transport.taken g.T.Transport.coming g.T.Transport.made (IsRefused g.O.Opening.refuses c.args.hub.now) (IsRefused g.O.Opening.refuses c.foresee.new.hub) c.args.self.now c.foresee.new.self
    c.hand_prepared.new.self events
    told.same told.kind told.octets (refused_over g.O.Opening.refuses c.args.hub.now c.foresee.new.hub told.kept) (handed.0, handed.1) in (
      both.0,
      both.1,
      caused_from _ c.args.self.now c.foresee.new.self c.hand_prepared.new.self events (ap (λ it. it.queue.failures) told.same) told.kind handed.2,
      λ reader quiet. handed.3 (ap is_of_editor told.kind ∙ reader) (quiet_kept c.args.hub.now c.foresee.new.hub told.kept events quiet) ∙ told.reader reader,
      λ is editor. back_never _ c.if-not-is_behind.true is,
      only_from c.args.hub.now c.foresee.new.hub c.hand_prepared.new.hub c.args.self.now c.foresee.new.self c.hand_prepared.new.self (ap (λ it. it.id) told.same) (ap (λ it. it.stage) told.same) told.kept handed.4,
    ))

pub returns-then-asks_change-clause-led : goal.returns-then-asks_change-clause-led
returns-then-asks_change-clause-led g c =
    let old = c.args.self.now in
    let new = record old { held = c.wait.new.self } in
    led_quiet (λ trusted M shown. shown) (λ ms left. left) c.asks_change.ensures.state (
      hands_none g.T.Transport.taken g.T.Transport.coming g.T.Transport.made old new (held_in old.held) refl c.wait.ensures.kind c.wait.ensures.octets,
      back_once (IsRefused g.O.Opening.refuses c.args.hub.now) old new refl c.wait.ensures.octets (c.asks_change.ensures.yes c.if-asks_change.true).0,
      caused_still _ old new refl,
      λ reader quiet. refl,
      λ is editor. tt,
      only_still c.args.hub.now c.asks_change.new.hub old new refl refl c.asks_change.ensures.kept,
    )

pub returns-clause-led : goal.returns-clause-led
returns-clause-led g c =
    let old = c.args.self.now in
    let kept = c.asks_change.ensures in
    led_behind (led_quiet (λ trusted M shown. shown) (λ ms left. left) kept.state refl) c.hand.ensures.led c.hand.ensures.trust
    (λ events handed. (
      handed.0,
      inl (answer_over (IsRefused g.O.Opening.refuses c.args.hub.now) (IsRefused g.O.Opening.refuses c.asks_change.new.hub) (held_in old.held) old c.hand.new.self events
          (refused_over g.O.Opening.refuses c.args.hub.now c.asks_change.new.hub kept.kept) handed.1),
      handed.2,
      λ reader quiet. handed.3 reader (quiet_kept c.args.hub.now c.asks_change.new.hub kept.kept events quiet),
      λ is editor. answered_no_command (IsRefused g.O.Opening.refuses c.asks_change.new.hub) c.args.hub.now old c.hand.new.self events editor (kept.no c.if-asks_change.false editor) handed.1,
      only_from c.args.hub.now c.asks_change.new.hub c.hand.new.hub old old c.hand.new.self refl refl kept.kept handed.4,
    ))

pub returns-then-not-is_behind-clause-back : goal.returns-then-not-is_behind-clause-back
returns-then-not-is_behind-clause-back g c = λ still back.
    let at = c.hand_prepared.ensures.back still back in
    let told = c.foresee.ensures in
    prepares_on
    (IsToldAnew g.K.Lookup.shows g.K.Lookup.leaves_one_of g.K.Lookup.keeps_beside g.K.Lookup.is_trusted g.K.Lookup.has_failed g.K.Lookup.is_closed g.K.Preparer.expects)
    g.K.Preparer.prepares c.args.is_behind c.args.hub.now c.args.desk.now c.foresee.new.desk c.hand_prepared.new.desk c.args.self.now.id c.args.self.now.held c.foresee.new.self.held
    c.hand_prepared.new.self.held
    c.if-not-is_behind.true back at.4 told.waited told.before told.told at.0 at.1 at.2 at.3 at.5

pub returns-then-asks_change-clause-back : goal.returns-then-asks_change-clause-back
returns-then-asks_change-clause-back g c = λ still back.
    waits_still
    (IsToldAnew g.K.Lookup.shows g.K.Lookup.leaves_one_of g.K.Lookup.keeps_beside g.K.Lookup.is_trusted g.K.Lookup.has_failed g.K.Lookup.is_closed g.K.Preparer.expects)
    g.K.Preparer.prepares c.args.is_behind c.args.hub.now c.args.desk.now c.args.self.now.id c.args.self.now.held c.wait.new.self c.if-not-is_behind.false back c.wait.ensures.octets
    c.wait.ensures.foreseen c.wait.ensures.turns c.wait.ensures.waited (c.asks_change.ensures.yes c.if-asks_change.true).1

pub returns-clause-back : goal.returns-clause-back
returns-clause-back g c = λ still back. back_never _ (rest_back c.hand.new.self.held _ _ c.hand.ensures.kind (c.hand.ensures.whole still)) back

pub returns-then-not-is_behind-clause-others : goal.returns-then-not-is_behind-clause-others
returns-then-not-is_behind-clause-others g c = λ other held apart has.
    c.hand_prepared.ensures.others other held (λ same. apart (same ∙ ap (λ it. it.id) c.foresee.ensures.same)) (c.foresee.ensures.kept other held has)

pub returns-then-asks_change-clause-others : goal.returns-then-asks_change-clause-others
returns-then-asks_change-clause-others g c = λ other held apart has. c.asks_change.ensures.kept other held has

pub returns-clause-others : goal.returns-clause-others
returns-clause-others g c = λ other held apart has. c.hand.ensures.others other held apart (c.asks_change.ensures.kept other held has)
