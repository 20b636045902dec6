use Rattle.std.proofs.Common.{◌∙◌, sym, ap}
use Rattle.http_service.specs.Foreseeing.{IsToldAnew}
use Rattle.net_hub.specs.Events.{ended, is_of_editor}
use Rattle.net_connection.specs.Handing.{is_held_back}
use Rattle.net_connection.proofs.BackLemmas.{begins_held, none_back, over_closed, still_held, was_back}
use Rattle.net_connection.proofs.CauseLemmas.{caused_from}
use Rattle.net_connection.proofs.CommandLemmas.{only_no_command}
use Rattle.net_connection.proofs.LeadLemmas.{led_as}
use Rattle.net_connection.proofs.PieceLemmas.{none_held}
use Rattle.net_connection.proofs.TurnLemmas.{failed_is, nothing_came, turns_failed, turns_handed, turns_read, well_isnt}
use Rattle.net_connection.proofs.LeaveLemmas.{only_ended, only_from}
use Rattle.net_connection.proofs.connection.Connection.turn.Goals as goal

pub returns-then-has_failed-clause-led : goal.returns-then-has_failed-clause-led
returns-then-has_failed-clause-led g c =
    led_as c.end.ensures.led
    (λ events over. (
      turns_failed g.T.Transport.taken g.T.Transport.coming g.T.Transport.made c.args.self.now c.send-sent.new.self _ c.send-sent.result events
          (failed_is c.send-sent.result (sym c.has_failed.ensures ∙ c.if-has_failed.true)) c.end.ensures.dropped c.send-sent.ensures c.end.ensures.over (over.0, over.1),
      caused_from _ c.args.self.now c.send-sent.new.self c.end.new.self events c.send-sent.ensures.failures (ap (λ h. h.kind) c.send-sent.ensures.held) over.2,
      λ reader quiet. c.end.ensures.unasked,
      λ is editor. only_no_command c.args.hub.now (ended c.send-sent.new.self.id) events tt over.1,
      only_from c.args.hub.now c.args.hub.now c.end.new.hub c.args.self.now c.send-sent.new.self c.end.new.self c.send-sent.ensures.id c.send-sent.ensures.stage (λ other held has. has)
          (only_ended c.args.hub.now c.end.new.hub c.send-sent.new.self c.end.new.self c.end.ensures.id over.3),
    ))

pub returns-then-not-is_empty-clause-led : goal.returns-then-not-is_empty-clause-led
returns-then-not-is_empty-clause-led g c =
    led_as c.hand_on.ensures.led
    (λ events handed. (
      turns_handed g.T.Transport.taken g.T.Transport.coming g.T.Transport.made c.args.self.now c.send-sent.new.self _ c.send-sent.result events
          (well_isnt c.send-sent.result (sym c.has_failed.ensures ∙ c.if-has_failed.false)) (sym c.is_empty.ensures ∙ c.if-not-is_empty.true) c.hand_on.ensures.dropped c.send-sent.ensures (handed.0, handed.1),
      caused_from _ c.args.self.now c.send-sent.new.self c.hand_on.new.self events c.send-sent.ensures.failures (ap (λ h. h.kind) c.send-sent.ensures.held) handed.2,
      λ reader. handed.3 (ap (λ h. is_of_editor h.kind) c.send-sent.ensures.held ∙ reader),
      λ is editor. handed.4 is (ap (λ h. is_of_editor h.kind) c.send-sent.ensures.held ∙ editor),
      only_from c.args.hub.now c.args.hub.now c.hand_on.new.hub c.args.self.now c.send-sent.new.self c.hand_on.new.self c.send-sent.ensures.id c.send-sent.ensures.stage (λ other held has. has) handed.5,
    ))

pub read-received-requires : goal.read-received-requires
read-received-requires g c = none_held c.send-sent.new.self.held (sym c.is_empty.ensures ∙ c.if-not-is_empty.false)

pub returns-clause-led : goal.returns-clause-led
returns-clause-led g c =
    led_as c.read-received.ensures.led
    (λ events reads. (
      turns_read g.T.Transport.taken g.T.Transport.coming g.T.Transport.made c.args.self.now c.send-sent.new.self _ c.send-sent.result c.read-received.result events
          (well_isnt c.send-sent.result (sym c.has_failed.ensures ∙ c.if-has_failed.false)) (sym c.is_empty.ensures ∙ c.if-not-is_empty.false) c.read-received.ensures.dropped
          c.send-sent.ensures reads.0 c.has_moved.result c.has_moved.ensures,
      caused_from _ c.args.self.now c.send-sent.new.self c.read-received.new.self events c.send-sent.ensures.failures (ap (λ h. h.kind) c.send-sent.ensures.held) reads.1,
      λ reader. reads.2 (ap (λ h. is_of_editor h.kind) c.send-sent.ensures.held ∙ reader),
      λ is editor. reads.3 is (ap (λ h. is_of_editor h.kind) c.send-sent.ensures.held ∙ editor),
      only_from c.args.hub.now c.args.hub.now c.read-received.new.hub c.args.self.now c.send-sent.new.self c.read-received.new.self c.send-sent.ensures.id c.send-sent.ensures.stage (λ other held has. has) reads.4,
    ))

pub returns-clause-idle : goal.returns-clause-idle
returns-clause-idle g c = λ still. c.read-received.ensures.idle (nothing_came c.send-sent.result c.read-received.result (sym c.has_moved.ensures ∙ still))

pub returns-then-has_failed-clause-others : goal.returns-then-has_failed-clause-others
returns-then-has_failed-clause-others g c = λ other held apart has. c.end.ensures.others other held (λ same. apart (same ∙ c.send-sent.ensures.id)) has

pub returns-then-not-is_empty-clause-others : goal.returns-then-not-is_empty-clause-others
returns-then-not-is_empty-clause-others g c = λ other held apart has. c.hand_on.ensures.others other held (λ same. apart (same ∙ c.send-sent.ensures.id)) has

pub returns-clause-others : goal.returns-clause-others
returns-clause-others g c = λ other held apart has. c.read-received.ensures.others other held (λ same. apart (same ∙ c.send-sent.ensures.id)) has

pub returns-then-has_failed-clause-prepared : goal.returns-then-has_failed-clause-prepared
returns-then-has_failed-clause-prepared g c = λ still back. over_closed _ c.end.ensures.over still

pub returns-then-not-is_empty-clause-prepared : goal.returns-then-not-is_empty-clause-prepared
returns-then-not-is_empty-clause-prepared g c = λ still back.
    let before = was_back c.send-sent.new.self.held c.hand_on.new.self.held (sym c.is_empty.ensures ∙ c.if-not-is_empty.true) c.hand_on.ensures.kind back in
    still_held
    (IsToldAnew g.K.Lookup.shows g.K.Lookup.leaves_one_of g.K.Lookup.keeps_beside g.K.Lookup.is_trusted g.K.Lookup.has_failed g.K.Lookup.is_closed g.K.Preparer.expects)
    g.K.Preparer.prepares c.args.is_behind c.args.hub.now c.args.desk.now c.hand_on.new.desk c.send-sent.new.self.id c.args.self.now.id c.args.self.now.held c.send-sent.new.self.held c.hand_on.new.self.held
    c.send-sent.ensures.held c.send-sent.ensures.id before (c.hand_on.ensures.back still back)

pub returns-clause-prepared : goal.returns-clause-prepared
returns-clause-prepared g c = λ still back.
    let none = none_back c.send-sent.new.self.held (none_held c.send-sent.new.self.held (sym c.is_empty.ensures ∙ c.if-not-is_empty.false)) in
    begins_held
    (IsToldAnew g.K.Lookup.shows g.K.Lookup.leaves_one_of g.K.Lookup.keeps_beside g.K.Lookup.is_trusted g.K.Lookup.has_failed g.K.Lookup.is_closed g.K.Preparer.expects)
    g.K.Preparer.prepares c.args.is_behind c.args.hub.now c.args.desk.now c.read-received.new.desk c.send-sent.new.self.id c.args.self.now.id c.args.self.now.held c.read-received.new.self.held
    c.send-sent.ensures.id (ap is_held_back (sym c.send-sent.ensures.held) ∙ none) (c.read-received.ensures.prepared still back)
