use Rattle.std.proofs.Common.{◌≡◌, ◌∙◌, refl, sym, ap, subst, [], take, true, false}
use Rattle.std.proofs.KnownBytes.{Consumes-nil, Keeps-refl}
use Rattle.http_service.specs.Foreseeing.{IsToldAnew}
use Rattle.net_connection.specs.Handing.{held_in, is_held_back}
use Rattle.net_connection.specs.Causes.{IsRefused}
use Rattle.net_connection.proofs.CauseLemmas.{caused_from, caused_still}
use Rattle.net_connection.proofs.BackLemmas.{back_never, filled_held, none_back, over_closed}
use Rattle.net_connection.specs.Turns.{ReadsOnce}
use Rattle.net_outlet.specs.declared.calls.Received.TheVariants as receiveds
use Rattle.net_connection.proofs.CallLemmas.{makes_none}
use Rattle.net_connection.proofs.LeadLemmas.{led_as, led_still}
use Rattle.net_connection.proofs.CommandLemmas.{only_no_command}
use Rattle.net_connection.proofs.HoldLemmas.{reads_octets}
use Rattle.net_hub.specs.Events.{ended, is_of_editor}
use Rattle.net_connection.proofs.TurnLemmas.{reads_none, reads_still}
use Rattle.net_connection.proofs.LeaveLemmas.{only_ended, only_from, only_still}
use Rattle.net_connection.proofs.connection.Connection.read.Goals as goal

pub returns-then-not-self-clause-led : goal.returns-then-not-self-clause-led
returns-then-not-self-clause-led g c =
    led_still (
      reads_none g.T.Transport.taken g.T.Transport.coming g.T.Transport.made c.args.self.now c.args.self.now receiveds.Nothing refl refl refl refl c.requires (Keeps-refl _) (Consumes-nil _)
          (rw c.if-not-self.true (makes_none _)) (λ isnt. refl) ((refl, refl, refl), c.if-not-self.true),
      caused_still _ c.args.self.now c.args.self.now refl,
      λ reader quiet. refl,
      λ is editor. tt,
      only_still c.args.hub.now c.args.hub.now c.args.self.now c.args.self.now refl refl (λ other held has. has),
    )

pub returns-in-Octets-clause-led : goal.returns-in-Octets-clause-led
returns-in-Octets-clause-led g c =
    let same = c.receive-received.ensures.same in
    let filled = record c.receive-received.new.self { held = c.fill.new.self } in
    let kind = c.fill.ensures.kind ∙ ap (λ it. it.held.kind) same in
    led_as c.hand_on.ensures.led
    (λ events handed. (
      reads_octets g.T.Transport.taken g.T.Transport.coming g.T.Transport.made c.args.self.now c.receive-received.new.self filled c.hand_on.new.self c.in-Octets.count
          (take c.in-Octets.count c.receive-received.new.room) events same refl c.if-not-self.false c.fill.ensures.kind c.fill.ensures.octets
          c.receive-received.ensures.taken c.in-Octets.ensures.gives c.in-Octets.ensures.made (handed.0, handed.1),
      caused_from _ c.args.self.now filled c.hand_on.new.self events (ap (λ it. it.queue.failures) same) kind handed.2,
      λ reader. handed.3 (ap is_of_editor kind ∙ reader),
      λ is editor. handed.4 is (ap is_of_editor kind ∙ editor),
      only_from c.args.hub.now c.args.hub.now c.hand_on.new.hub c.args.self.now filled c.hand_on.new.self (ap (λ it. it.id) same) (ap (λ it. it.stage) same) (λ other held has. has) handed.5,
    ))

pub returns-in-End-clause-led : goal.returns-in-End-clause-led
returns-in-End-clause-led g c =
    led_as c.end_input.ensures.led
    (λ events handed. (
      subst (λ r. ReadsOnce g.T.Transport.taken g.T.Transport.coming g.T.Transport.made (IsRefused g.O.Opening.refuses c.args.hub.now) c.args.self.now c.end_input.new.self r events) (sym c.in-End.is)
          (reads_still g.T.Transport.taken g.T.Transport.coming g.T.Transport.made c.args.self.now c.receive-received.new.self c.end_input.new.self receiveds.End events c.receive-received.ensures.same c.requires
          c.if-not-self.false c.receive-received.ensures.taken c.in-End.ensures.gives c.in-End.ensures.made handed.0 handed.1),
      caused_from _ c.args.self.now c.receive-received.new.self c.end_input.new.self events (ap (λ it. it.queue.failures) c.receive-received.ensures.same) (ap (λ it. it.held.kind) c.receive-received.ensures.same) handed.2,
      λ reader quiet. c.end_input.ensures.unasked,
      λ is editor. only_no_command c.args.hub.now (ended c.receive-received.new.self.id) events tt handed.1.0,
      only_from c.args.hub.now c.args.hub.now c.end_input.new.hub c.args.self.now c.receive-received.new.self c.end_input.new.self (ap (λ it. it.id) c.receive-received.ensures.same) (ap (λ it. it.stage) c.receive-received.ensures.same)
          (λ other held has. has) (only_ended c.args.hub.now c.end_input.new.hub c.receive-received.new.self c.end_input.new.self c.end_input.ensures.id handed.3),
    ))

pub returns-in-Failed-clause-led : goal.returns-in-Failed-clause-led
returns-in-Failed-clause-led g c =
    led_as c.end.ensures.led
    (λ events handed. (
      subst (λ r. ReadsOnce g.T.Transport.taken g.T.Transport.coming g.T.Transport.made (IsRefused g.O.Opening.refuses c.args.hub.now) c.args.self.now c.end.new.self r events) (sym c.in-Failed.is)
          (reads_still g.T.Transport.taken g.T.Transport.coming g.T.Transport.made c.args.self.now c.receive-received.new.self c.end.new.self receiveds.Failed events c.receive-received.ensures.same c.requires
          c.if-not-self.false c.receive-received.ensures.taken c.in-Failed.ensures.gives c.in-Failed.ensures.made handed.0 (handed.1, c.end.ensures.over)),
      caused_from _ c.args.self.now c.receive-received.new.self c.end.new.self events (ap (λ it. it.queue.failures) c.receive-received.ensures.same) (ap (λ it. it.held.kind) c.receive-received.ensures.same) handed.2,
      λ reader quiet. c.end.ensures.unasked,
      λ is editor. only_no_command c.args.hub.now (ended c.receive-received.new.self.id) events tt handed.1,
      only_from c.args.hub.now c.args.hub.now c.end.new.hub c.args.self.now c.receive-received.new.self c.end.new.self (ap (λ it. it.id) c.receive-received.ensures.same) (ap (λ it. it.stage) c.receive-received.ensures.same)
          (λ other held has. has) (only_ended c.args.hub.now c.end.new.hub c.receive-received.new.self c.end.new.self c.end.ensures.id handed.3),
    ))

pub returns-in-Interrupted-clause-led : goal.returns-in-Interrupted-clause-led
returns-in-Interrupted-clause-led g c =
    let same = c.receive-received.ensures.same in
    let held = ap (λ it. it.held) same in
    led_still (
      subst (λ r. ReadsOnce g.T.Transport.taken g.T.Transport.coming g.T.Transport.made (IsRefused g.O.Opening.refuses c.args.hub.now) c.args.self.now c.receive-received.new.self r []) (sym c.in-Interrupted.is)
          (reads_none g.T.Transport.taken g.T.Transport.coming g.T.Transport.made c.args.self.now c.receive-received.new.self receiveds.Interrupted (ap (λ it. it.id) same) (ap (λ it. it.stage) same)
          (ap (λ it. it.queue) same) held c.requires c.receive-received.ensures.taken c.in-Interrupted.ensures.gives (rw c.if-not-self.false c.in-Interrupted.ensures.made)
          (λ isnt. absurd (let never : true ≡ false = sym c.if-not-self.false ∙ isnt in cc)) ((refl, ap (λ it. it.stage) same, ap (λ it. held_in it.held) same), ap (λ it. it.may_receive) same)),
      caused_still _ c.args.self.now c.receive-received.new.self (ap (λ it. it.queue.failures) same),
      λ reader quiet. refl,
      λ is editor. tt,
      only_still c.args.hub.now c.args.hub.now c.args.self.now c.receive-received.new.self (ap (λ it. it.id) same) (ap (λ it. it.stage) same) (λ other held has. has),
    )

pub returns-in-Nothing-clause-led : goal.returns-in-Nothing-clause-led
returns-in-Nothing-clause-led g c =
    let same = c.receive-received.ensures.same in
    let held = ap (λ it. it.held) same in
    led_still (
      subst (λ r. ReadsOnce g.T.Transport.taken g.T.Transport.coming g.T.Transport.made (IsRefused g.O.Opening.refuses c.args.hub.now) c.args.self.now (record c.receive-received.new.self { may_receive = false }) r []) (sym c.in-Nothing.is)
          (reads_none g.T.Transport.taken g.T.Transport.coming g.T.Transport.made c.args.self.now (record c.receive-received.new.self { may_receive = false }) receiveds.Nothing (ap (λ it. it.id) same)
          (ap (λ it. it.stage) same) (ap (λ it. it.queue) same) held c.requires c.receive-received.ensures.taken c.in-Nothing.ensures.gives (rw c.if-not-self.false c.in-Nothing.ensures.made)
          (λ isnt. refl) ((refl, ap (λ it. it.stage) same, ap (λ it. held_in it.held) same), refl)),
      caused_still _ c.args.self.now (record c.receive-received.new.self { may_receive = false }) (ap (λ it. it.queue.failures) same),
      λ reader quiet. refl,
      λ is editor. tt,
      only_still c.args.hub.now c.args.hub.now c.args.self.now (record c.receive-received.new.self { may_receive = false }) (ap (λ it. it.id) same) (ap (λ it. it.stage) same) (λ other held has. has),
    )

pub returns-in-Nothing-clause-idle : goal.returns-in-Nothing-clause-idle
returns-in-Nothing-clause-idle g c = λ still. (refl, ap (λ it. held_in it.held) c.receive-received.ensures.same ∙ c.requires)

pub returns-in-Octets-clause-others : goal.returns-in-Octets-clause-others
returns-in-Octets-clause-others g c = λ other held apart has. c.hand_on.ensures.others other held (λ same. apart (same ∙ ap (λ it. it.id) c.receive-received.ensures.same)) has

pub returns-in-End-clause-others : goal.returns-in-End-clause-others
returns-in-End-clause-others g c = λ other held apart has. c.end_input.ensures.others other held (λ same. apart (same ∙ ap (λ it. it.id) c.receive-received.ensures.same)) has

pub returns-in-Failed-clause-others : goal.returns-in-Failed-clause-others
returns-in-Failed-clause-others g c = λ other held apart has. c.end.ensures.others other held (λ same. apart (same ∙ ap (λ it. it.id) c.receive-received.ensures.same)) has

pub returns-then-not-self-clause-prepared : goal.returns-then-not-self-clause-prepared
returns-then-not-self-clause-prepared g c = λ still back. back_never _ (none_back c.args.self.now.held c.requires) back

pub returns-in-Octets-clause-prepared : goal.returns-in-Octets-clause-prepared
returns-in-Octets-clause-prepared g c = λ still back.
    filled_held
    (IsToldAnew g.K.Lookup.shows g.K.Lookup.leaves_one_of g.K.Lookup.keeps_beside g.K.Lookup.is_trusted g.K.Lookup.has_failed g.K.Lookup.is_closed g.K.Preparer.expects)
    g.K.Preparer.prepares c.args.is_behind c.fill.new.self.is_foreseen c.fill.new.self.turns_left c.fill.new.self.waited c.args.hub.now c.args.desk.now c.hand_on.new.desk
    c.receive-received.new.self.id c.args.self.now.id
    c.hand_on.new.self.held c.fill.ensures.foreseen c.fill.ensures.waited (ap (λ it. it.id) c.receive-received.ensures.same) (c.hand_on.ensures.back still back)

pub returns-in-End-clause-prepared : goal.returns-in-End-clause-prepared
returns-in-End-clause-prepared g c = λ still back. back_never _ (ap is_held_back c.end_input.ensures.held ∙ none_back c.receive-received.new.self.held (ap (λ it. held_in it.held) c.receive-received.ensures.same ∙ c.requires)) back

pub returns-in-Failed-clause-prepared : goal.returns-in-Failed-clause-prepared
returns-in-Failed-clause-prepared g c = λ still back. over_closed _ c.end.ensures.over still

pub returns-in-Interrupted-clause-prepared : goal.returns-in-Interrupted-clause-prepared
returns-in-Interrupted-clause-prepared g c = λ still back. back_never _ (none_back c.receive-received.new.self.held (ap (λ it. held_in it.held) c.receive-received.ensures.same ∙ c.requires)) back

pub returns-in-Nothing-clause-prepared : goal.returns-in-Nothing-clause-prepared
returns-in-Nothing-clause-prepared g c = λ still back. back_never _ (none_back c.receive-received.new.self.held (ap (λ it. held_in it.held) c.receive-received.ensures.same ∙ c.requires)) back
