use Rattle.std.proofs.Common.{◌≡◌, refl, ap, subst, sym, ◌∙◌, drop, length}
use Rattle.std.specs.Prelude.{Some}
use Rattle.dict_session.specs.Desks.{condition}
use Rattle.net_hub.specs.Events.Happening.{came}
use Rattle.net_connection.specs.Causes.{CountOn, IsRefused}
use Rattle.net_connection.specs.Handing.{held_in}
use Rattle.net_connection.specs.Pieces.{behind_piece, next_piece}
use Rattle.net_connection.specs.Telling.{IsToldThrough, answer_of}
use Rattle.net_connection.specs.Stages.{is_open}
use Rattle.net_connection.proofs.BackLemmas.{over_closed}
use Rattle.net_connection.proofs.CauseLemmas.{caused_by, caused_refused}
use Rattle.net_connection.proofs.LeadLemmas.{led_at, led_joined}
use Rattle.net_connection.proofs.LeaveLemmas.{only_answered, only_ended}
use Rattle.net_connection.proofs.PieceLemmas.{piece_dropped, piece_within}
use Rattle.net_connection.proofs.QuietLemmas.{quiet_none}
use Rattle.net_connection.proofs.TurnLemmas.{answered_open, hands_refused, hands_told, leads_answered}
use Rattle.net_connection.proofs.connection.Connection.hand.Goals as goal

pub pass-requires : goal.pass-requires
pass-requires g c = rw c.next_piece-piece.ensures.value (piece_within c.args.self.now.held.kind (held_in c.args.self.now.held))

pub returns-in-Ok-clause-led : goal.returns-in-Ok-clause-led
returns-in-Ok-clause-led g c =
    led_at c.deliver_through.ensures.led (λ events origin start state stands at leads is told.
    let old = c.args.self.now in
    let octets = held_in old.held in
    let piece = c.next_piece-piece.result.now in
    let first : piece ≡ next_piece old.held.kind octets = c.next_piece-piece.ensures.value in
    let rest : held_in c.pass.new.self ≡ behind_piece old.held.kind octets = c.pass.ensures.octets ∙ ap (λ l. drop (length l) octets) first ∙ piece_dropped old.held.kind octets in
    let new = record old { stage = c.answered-self.result; held = c.pass.new.self; queue = c.deliver_through.new.queue; transport = c.deliver_through.new.transport } in
    let answer = subst (λ a. IsToldThrough g.T.Transport.taken g.T.Transport.coming g.T.Transport.made (came old.id piece) (answer_of a) old.queue c.deliver_through.new.queue old.transport c.deliver_through.new.transport events)
    c.in-Ok.is told.0 in (
      hands_told g.T.Transport.taken g.T.Transport.coming g.T.Transport.made old new octets piece c.in-Ok.out events refl refl c.pass.ensures.kind first rest
          (λ still. answered_open c.in-Ok.out old.stage (ap is_open (sym c.answered-self.ensures) ∙ still)) answer,
      leads_answered (IsRefused g.O.Opening.refuses c.args.hub.now) old new octets piece c.in-Ok.out events first rest c.answered-self.ensures answer.answered,
      caused_by (condition g.K.Lookup.has_failed g.K.Lookup.is_closed c.deliver_through.new.desk) old new events told.1,
      λ reader. told.2,
      only_answered c.args.hub.now c.deliver_through.new.hub old new piece c.in-Ok.out origin start events state stands at leads is answer.answered refl c.answered-self.ensures,
    ))

pub returns-in-Err-clause-led : goal.returns-in-Err-clause-led
returns-in-Err-clause-led g c =
    let old = c.args.self.now in
    let what = came old.id c.next_piece-piece.result.now in
    let why : IsRefused g.O.Opening.refuses c.args.hub.now old.id old.held.kind
    = (c.args.hub.now, (λ held has. has), (c.in-Err.field-0, subst (λ k. g.O.Opening.refuses c.args.hub.now old.id k (Some c.in-Err.field-0)) c.kind-kind.ensures c.in-Err.ensures.refused, c.in-Err.ensures.cause)) in
    led_joined c.deliver_through.ensures.led c.end.ensures.led c.end.ensures.trust
    (λ es fs told ended.
    let none = subst (λ a. IsToldThrough g.T.Transport.taken g.T.Transport.coming g.T.Transport.made what (answer_of a) old.queue c.deliver_through.new.queue old.transport c.deliver_through.new.transport es) c.in-Err.is told.0 in
    let counted = subst (λ l. CountOn old.queue.failures c.deliver_through.new.queue.failures l) none.answered told.1.failures in
    let both = hands_refused (IsRefused g.O.Opening.refuses c.args.hub.now) g.T.Transport.taken g.T.Transport.coming g.T.Transport.made old _ _ (held_in old.held) what es fs refl refl refl counted c.end.ensures.over
    none (ended.0, ended.1) why in (
      both.0,
      both.1,
      caused_refused _ _ old _ _ es fs none.answered told.1 refl ended.2,
      λ reader quiet. c.end.ensures.unasked ∙ quiet_none c.args.hub.now c.args.desk.now c.deliver_through.new.desk es none.answered told.2,
      only_ended c.args.hub.now c.end.new.hub old c.end.new.self c.end.ensures.id ended.3,
    ))

pub returns-in-Err-clause-others : goal.returns-in-Err-clause-others
returns-in-Err-clause-others g c = λ other held apart has. c.end.ensures.others other held apart (c.deliver_through.ensures.others other held apart has)

pub returns-in-Ok-clause-whole : goal.returns-in-Ok-clause-whole
returns-in-Ok-clause-whole g c = λ still.
    let old = c.args.self.now in
    let octets = held_in old.held in
    c.pass.ensures.octets ∙ ap (λ l. drop (length l) octets) c.next_piece-piece.ensures.value ∙ piece_dropped old.held.kind octets

pub returns-in-Err-clause-whole : goal.returns-in-Err-clause-whole
returns-in-Err-clause-whole g c = λ still. over_closed _ c.end.ensures.over still
