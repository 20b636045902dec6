use Rattle.std.proofs.Common.{◌++◌, ℕ, List, sym, ap, ◌∙◌, subst}
use Rattle.std.specs.Prelude.{OnErr}
use Rattle.dict_session.specs.Lines.{cut}
use Rattle.dict_session.specs.Answers.{answer_to}
use Rattle.dict_session.specs.Session.{course_of}
use Rattle.dict_session.specs.Ending.{Wrote}
use Rattle.dict_session.specs.Through.{WroteThrough, looks_up}
use Rattle.http_service.specs.Foreseeing.{AsksForCommand}
use Rattle.net_hub.specs.Asking.{Awaits, AnswersRequest, PutsUnavailable}
use Rattle.net_hub.specs.Given.{Gets, GetsThrough, LookNothingUp}
use Rattle.net_hub.specs.Holding.{Holding}
use Rattle.net_hub.specs.declared.exchange.Exchange.TheVariants.{Editor}
use Rattle.net_hub.specs.Lines.{HoldsExchange, IsReader, IsEditor}
use Rattle.net_hub.proofs.ExchangeLemmas.{replies_from, replies_through_from, through_editor, asks_from, held_from, left_from}
use Rattle.dict_session.specs.Desks.{condition}
use Rattle.net_hub.proofs.exchange.Exchange.take.Goals as goal

pub returns-in-Reader-clause-gets : goal.returns-in-Reader-clause-gets
returns-in-Reader-clause-gets g c = λ trusted M shown host id held holds.
    let h : IsReader host id c.in-Reader.session held = subst (λ line. HoldsExchange host id line held) c.in-Reader.is holds in
    let desk = condition g.K.Lookup.has_failed g.K.Lookup.is_closed c.feed.new.desk in
    let old = g.S.Sink.stream c.args.sink.now in
    let new = g.S.Sink.stream c.feed.new.sink in
    let b = held.octets ++ c.args.piece.now in
    let wrote = c.feed.ensures.answers h.goes_on trusted M shown held.octets h.unfinished in
    let here = subst (λ (at : List ℕ). Wrote (answer_to M at) desk (course_of c.feed.new.self) old new (cut b).lines) h.same_host wrote.0 in
    let replies = replies_from (answer_to M host) desk (cut b).lines old new (course_of c.feed.new.self) c.out_of.result
    (λ e. c.feed.ensures.step ∙ c.out_of.ensures.more e) (λ e. c.out_of.ensures.close (sym c.feed.ensures.step ∙ e)) here in
    subst (λ kind. Gets host desk (g.K.Lookup.shows c.feed.new.desk) (g.K.Lookup.leaves_one_of c.args.desk.now) (g.K.Lookup.leaves_one_of c.feed.new.desk) M kind b c.out_of.result old new) (sym h.kind)
    (replies, record { shows = c.feed.ensures.desk.shows trusted M shown; leaves = c.feed.ensures.desk.leaves })

pub returns-in-Editor-clause-gets : goal.returns-in-Editor-clause-gets
returns-in-Editor-clause-gets g c = λ trusted M shown host id held holds.
    let h : IsEditor c.in-Editor.incoming held = subst (λ line. HoldsExchange host id line held) c.in-Editor.is holds in
    let old = g.S.Sink.stream c.args.sink.now in
    let new = g.S.Sink.stream c.take.new.sink in
    let here = c.take.new.desk in
    asks_from host (condition g.K.Lookup.has_failed g.K.Lookup.is_closed c.take.new.desk) (g.K.Lookup.shows c.take.new.desk) (g.K.Lookup.leaves_one_of c.args.desk.now) (g.K.Lookup.leaves_one_of c.take.new.desk) M
    held.kind (held.octets ++ c.args.piece.now) c.take.new.self.octets.items old new c.take.result h.kind
    (λ e. subst (λ (o : List ℕ). Awaits (o ++ c.args.piece.now) c.take.new.self.octets.items old new) h.octets_held (c.take.ensures.awaits e h.awaited))
    (λ e. record {
      shows = subst (λ desk. g.K.Lookup.shows desk M) (sym (c.take.ensures.unasked e)) shown;
      leaves = λ ms before. subst (λ desk. g.K.Lookup.leaves_one_of desk ms) (sym (c.take.ensures.unasked e)) before;
    })
    (λ e. subst (λ (o : List ℕ). AnswersRequest (g.K.Lookup.is_closed here) (g.K.Lookup.shows here) (g.K.Lookup.leaves_one_of c.args.desk.now) (g.K.Lookup.leaves_one_of here) M (o ++ c.args.piece.now) old new)
    h.octets_held
    (c.take.ensures.answers e trusted M shown))

pub returns-in-Editor-clause-left : goal.returns-in-Editor-clause-left
returns-in-Editor-clause-left g c = λ trusted M shown host id held holds.
    let h : IsEditor c.in-Editor.incoming held = subst (λ line. HoldsExchange host id line held) c.in-Editor.is holds in
    left_from host id held.kind (held.octets ++ c.args.piece.now) c.take.new.self c.take.result h.kind
    (λ e. (c.take.ensures.awaits e h.awaited).held_all ∙ ap (λ (o : List ℕ). o ++ c.args.piece.now) h.octets_held) (c.take.ensures.awaited h.awaited)

pub returns-in-Editor-clause-held : goal.returns-in-Editor-clause-held
returns-in-Editor-clause-held g c =
    subst (λ line. OnErr c.take.result ((host : List ℕ) (id : ℕ) (held : Holding) → HoldsExchange host id line held → HoldsExchange host id (Editor c.take.new.self) held)) (sym c.in-Editor.is)
    (held_from c.in-Editor.incoming c.take.new.self c.take.result c.take.ensures.held c.take.ensures.awaited)

pub returns-in-Reader-clause-through : goal.returns-in-Reader-clause-through
returns-in-Reader-clause-through g c = λ trusted M shown host id held holds.
    let h : IsReader host id c.in-Reader.session held = subst (λ line. HoldsExchange host id line held) c.in-Reader.is holds in
    let before = g.K.Lookup.is_closed c.args.desk.now in
    let desk = condition g.K.Lookup.has_failed g.K.Lookup.is_closed c.feed.new.desk in
    let old = g.S.Sink.stream c.args.sink.now in
    let new = g.S.Sink.stream c.feed.new.sink in
    let b = held.octets ++ c.args.piece.now in
    let wrote = c.feed.ensures.through h.goes_on trusted M shown held.octets h.unfinished in
    let here = subst (λ (at : List ℕ). WroteThrough (answer_to M at) (looks_up M) before desk (course_of c.feed.new.self) old new (cut b).lines) h.same_host wrote.0 in
    let replies = replies_through_from (answer_to M host) (looks_up M) before desk (cut b).lines old new (course_of c.feed.new.self) c.out_of.result
    (λ e. c.feed.ensures.step ∙ c.out_of.ensures.more e) (λ e. c.out_of.ensures.close (sym c.feed.ensures.step ∙ e)) here in
    subst (λ kind. GetsThrough host M before desk kind b c.out_of.result old new) (sym h.kind) replies

pub returns-in-Editor-clause-through : goal.returns-in-Editor-clause-through
returns-in-Editor-clause-through g c = λ trusted M shown host id held holds.
    let h : IsEditor c.in-Editor.incoming held = subst (λ line. HoldsExchange host id line held) c.in-Editor.is holds in
    through_editor host M (g.K.Lookup.is_closed c.args.desk.now) (condition g.K.Lookup.has_failed g.K.Lookup.is_closed c.take.new.desk) held.kind (held.octets ++ c.args.piece.now)
    (g.S.Sink.stream c.args.sink.now) (g.S.Sink.stream c.take.new.sink) c.take.result h.kind
    (λ e. subst (λ (o : List ℕ). PutsUnavailable (g.K.Lookup.is_closed c.args.desk.now) M (o ++ c.args.piece.now) (g.S.Sink.stream c.args.sink.now) (g.S.Sink.stream c.take.new.sink)) h.octets_held
    (c.take.ensures.shut e M))

pub returns-in-Reader-clause-quiet : goal.returns-in-Reader-clause-quiet
returns-in-Reader-clause-quiet g c = λ trusted M shown host id held holds nothing.
    let h : IsReader host id c.in-Reader.session held = subst (λ line. HoldsExchange host id line held) c.in-Reader.is holds in
    c.feed.ensures.quiet h.goes_on trusted M shown held.octets h.unfinished (subst (λ kind. LookNothingUp M kind (held.octets ++ c.args.piece.now)) h.kind nothing)

pub returns-in-Editor-clause-quiet : goal.returns-in-Editor-clause-quiet
returns-in-Editor-clause-quiet g c = λ trusted M shown host id held holds nothing.
    let h : IsEditor c.in-Editor.incoming held = subst (λ line. HoldsExchange host id line held) c.in-Editor.is holds in
    let none : ¬ AsksForCommand (held.octets ++ c.args.piece.now) = subst (λ kind. LookNothingUp M kind (held.octets ++ c.args.piece.now)) h.kind nothing in
    c.take.ensures.quiet (subst (λ (o : List ℕ). ¬ AsksForCommand (o ++ c.args.piece.now)) (sym h.octets_held) none)
