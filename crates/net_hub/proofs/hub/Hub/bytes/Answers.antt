use Rattle.std.proofs.Common.{◌≡◌, ◌++◌, ℕ, List, length, ap, sym, subst, arith}
use Rattle.std.specs.Prelude.{slice_set}
use Rattle.std.proofs.lemmas.List.{length-set}
use Rattle.std.proofs.lemmas.List.Edits.{length-remove}
use Rattle.net_hub.specs.Given.{Gets, GetsThrough}
use Rattle.net_hub.specs.Holding.{left_by}
use Rattle.net_hub.specs.Lines.{HoldsExchange, HoldsIfOpen}
use Rattle.net_hub.specs.Hubs.{IsAbsent}
use Rattle.net_hub.proofs.HubLemmas.{found_at, not_found, holds_there, set_own, set_others, remove_own, remove_others, stands_as, on_err, err_passed, set_same}
use Rattle.dict_session.specs.Desks.{condition}
use Rattle.net_hub.specs.declared.kind.Kind.TheVariants.{Http}
use Rattle.net_hub.specs.declared.fault.HubFault.TheVariants.{Memory}
use Rattle.net_hub.proofs.hub.Hub.bytes.Goals as goal

pub returns-in_default-clause-memory : goal.returns-in_default-clause-memory
returns-in_default-clause-memory g c = λ held at. absurd (not_found c.args.self.now.book.ids.items c.args.id (sym c.in_default.ensures.value) at.place at.within at.is)

pub returns-in_err-take-clause-memory : goal.returns-in_err-take-clause-memory
returns-in_err-take-clause-memory g c = λ held at.
    let f = found_at c.args.self.now.book.ids.items c.args.id c.in-Some.place (sym c.in-Some.ensures.value) in
    let h = subst (λ one. HoldsExchange c.args.self.now.host.now c.args.id one held) (sym c.index_mut.ensures.value)
    (holds_there c.args.self.now.host.now c.args.self.now.book.ids.items c.args.self.now.lines.items c.args.id held c.in-Some.place c.args.self.now.book.rising f.0 f.1 at c.index_mut.result.now) in
    err_passed c.from_residual.result _ Memory (held.kind ≡ Http) c.from_residual.ensures.1 c.in_err-take.ensures.memory (c.in_err-take.ensures.editor c.args.self.now.host.now c.args.id held h)

pub returns-in_err-take-clause-unknown : goal.returns-in_err-take-clause-unknown
returns-in_err-take-clause-unknown g c = λ absent.
    let f = found_at c.args.self.now.book.ids.items c.args.id c.in-Some.place (sym c.in-Some.ensures.value) in
    absurd (absent c.in-Some.place f.0 f.1)

pub returns-in_err-take-clause-kept : goal.returns-in_err-take-clause-kept
returns-in_err-take-clause-kept g c = on_err c.from_residual.result (λ held at.
    let f = found_at c.args.self.now.book.ids.items c.args.id c.in-Some.place (sym c.in-Some.ensures.value) in
    let even : length c.args.self.now.lines.items ≡ length c.args.self.now.book.ids.items = omega (arith, c.args.self.now.even, c.args.self.now.lines.ok.0, c.args.self.now.book.ids.ok.0) in
    set_same c.args.self.now.host.now c.args.self.now.book.ids.items c.args.self.now.lines.items c.in-Some.place c.args.id c.index_mut.result.now c.take.new.self c.args.self.now.book.rising even f.0 f.1
    c.index_mut.ensures.value (λ one h. c.in_err-take.ensures.held c.args.self.now.host.now c.args.id one h) held at)

pub returns-in-More-clause-unknown : goal.returns-in-More-clause-unknown
returns-in-More-clause-unknown g c = λ absent.
    let f = found_at c.args.self.now.book.ids.items c.args.id c.in-Some.place (sym c.in-Some.ensures.value) in
    absurd (absent c.in-Some.place f.0 f.1)

pub returns-in-More-clause-gets : goal.returns-in-More-clause-gets
returns-in-More-clause-gets g c = λ trusted M shown held at.
    let f = found_at c.args.self.now.book.ids.items c.args.id c.in-Some.place (sym c.in-Some.ensures.value) in
    let h = subst (λ one. HoldsExchange c.args.self.now.host.now c.args.id one held) (sym c.index_mut.ensures.value)
    (holds_there c.args.self.now.host.now c.args.self.now.book.ids.items c.args.self.now.lines.items c.args.id held c.in-Some.place c.args.self.now.book.rising f.0 f.1 at c.index_mut.result.now) in
    subst (λ out. Gets c.args.self.now.host.now (condition g.K.Lookup.has_failed g.K.Lookup.is_closed c.take.new.desk) (g.K.Lookup.shows c.take.new.desk) (g.K.Lookup.leaves_one_of c.args.desk.now)
    (g.K.Lookup.leaves_one_of c.take.new.desk) M held.kind (held.octets ++ c.args.piece.now) out (g.S.Sink.stream c.args.sink.now) (g.S.Sink.stream c.take.new.sink))
    c.in-More.is (c.in_ok-take.ensures.gets trusted M shown c.args.self.now.host.now c.args.id held h)

pub returns-in-More-clause-own : goal.returns-in-More-clause-own
returns-in-More-clause-own g c = λ trusted M shown held at.
    let f = found_at c.args.self.now.book.ids.items c.args.id c.in-Some.place (sym c.in-Some.ensures.value) in
    let even : length c.args.self.now.lines.items ≡ length c.args.self.now.book.ids.items = omega (arith, c.args.self.now.even, c.args.self.now.lines.ok.0, c.args.self.now.book.ids.ok.0) in
    let h = subst (λ one. HoldsExchange c.args.self.now.host.now c.args.id one held) (sym c.index_mut.ensures.value)
    (holds_there c.args.self.now.host.now c.args.self.now.book.ids.items c.args.self.now.lines.items c.args.id held c.in-Some.place c.args.self.now.book.rising f.0 f.1 at c.index_mut.result.now) in
    set_own c.args.self.now.host.now c.args.self.now.book.ids.items c.args.self.now.lines.items c.in-Some.place c.args.id c.take.new.self even f.0 f.1 _
    (subst (λ out. HoldsIfOpen c.args.self.now.host.now c.args.id c.take.new.self (left_by held.kind (held.octets ++ c.args.piece.now) out)) c.in-More.is (c.in_ok-take.ensures.left trusted M shown c.args.self.now.host.now c.args.id held h))

pub returns-in-More-clause-others : goal.returns-in-More-clause-others
returns-in-More-clause-others g c = λ other held ne at.
    let f = found_at c.args.self.now.book.ids.items c.args.id c.in-Some.place (sym c.in-Some.ensures.value) in
    set_others c.args.self.now.host.now c.args.self.now.book.ids.items c.args.self.now.lines.items c.in-Some.place c.args.id c.take.new.self f.1 other held ne at

pub returns-in-Close-clause-unknown : goal.returns-in-Close-clause-unknown
returns-in-Close-clause-unknown g c = λ absent.
    let f = found_at c.args.self.now.book.ids.items c.args.id c.in-Some.place (sym c.in-Some.ensures.value) in
    absurd (absent c.in-Some.place f.0 f.1)

pub returns-in-Close-clause-gets : goal.returns-in-Close-clause-gets
returns-in-Close-clause-gets g c = λ trusted M shown held at.
    let f = found_at c.args.self.now.book.ids.items c.args.id c.in-Some.place (sym c.in-Some.ensures.value) in
    let h = subst (λ one. HoldsExchange c.args.self.now.host.now c.args.id one held) (sym c.index_mut.ensures.value)
    (holds_there c.args.self.now.host.now c.args.self.now.book.ids.items c.args.self.now.lines.items c.args.id held c.in-Some.place c.args.self.now.book.rising f.0 f.1 at c.index_mut.result.now) in
    subst (λ out. Gets c.args.self.now.host.now (condition g.K.Lookup.has_failed g.K.Lookup.is_closed c.take.new.desk) (g.K.Lookup.shows c.take.new.desk) (g.K.Lookup.leaves_one_of c.args.desk.now)
    (g.K.Lookup.leaves_one_of c.take.new.desk) M held.kind (held.octets ++ c.args.piece.now) out (g.S.Sink.stream c.args.sink.now) (g.S.Sink.stream c.take.new.sink))
    c.in-Close.is (c.in_ok-take.ensures.gets trusted M shown c.args.self.now.host.now c.args.id held h)

pub returns-in-Close-clause-own : goal.returns-in-Close-clause-own
returns-in-Close-clause-own g c = λ trusted M shown held at.
    let f = found_at c.args.self.now.book.ids.items c.args.id c.in-Some.place (sym c.in-Some.ensures.value) in
    subst (λ (ids : List ℕ). IsAbsent ids c.args.id) (sym c.close.ensures.ids)
    (remove_own c.args.self.now.book.ids.items c.in-Some.place c.args.id c.args.self.now.book.rising f.0 f.1)

pub returns-in-Close-clause-others : goal.returns-in-Close-clause-others
returns-in-Close-clause-others g c = λ other held ne at.
    let f = found_at c.args.self.now.book.ids.items c.args.id c.in-Some.place (sym c.in-Some.ensures.value) in
    let changed = slice_set c.args.self.now.lines.items c.in-Some.place c.take.new.self in
    let same = length-set c.args.self.now.lines.items c.in-Some.place c.take.new.self in
    let even : length changed ≡ length c.args.self.now.book.ids.items = omega (arith, same, c.args.self.now.even, c.args.self.now.lines.ok.0, c.args.self.now.book.ids.ok.0) in
    stands_as _ _ _ _ _ _ other held c.close.ensures.host c.close.ensures.ids c.close.ensures.lines
    (remove_others c.args.self.now.host.now c.args.self.now.book.ids.items changed c.in-Some.place c.args.id even f.0 f.1 other held ne
    (set_others c.args.self.now.host.now c.args.self.now.book.ids.items c.args.self.now.lines.items c.in-Some.place c.args.id c.take.new.self f.1 other held ne at))

pub returns-in-Close-clause-count : goal.returns-in-Close-clause-count
returns-in-Close-clause-count g c = λ held at.
    let f = found_at c.args.self.now.book.ids.items c.args.id c.in-Some.place (sym c.in-Some.ensures.value) in
    let shorter = length-remove c.args.self.now.book.ids.items c.in-Some.place f.0 in
    omega (arith, ap length c.close.ensures.ids, shorter)

pub returns-in-More-clause-through : goal.returns-in-More-clause-through
returns-in-More-clause-through g c = λ trusted M shown held at.
    let host = c.args.self.now.host.now in
    let ids = c.args.self.now.book.ids.items in
    let f = found_at ids c.args.id c.in-Some.place (sym c.in-Some.ensures.value) in
    let h = subst (λ one. HoldsExchange host c.args.id one held) (sym c.index_mut.ensures.value)
    (holds_there host ids c.args.self.now.lines.items c.args.id held c.in-Some.place c.args.self.now.book.rising f.0 f.1 at c.index_mut.result.now) in
    let desk = condition g.K.Lookup.has_failed g.K.Lookup.is_closed c.take.new.desk in
    subst (λ out. GetsThrough host M (g.K.Lookup.is_closed c.args.desk.now) desk held.kind (held.octets ++ c.args.piece.now) out (g.S.Sink.stream c.args.sink.now) (g.S.Sink.stream c.take.new.sink))
    c.in-More.is (c.in_ok-take.ensures.through trusted M shown host c.args.id held h)

pub returns-in-More-clause-quiet : goal.returns-in-More-clause-quiet
returns-in-More-clause-quiet g c = λ trusted M shown held at nothing.
    let host = c.args.self.now.host.now in
    let ids = c.args.self.now.book.ids.items in
    let f = found_at ids c.args.id c.in-Some.place (sym c.in-Some.ensures.value) in
    let h = subst (λ one. HoldsExchange host c.args.id one held) (sym c.index_mut.ensures.value)
    (holds_there host ids c.args.self.now.lines.items c.args.id held c.in-Some.place c.args.self.now.book.rising f.0 f.1 at c.index_mut.result.now) in
    c.in_ok-take.ensures.quiet trusted M shown host c.args.id held h nothing

pub returns-in-Close-clause-through : goal.returns-in-Close-clause-through
returns-in-Close-clause-through g c = λ trusted M shown held at.
    let host = c.args.self.now.host.now in
    let ids = c.args.self.now.book.ids.items in
    let f = found_at ids c.args.id c.in-Some.place (sym c.in-Some.ensures.value) in
    let h = subst (λ one. HoldsExchange host c.args.id one held) (sym c.index_mut.ensures.value)
    (holds_there host ids c.args.self.now.lines.items c.args.id held c.in-Some.place c.args.self.now.book.rising f.0 f.1 at c.index_mut.result.now) in
    let desk = condition g.K.Lookup.has_failed g.K.Lookup.is_closed c.take.new.desk in
    subst (λ out. GetsThrough host M (g.K.Lookup.is_closed c.args.desk.now) desk held.kind (held.octets ++ c.args.piece.now) out (g.S.Sink.stream c.args.sink.now) (g.S.Sink.stream c.take.new.sink))
    c.in-Close.is (c.in_ok-take.ensures.through trusted M shown host c.args.id held h)

pub returns-in-Close-clause-quiet : goal.returns-in-Close-clause-quiet
returns-in-Close-clause-quiet g c = λ trusted M shown held at nothing.
    let host = c.args.self.now.host.now in
    let ids = c.args.self.now.book.ids.items in
    let f = found_at ids c.args.id c.in-Some.place (sym c.in-Some.ensures.value) in
    let h = subst (λ one. HoldsExchange host c.args.id one held) (sym c.index_mut.ensures.value)
    (holds_there host ids c.args.self.now.lines.items c.args.id held c.in-Some.place c.args.self.now.book.rising f.0 f.1 at c.index_mut.result.now) in
    c.in_ok-take.ensures.quiet trusted M shown host c.args.id held h nothing
