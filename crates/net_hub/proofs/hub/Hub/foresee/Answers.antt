use Rattle.std.proofs.Common.{◌≡◌, length, sym, arith}
use Rattle.http_service.specs.Foreseeing.{IsToldAnew, AsksAnewForChange, AsksForChange}
use Rattle.net_hub.proofs.HubLemmas.{found_at, set_each, foreseen_there}
use Rattle.net_hub.proofs.hub.Hub.foresee.Goals as goal

pub returns-clause-foreseen : goal.returns-clause-foreseen
returns-clause-foreseen g c = λ taken held at.
    let f = found_at c.args.self.now.book.ids.items c.args.id c.in-Some.place (sym c.in-Some.ensures.value) in
    foreseen_there
    (IsToldAnew g.K.Lookup.shows g.K.Lookup.leaves_one_of g.K.Lookup.keeps_beside g.K.Lookup.is_trusted g.K.Lookup.has_failed g.K.Lookup.is_closed g.K.Preparer.expects)
    AsksForChange c.args.self.now.host.now c.args.self.now.book.ids.items c.args.self.now.lines.items c.in-Some.place c.args.id c.index_mut.result.now c.args.piece.now c.args.desk.now c.foresee.new.desk
    c.args.self.now.book.rising f.0 f.1 c.index_mut.ensures.value (λ one h. c.foresee.ensures.foreseen taken c.args.self.now.host.now c.args.id one h) held at

pub returns-clause-anew : goal.returns-clause-anew
returns-clause-anew g c = λ taken trusted M shown held at.
    let f = found_at c.args.self.now.book.ids.items c.args.id c.in-Some.place (sym c.in-Some.ensures.value) in
    foreseen_there
    (IsToldAnew g.K.Lookup.shows g.K.Lookup.leaves_one_of g.K.Lookup.keeps_beside g.K.Lookup.is_trusted g.K.Lookup.has_failed g.K.Lookup.is_closed g.K.Preparer.expects)
    (AsksAnewForChange M) c.args.self.now.host.now c.args.self.now.book.ids.items c.args.self.now.lines.items c.in-Some.place c.args.id c.index_mut.result.now c.args.piece.now c.args.desk.now c.foresee.new.desk
    c.args.self.now.book.rising f.0 f.1 c.index_mut.ensures.value (λ one h. c.foresee.ensures.anew taken trusted M shown c.args.self.now.host.now c.args.id one h) held at

pub returns-clause-kept : goal.returns-clause-kept
returns-clause-kept g c = λ other held at.
    let f = found_at c.args.self.now.book.ids.items c.args.id c.in-Some.place (sym c.in-Some.ensures.value) in
    let even : length c.args.self.now.lines.items ≡ length c.args.self.now.book.ids.items = omega (arith, c.args.self.now.even, c.args.self.now.lines.ok.0, c.args.self.now.book.ids.ok.0) in
    set_each c.args.self.now.host.now c.args.self.now.book.ids.items c.args.self.now.lines.items c.in-Some.place c.args.id c.index_mut.result.now c.foresee.new.self c.args.self.now.book.rising even f.0 f.1
    c.index_mut.ensures.value (λ one h. c.foresee.ensures.holds c.args.self.now.host.now c.args.id one h) other held at

pub returns-clause-state : goal.returns-clause-state
returns-clause-state g c = λ state at.
    let f = found_at c.args.self.now.book.ids.items c.args.id c.in-Some.place (sym c.in-Some.ensures.value) in
    let even : length c.args.self.now.lines.items ≡ length c.args.self.now.book.ids.items = omega (arith, c.args.self.now.even, c.args.self.now.lines.ok.0, c.args.self.now.book.ids.ok.0) in
    record {
      host = at.host;
      greatest = at.greatest;
      count = at.count;
      held = λ other. set_each c.args.self.now.host.now c.args.self.now.book.ids.items c.args.self.now.lines.items c.in-Some.place c.args.id c.index_mut.result.now c.foresee.new.self c.args.self.now.book.rising even f.0 f.1
          c.index_mut.ensures.value (λ one h. c.foresee.ensures.holds c.args.self.now.host.now c.args.id one h) other (state.held other) (at.held other);
    }
