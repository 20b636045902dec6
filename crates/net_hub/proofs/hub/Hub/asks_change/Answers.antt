use Rattle.std.proofs.Common.{◌≡◌, length, sym, arith}
use Rattle.net_hub.proofs.HubLemmas.{found_at, set_each, command_there, no_command_there, none_there}
use Rattle.net_hub.proofs.hub.Hub.asks_change.Goals as goal

pub returns-in_default-clause-no : goal.returns-in_default-clause-no
returns-in_default-clause-no c = λ isnt held at makes. none_there c.args.self.now.host.now c.args.self.now.book.ids.items c.args.self.now.lines.items c.args.id c.args.piece.now (sym c.in_default.ensures.value) held at makes

pub returns-clause-yes : goal.returns-clause-yes
returns-clause-yes c = λ is held at.
    let f = found_at c.args.self.now.book.ids.items c.args.id c.in-Some.place (sym c.in-Some.ensures.value) in
    command_there c.args.self.now.host.now c.args.self.now.book.ids.items c.args.self.now.lines.items c.in-Some.place c.args.id c.index_mut.result.now c.args.piece.now
    c.args.self.now.book.rising f.0 f.1 c.index_mut.ensures.value (λ one h. c.asks_change.ensures.yes is c.args.self.now.host.now c.args.id one h) held at

pub returns-clause-no : goal.returns-clause-no
returns-clause-no c = λ isnt held at.
    let f = found_at c.args.self.now.book.ids.items c.args.id c.in-Some.place (sym c.in-Some.ensures.value) in
    no_command_there c.args.self.now.host.now c.args.self.now.book.ids.items c.args.self.now.lines.items c.in-Some.place c.args.id c.index_mut.result.now c.args.piece.now
    c.args.self.now.book.rising f.0 f.1 c.index_mut.ensures.value (λ one h. c.asks_change.ensures.no isnt c.args.self.now.host.now c.args.id one h) held at

pub returns-clause-kept : goal.returns-clause-kept
returns-clause-kept c = λ other held at.
    let f = found_at c.args.self.now.book.ids.items c.args.id c.in-Some.place (sym c.in-Some.ensures.value) in
    let even : length c.args.self.now.lines.items ≡ length c.args.self.now.book.ids.items = omega (arith, c.args.self.now.even, c.args.self.now.lines.ok.0, c.args.self.now.book.ids.ok.0) in
    set_each c.args.self.now.host.now c.args.self.now.book.ids.items c.args.self.now.lines.items c.in-Some.place c.args.id c.index_mut.result.now c.asks_change.new.self c.args.self.now.book.rising even f.0 f.1
    c.index_mut.ensures.value (λ one h. c.asks_change.ensures.holds c.args.self.now.host.now c.args.id one h) other held at

pub returns-clause-state : goal.returns-clause-state
returns-clause-state c = λ state at.
    let f = found_at c.args.self.now.book.ids.items c.args.id c.in-Some.place (sym c.in-Some.ensures.value) in
    let even : length c.args.self.now.lines.items ≡ length c.args.self.now.book.ids.items = omega (arith, c.args.self.now.even, c.args.self.now.lines.ok.0, c.args.self.now.book.ids.ok.0) in
    record {
      host = at.host;
      greatest = at.greatest;
      count = at.count;
      held = λ other. set_each c.args.self.now.host.now c.args.self.now.book.ids.items c.args.self.now.lines.items c.in-Some.place c.args.id c.index_mut.result.now c.asks_change.new.self c.args.self.now.book.rising even f.0 f.1
          c.index_mut.ensures.value (λ one h. c.asks_change.ensures.holds c.args.self.now.host.now c.args.id one h) other (state.held other) (at.held other);
    }
