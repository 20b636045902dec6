use Rattle.std.proofs.Common.{◌≡◌, ℕ, List, length, ap, refl, sym, subst, arith}
use Rattle.std.proofs.lemmas.List.Edits.{length-remove}
use Rattle.net_hub.specs.Hubs.{IsAbsent}
use Rattle.net_hub.proofs.HubLemmas.{found_at, not_found, remove_own, remove_others, stands_as}
use Rattle.net_hub.proofs.hub.Hub.ended.Goals as goal

pub returns-in_default-clause-known : goal.returns-in_default-clause-known
returns-in_default-clause-known c = λ held at. absurd (not_found c.args.self.now.book.ids.items c.args.id (sym c.in_default.ensures.value) at.place at.within at.is)

pub returns-clause-unknown : goal.returns-clause-unknown
returns-clause-unknown c = λ absent.
    let f = found_at c.args.self.now.book.ids.items c.args.id c.in-Some.place (sym c.in-Some.ensures.value) in
    absurd (absent c.in-Some.place f.0 f.1)

pub returns-clause-known : goal.returns-clause-known
returns-clause-known c = λ held at.
    let f = found_at c.args.self.now.book.ids.items c.args.id c.in-Some.place (sym c.in-Some.ensures.value) in (
      refl,
      subst (λ (ids : List ℕ). IsAbsent ids c.args.id) (sym c.close.ensures.ids)
          (remove_own c.args.self.now.book.ids.items c.in-Some.place c.args.id c.args.self.now.book.rising f.0 f.1),
    )

pub returns-clause-others : goal.returns-clause-others
returns-clause-others c = λ other held ne at.
    let f = found_at c.args.self.now.book.ids.items c.args.id c.in-Some.place (sym c.in-Some.ensures.value) in
    let even : length c.args.self.now.lines.items ≡ length c.args.self.now.book.ids.items = omega (arith, c.args.self.now.even, c.args.self.now.lines.ok.0, c.args.self.now.book.ids.ok.0) in
    stands_as _ _ _ _ _ _ other held c.close.ensures.host c.close.ensures.ids c.close.ensures.lines
    (remove_others c.args.self.now.host.now c.args.self.now.book.ids.items c.args.self.now.lines.items c.in-Some.place c.args.id even f.0 f.1 other held ne at)

pub returns-clause-count : goal.returns-clause-count
returns-clause-count c =
    let f = found_at c.args.self.now.book.ids.items c.args.id c.in-Some.place (sym c.in-Some.ensures.value) in
    let shorter = length-remove c.args.self.now.book.ids.items c.in-Some.place f.0 in
    omega (arith, ap length c.close.ensures.ids, shorter)
