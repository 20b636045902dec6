use Rattle.std.proofs.Common.{◌≡◌, ◌<◌, ◌≤◌, true, false, rules, length, get_or, sym, ap, ◌∙◌, subst, append-nil}
use Rattle.net_connection.specs.Stages.{is_departing}
use Rattle.net_driver.specs.Rounds.{latest}
use Rattle.net_driver.proofs.ListLemmas.{apart_remove, default_free}
use Rattle.net_driver.proofs.SettleLemmas.{departing_closed, latest_few}
use Rattle.net_driver.proofs.connections.Connections.close.Goals as goal

pub keep-requires : goal.keep-requires
keep-requires g c =
    let opened = c.args.self.now.opened.items in
    let one = c.remove-one.result in
    let within : c.args.place < length opened = search rules in
    record {
      closed = departing_closed one.stage (ap is_departing (sym c.stage.ensures) ∙ sym c.is_departing.ensures ∙ c.if-is_departing.true);
      given = subst (λ it. it.id ≤ c.args.self.now.last) (sym c.remove-one.ensures.value) (c.args.self.now.given_open c.args.place one within);
      apart = rw c.remove-one.ensures.items (apart_remove opened c.args.place one within (sym c.remove-one.ensures.value) c.args.self.now.rising);
    }

pub returns-then-is_departing-clause-departing : goal.returns-then-is_departing-clause-departing
returns-then-is_departing-clause-departing g c = λ d.
    let opened = c.args.self.now.opened.items in
    let one = c.remove-one.result in
    let within : c.args.place < length opened = search rules in
    let at : get_or opened c.args.place d ≡ one = default_free opened c.args.place d one within ∙ sym c.remove-one.ensures.value in
    let is : is_departing one.stage ≡ true = ap is_departing (sym c.stage.ensures) ∙ sym c.is_departing.ensures ∙ c.if-is_departing.true in
    rw (at, is) c.keep.ensures.departing

pub returns-else-is_departing-clause-departing : goal.returns-else-is_departing-clause-departing
returns-else-is_departing-clause-departing g c = λ d.
    let opened = c.args.self.now.opened.items in
    let departing = c.args.self.now.departing.items in
    let one = c.remove-one.result in
    let within : c.args.place < length opened = search rules in
    let few : length departing ≤ 128 = search rules in
    let at : get_or opened c.args.place d ≡ one = default_free opened c.args.place d one within ∙ sym c.remove-one.ensures.value in
    let isnt : is_departing one.stage ≡ false = ap is_departing (sym c.stage.ensures) ∙ sym c.is_departing.ensures ∙ c.if-is_departing.false in
    rw (at, isnt) (sym (ap (λ l. latest 128 l) (append-nil departing) ∙ latest_few 128 departing few))
