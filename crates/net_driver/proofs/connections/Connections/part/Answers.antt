use Rattle.std.proofs.Common.{◌≡◌, ◌<◌, ◌≤◌, true, false, rules, length, sym, ap, ◌∙◌, ◌++◌, ◌∷◌, [], refl}
use Rattle.std.specs.List.{filter}
use Rattle.net_connection.specs.Stages.{is_departing, is_open}
use Rattle.net_driver.specs.Rounds.{latest}
use Rattle.net_driver.proofs.SettleLemmas.{parted_all, parted_close, parted_none, parted_open}
use Rattle.net_driver.proofs.connections.Connections.part.Goals as goal

pub loop-place-init : goal.loop-place-init
loop-place-init g c =
    let few : length c.args.self.now.departing.items ≤ 128 = search rules in
    record { parted = parted_none c.args.self.now.opened.items c.args.self.now.departing.items few; last = refl }

pub loop-place-preserved-then-is_open : goal.loop-place-preserved-then-is_open
loop-place-preserved-then-is_open g c =
    let one = c.index.result.now in
    let opened = c.loop-place.self.opened.items in
    let within : c.loop-place.place < length opened = search rules in
    let is : is_open one.stage ≡ true = ap is_open (sym c.stage.ensures) ∙ sym c.is_open.ensures ∙ c.if-is_open.true in
    record {
      parted = parted_open c.args.self.now.opened.items opened c.args.self.now.departing.items c.loop-place.self.departing.items c.loop-place.place one within (sym c.index.ensures) is c.loop-place.invariant.parted;
      last = c.loop-place.invariant.last;
    }

pub loop-place-preserved : goal.loop-place-preserved
loop-place-preserved g c =
    let one = c.index.result.now in
    let opened = c.loop-place.self.opened.items in
    let departing = c.loop-place.self.departing.items in
    let within : c.loop-place.place < length opened = search rules in
    let isnt : is_open one.stage ≡ false = ap is_open (sym c.stage.ensures) ∙ sym c.is_open.ensures ∙ c.if-is_open.false in
    record {
      parted = parted_close c.args.self.now.opened.items opened c.args.self.now.departing.items departing c.close.new.self.opened.items c.close.new.self.departing.items c.loop-place.place one within
          (sym c.index.ensures) isnt c.close.ensures.opened
          (c.close.ensures.departing one ∙ ap (λ it. latest 128 (departing ++ filter (λ other. is_departing other.stage) (it ∷ []))) (sym c.index.ensures)) c.loop-place.invariant.parted;
      last = c.close.ensures.last ∙ c.loop-place.invariant.last;
    }

pub returns-clause-opened : goal.returns-clause-opened
returns-clause-opened g c =
    let done : length c.loop-place.self.opened.items ≤ c.loop-place.place = search rules in
    (parted_all _ _ _ _ _ done c.loop-place.invariant.parted).0

pub returns-clause-departing : goal.returns-clause-departing
returns-clause-departing g c =
    let done : length c.loop-place.self.opened.items ≤ c.loop-place.place = search rules in
    (parted_all _ _ _ _ _ done c.loop-place.invariant.parted).1
