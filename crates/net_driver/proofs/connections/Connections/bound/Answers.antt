use Rattle.std.proofs.Common.{◌≡◌, true, sym, ap, ◌∙◌}
use Rattle.std.specs.Prelude.{nat_le}
use Rattle.net_driver.specs.Rounds.{room_of}
use Rattle.net_driver.proofs.SettleLemmas.{fitting_all}
use Rattle.net_driver.proofs.connections.Connections.bound.Goals as goal

pub returns-clause-departing : goal.returns-clause-departing
returns-clause-departing g c =
    let items = c.loop-self.self.departing.items in
    let fits : nat_le (room_of items) 33554432 ≡ true = ap (λ l. nat_le (room_of l) 33554432) (sym c.as_slice.ensures.value) ∙ sym c.have_bounded_room.ensures ∙ c.loop-self-test.false in
    sym (fitting_all 33554432 items fits) ∙ c.loop-self.invariant.departing
