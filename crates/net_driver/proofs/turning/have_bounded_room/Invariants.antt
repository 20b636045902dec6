use Rattle.std.proofs.Common.{◌≡◌, ◌+◌, take}
use Rattle.net_driver.specs.Rounds.{room_of}
use Rattle.net_driver.proofs.turning.have_bounded_room.Given as goal

abbrev pub invariant-loop-one : goal.invariant-loop-one
invariant-loop-one g l = l.left + room_of (take l.one-index l.all) ≡ l.most
