use Rattle.std.proofs.Common.{◌≡◌, false, take}
use Rattle.net_driver.specs.Looking.{tells}
use Rattle.net_driver.proofs.event_loop.tells_listening.Given as goal

abbrev pub invariant-loop-place : goal.invariant-loop-place
invariant-loop-place g l = tells (take l.place (g.S.Sockets.told l.sockets)) 0 ≡ false
