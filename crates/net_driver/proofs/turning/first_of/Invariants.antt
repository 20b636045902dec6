use Rattle.std.proofs.Common.{◌≡◌, ◌-◌, drop, length}
use Rattle.net_driver.specs.Turning.{first_of, longest}
use Rattle.net_driver.proofs.turning.first_of.Given as goal

abbrev pub invariant-loop-place : goal.invariant-loop-place
invariant-loop-place g l = record {
  first : l.first.0 ≡ first_of (drop (length l.all - l.place) l.all);
  longest : l.first.1 ≡ longest (drop (length l.all - l.place) l.all);
}
