use Rattle.std.proofs.Common.{◌≡◌, ◌==◌}
use Rattle.net_connection.specs.Turns.{marked}
use Rattle.net_driver.proofs.ListLemmas.{ChangeUpTo}
use Rattle.net_driver.proofs.turning.mark_one.Given as goal

abbrev pub invariant-loop-one : goal.invariant-loop-one
invariant-loop-one g l = ChangeUpTo (λ old new. new ≡ marked (old.id == l.id) old) l.fn.all.items l.one-items l.one-index
