use Rattle.net_connection.specs.Turns.{Departs}
use Rattle.net_driver.proofs.ListLemmas.{MoveUpTo}
use Rattle.net_driver.proofs.turning.depart_all.Given as goal

abbrev pub invariant-loop-one : goal.invariant-loop-one
invariant-loop-one g l = MoveUpTo (Departs g.T.Transport.taken g.T.Transport.coming g.T.Transport.made) l.fn.all.items l.one-items l.one-index l.has_moved
