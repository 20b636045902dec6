-- An error of a part that names the disk comes with a fault of the disk.
use Rattle.std.proofs.Common.{◌≤◌, List, [], ◌∷◌, inl, inr, arith}
use Rattle.sqlite.specs.Disk.{MoreFaults}
use Rattle.sqlite.specs.State.{State}
use Rattle.sqlite.specs.Held.{Held, state}
use Rattle.sqlite.specs.declared.error.Error.{Error}
use Rattle.sqlite_trees.specs.declared.store.Store.{Ghosts}
use Rattle.store_tables.specs.Effects.{CountsFaults}
use Rattle.store_sql.specs.Statements.{Statement, make, add, remove, FailsTo, FailsInTurn}
use Rattle.store_tables.proofs.MakeLemmas.{counts_since}

fails_counts : (one : Statement) (old new : State) (e : Error) → FailsTo one old new e → CountsFaults old new e
fails_counts (make table) old new e h = h.counts
fails_counts (add name row) old new e h = h.counts
fails_counts (remove name test) old new e h = h.counts

pub told_counts : {S : Type 0} (g : Ghosts S) (statements : List Statement) (old new : Held S) (e : Error) → FailsInTurn g statements old new e → CountsFaults (state g old) (state g new) e
told_counts g [] old new e h = absurd h
told_counts g (one ∷ rest) old new e (inl h) = fails_counts one (state g old) (state g new) e h.0
told_counts g (one ∷ rest) old new e (inr h) = counts_since (state g old) (state g h.0) (state g new) e h.1.1.counts (told_counts g rest h.0 new e h.2)

-- no fault is forgotten
pub told_more : (old mid new : State) → MoreFaults old.faults mid.faults → mid.faults ≤ new.faults → MoreFaults old.faults new.faults
told_more old mid new more h = omega (arith, more, h)
