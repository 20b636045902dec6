-- What a call that changes no catalogue leaves of a desk, where it reads alone.
use Rattle.std.specs.Prelude.{◌≡◌}
use Rattle.sqlite.specs.State.{HasCleanDisk, Survives}
use Rattle.sqlite.specs.Held.{state}
use Rattle.sqlite_trees.specs.declared.store.Store.{Ghosts}
use Rattle.store_commands.specs.Committed.{StaysCommitted}
use Rattle.store_desk.specs.Desk.{DeskState}

-- A stop leaves no state of the store that it couldn't leave before, and what was committed is so still. Of the desk the connection, how the last
-- call ended, the parts of texts that are kept, and how much was looked at may be others: so what is prepared of a change is as it was.
pub record OnlyReads {S : Type 0} (g : Ghosts S) (old new : DeskState S) : Type 0 where
  pub survives : Survives (state g old.conn) (state g new.conn) (λ _. ⊥)
  pub stays : HasCleanDisk (state g new.conn) → StaysCommitted (state g old.conn) (state g new.conn)
  pub same : new ≡ record old { conn = new.conn; last = new.last; texts = new.texts; counts = record old.counts { taken = new.counts.taken } }
