-- what was written so far
use Rattle.std.proofs.Common.{◌≡◌, ◌+◌, ◌≤◌, take}
use Rattle.sqlite.specs.Held.{state}
use Rattle.sqlite.specs.State.{HasCleanDisk}
use Rattle.store_tables.specs.Effects.{WhileOpen}
use Rattle.store_commands.specs.KeptRecords.{IsUsable}
use Rattle.store_commands.specs.Orphans.{rows_left_under}
use Rattle.store_commands.specs.Writes.{WroteStatements, CommitsNothing}
use Rattle.store_commands.proofs.PartLemmas.{behind, last_ones}
use Rattle.store_commands.proofs.editions.take_slice.Given as goal

abbrev pub invariant-each : goal.invariant-each
invariant-each g l =
    let some = take l.file-index l.bounds in
    let first = state g.S.Store (g.T.OpenTransaction.held l.fn.tx) in
    let now = state g.S.Store (g.T.OpenTransaction.held l.tx) in
    record {
      same_reference : g.T.OpenTransaction.reference l.tx ≡ g.T.OpenTransaction.reference l.fn.tx;
      wrote : WroteStatements g.S.Store (last_ones g.S.Store l.number some) (behind g.S.Store l.number some) (g.T.OpenTransaction.held l.fn.tx) (g.T.OpenTransaction.held l.tx);
      usable : WhileOpen (state g.S.Store (g.T.OpenTransaction.held l.tx)) IsUsable;
      fewer : HasCleanDisk now → rows_left_under l.number now.now + l.all ≤ rows_left_under l.number first.now;
      spares : CommitsNothing g.S.Store (g.T.OpenTransaction.held l.fn.tx) (g.T.OpenTransaction.held l.tx);
    }
