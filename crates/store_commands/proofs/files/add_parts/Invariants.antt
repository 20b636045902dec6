-- what was written so far
use Rattle.std.proofs.Common.{◌≡◌, take, map}
use Rattle.std.specs.Prelude.{slice_range}
use Rattle.sqlite.specs.Held.{state}
use Rattle.store_tables.specs.Effects.{WhileOpen}
use Rattle.store_commands.specs.KeptRecords.{IsUsable}
use Rattle.store_commands.specs.Changes.{with_more_parts}
use Rattle.store_commands.specs.Filing.{parts_of_files}
use Rattle.store_commands.specs.Statements.{adding_part}
use Rattle.store_commands.specs.Writes.{WroteStatements, CommitsNothing}
use Rattle.store_commands.proofs.files.add_parts.Given as goal

abbrev pub invariant-loop-done : goal.invariant-loop-done
invariant-loop-done g l =
    let some = take l.done (slice_range (parts_of_files l.files) l.from l.to) in
    record {
      same_reference : g.T.OpenTransaction.reference l.tx ≡ g.T.OpenTransaction.reference l.fn.tx;
      wrote : WroteStatements g.S.Store (map adding_part some) (with_more_parts some) (g.T.OpenTransaction.held l.fn.tx) (g.T.OpenTransaction.held l.tx);
      usable : WhileOpen (state g.S.Store (g.T.OpenTransaction.held l.tx)) IsUsable;
      spares : CommitsNothing g.S.Store (g.T.OpenTransaction.held l.fn.tx) (g.T.OpenTransaction.held l.tx);
    }
