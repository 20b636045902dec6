-- what was written so far
use Rattle.std.proofs.Common.{◌≡◌, take}
use Rattle.std.specs.Prelude.{flat_map}
use Rattle.sqlite.specs.Held.{state}
use Rattle.store_tables.specs.Effects.{WhileOpen}
use Rattle.store_commands.specs.Changes.{without_editions}
use Rattle.store_commands.specs.KeptRecords.{IsUsable}
use Rattle.store_commands.specs.Statements.{taking}
use Rattle.store_commands.specs.Writes.{WroteStatements, CommitsNothing}
use Rattle.store_commands.proofs.editions.take_editions.Given as goal

abbrev pub invariant-each : goal.invariant-each
invariant-each g l =
    let some = take l.number-index l.gone in
    record {
      same_reference : g.T.OpenTransaction.reference l.tx ≡ g.T.OpenTransaction.reference l.fn.tx;
      wrote : WroteStatements g.S.Store (flat_map taking some) (without_editions some) (g.T.OpenTransaction.held l.fn.tx) (g.T.OpenTransaction.held l.tx);
      usable : WhileOpen (state g.S.Store (g.T.OpenTransaction.held l.tx)) IsUsable;
      spares : CommitsNothing g.S.Store (g.T.OpenTransaction.held l.fn.tx) (g.T.OpenTransaction.held l.tx);
    }
