-- what was written so far
use Rattle.std.proofs.Common.{◌≡◌, take, map}
use Rattle.sqlite.specs.Held.{state}
use Rattle.store_tables.specs.Effects.{WhileOpen}
use Rattle.store_commands.specs.KeptRecords.{IsUsable}
use Rattle.store_commands.specs.Writes.{WroteStatements, CommitsNothing}
use Rattle.dict_catalogue.specs.Views.{item_shown}
use Rattle.store_rows.specs.Written.{numbered, item_record}
use Rattle.store_commands.specs.Changes.{with_more_items}
use Rattle.store_commands.specs.Statements.{adding_item}
use Rattle.store_commands.proofs.small.add_items.Given as goal

abbrev pub invariant-loop-place : goal.invariant-loop-place
invariant-loop-place g l =
    let rows = numbered item_record 0 (map item_shown (take l.place l.items)) in
    record {
      same_reference : g.T.OpenTransaction.reference l.tx ≡ g.T.OpenTransaction.reference l.fn.tx;
      wrote : WroteStatements g.S.Store (map adding_item rows) (with_more_items rows) (g.T.OpenTransaction.held l.fn.tx) (g.T.OpenTransaction.held l.tx);
      usable : WhileOpen (state g.S.Store (g.T.OpenTransaction.held l.tx)) IsUsable;
      spares : CommitsNothing g.S.Store (g.T.OpenTransaction.held l.fn.tx) (g.T.OpenTransaction.held l.tx);
    }
