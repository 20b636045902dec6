-- what was written so far
use Rattle.std.proofs.Common.{◌≡◌, take, map}
use Rattle.sqlite.specs.Held.{state}
use Rattle.store_tables.specs.Effects.{WhileOpen}
use Rattle.store_commands.specs.KeptRecords.{IsUsable}
use Rattle.store_commands.specs.Writes.{WroteStatements, CommitsNothing}
use Rattle.dict_catalogue.specs.Views.{texts_shown}
use Rattle.store_rows.specs.Written.{numbered, member_record}
use Rattle.store_commands.specs.Changes.{with_more_members}
use Rattle.store_commands.specs.Statements.{adding_member}
use Rattle.store_commands.proofs.small.add_members.Given as goal

abbrev pub invariant-loop-ord : goal.invariant-loop-ord
invariant-loop-ord g l =
    let rows = numbered (member_record l.owner) 0 (texts_shown (take l.ord l.members)) in
    record {
      same_reference : g.T.OpenTransaction.reference l.tx ≡ g.T.OpenTransaction.reference l.fn.tx;
      wrote : WroteStatements g.S.Store (map adding_member rows) (with_more_members rows) (g.T.OpenTransaction.held l.fn.tx) (g.T.OpenTransaction.held l.tx);
      usable : WhileOpen (state g.S.Store (g.T.OpenTransaction.held l.tx)) IsUsable;
      spares : CommitsNothing g.S.Store (g.T.OpenTransaction.held l.fn.tx) (g.T.OpenTransaction.held l.tx);
    }
