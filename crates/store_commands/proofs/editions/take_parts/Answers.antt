use Rattle.std.proofs.Common.{refl}
use Rattle.store_sql.proofs.StreamLemmas.{passed_on}
use Rattle.store_commands.specs.Statements.{taking_parts}
use Rattle.store_commands.specs.Writes.{FailsToWrite}
use Rattle.store_commands.proofs.editions.take_parts.Goals as goal

pub returns-clause-wrote : goal.returns-clause-wrote
returns-clause-wrote g c = c.in_ok-take_slice.ensures.all (c.in_ok-take_slice.ensures.whole refl)

pub returns-in_err-take_slice-clause-failed : goal.returns-in_err-take_slice-clause-failed
returns-in_err-take_slice-clause-failed g c =
    passed_on (FailsToWrite g.S.Store (taking_parts c.args.number c.args.parts.now) (g.T.OpenTransaction.held c.args.tx.now) (g.T.OpenTransaction.held c.take_slice.new.tx)) c.in_err-take_slice.field-0.0
    c.from_residual.result c.from_residual.ensures.1 c.in_err-take_slice.ensures.failed
