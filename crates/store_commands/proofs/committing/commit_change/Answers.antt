use Rattle.std.proofs.Common.{inl, inr, refl}
use Rattle.sqlite.specs.Held.{state}
use Rattle.store_sql.proofs.StreamLemmas.{passed_on}
use Rattle.dict_desk.specs.declared.fault.Fault.TheVariants.{Memory}
use Rattle.store_holdings.specs.Writing.{FailsToEnd}
use Rattle.store_rows.specs.Versions.{known}
use Rattle.store_holdings.specs.AllTables.{all_after}
use Rattle.store_commands.specs.KeptRecords.{TurnsRecords}
use Rattle.store_commands.specs.Changes.{change_by}
use Rattle.store_commands.specs.Committed.{FailsToCommit}
use Rattle.store_commands.specs.Statements.{statements_of}
use Rattle.store_commands.proofs.LoopLemmas.{each_err}
use Rattle.store_commands.proofs.committing.commit_change.Goals as goal

pub returns-in_err-index-clause-failed : goal.returns-in_err-index-clause-failed
returns-in_err-index-clause-failed g c clean =
    let old = c.args.conn.now in
    let change = change_by c.args.id.now c.args.command.now c.args.change.now in
    passed_on (FailsToCommit g.S.Store change (TurnsRecords (all_after known change) (state g.S.Store old).now) old old) Memory c.from_residual.result c.from_residual.ensures.1 (inl (refl, refl))

pub returns-clause-failed : goal.returns-clause-failed
returns-clause-failed g c clean =
    let old = c.args.conn.now in
    let new = c.commit_files.new.conn in
    let change = change_by c.args.id.now c.args.command.now c.args.change.now in
    let P = TurnsRecords (all_after known change) (state g.S.Store old).now in
    each_err c.commit_files.result (FailsToEnd g.S.Store (statements_of known change) P old new) (FailsToCommit g.S.Store change P old new) (λ fault h. inr h) (c.commit_files.ensures.failed clean)
