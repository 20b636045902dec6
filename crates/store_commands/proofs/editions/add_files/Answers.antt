use Rattle.std.proofs.Common.{map, ◌∙◌}
use Rattle.std.specs.Prelude.{slice_range}
use Rattle.store_sql.proofs.StreamLemmas.{passed_on}
use Rattle.store_commands.specs.Changes.{with_more_parts}
use Rattle.store_commands.specs.Filing.{parts_of_files}
use Rattle.store_commands.specs.Statements.{adding_part, taking_parts, parts_anew, last_parts}
use Rattle.store_commands.specs.Writes.{FailsToWrite}
use Rattle.store_commands.proofs.WriteLemmas.{Ends, behind, failed_before}
use Rattle.store_commands.proofs.editions.add_files.Goals as goal

pub returns : goal.returns
returns g c =
    let rows = slice_range (parts_of_files c.args.files.now) 0 c.args.to in
    let rest : Ends g.S.Store (map adding_part rows) (with_more_parts rows) (g.T.OpenTransaction.held c.take_parts.new.tx) (g.T.OpenTransaction.held c.add_parts.new.tx) c.add_parts.result =
    record { wrote = c.add_parts.ensures.wrote; failed = c.add_parts.ensures.failed; spares = c.add_parts.ensures.spares } in
    let all = behind g.S.Store c.in_ok-take_parts.ensures.wrote c.take_parts.ensures.spares rest in
    record {
      same_reference = c.add_parts.ensures.same_reference ∙ c.take_parts.ensures.same_reference;
      wrote = all.wrote;
      usable = c.add_parts.ensures.usable;
      failed = all.failed;
      spares = all.spares;
    }

pub returns-in_err-take_parts-clause-failed : goal.returns-in_err-take_parts-clause-failed
returns-in_err-take_parts-clause-failed g c =
    let first = (g.T.OpenTransaction.held c.args.tx.now) in
    let new = (g.T.OpenTransaction.held c.take_parts.new.tx) in
    let n = c.args.files.now.number in
    let rows = slice_range (parts_of_files c.args.files.now) 0 c.args.to in
    let e = c.in_err-take_parts.field-0.0 in
    passed_on (FailsToWrite g.S.Store (parts_anew n rows) first new) e c.from_residual.result c.from_residual.ensures.1
    (failed_before g.S.Store (taking_parts n last_parts) (map adding_part rows) first new e c.in_err-take_parts.ensures.failed)
