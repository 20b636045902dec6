use Rattle.std.proofs.Common.{rules}
use Rattle.std.specs.List.{Contains}
use Rattle.store_sql.specs.Reads.{FailsToDecodeAll}
use Rattle.store_sql.proofs.StreamLemmas.{decode_all, passed_on}
use Rattle.store_sql.proofs.read.records_of.Goals as goal

pub returns-in_err-record-clause-refused : goal.returns-in_err-record-clause-refused
returns-in_err-record-clause-refused g c =
    let rows = c.args.rows.now in
    let row = c.row-item.result in
    let has : Contains rows row = search rules in
    passed_on (FailsToDecodeAll g.R.Record.columns rows) c.in_err-record.field-0.0 c.from_residual.result c.from_residual.ensures.1 (decode_all g.R.Record.columns rows row c.in_err-record.field-0.0 has c.in_err-record.ensures.refused)
