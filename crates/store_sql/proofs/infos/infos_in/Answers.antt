use Rattle.std.proofs.Common.{rules}
use Rattle.std.specs.List.{Contains}
use Rattle.store_sql.specs.Reads.{FailsToDecodeAll}
use Rattle.store_sql.proofs.StreamLemmas.{decode_all, passed_on}
use Rattle.store_sql.specs.Infos.{info_columns}
use Rattle.store_sql.proofs.infos.infos_in.Goals as goal

pub returns-in_err-info-clause-refused : goal.returns-in_err-info-clause-refused
returns-in_err-info-clause-refused c =
    let rows = c.args.rows.now in
    let row = c.row-item.result in
    let has : Contains rows row = search rules in
    passed_on (FailsToDecodeAll info_columns rows) c.in_err-info.field-0.0 c.from_residual.result c.from_residual.ensures.1 (decode_all info_columns rows row c.in_err-info.field-0.0 has c.in_err-info.ensures.refused)
