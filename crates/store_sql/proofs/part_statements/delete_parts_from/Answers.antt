use Rattle.store_sql.proofs.NumberLemmas.{bound_int}
use Rattle.store_sql.proofs.DeleteTexts.{takes_out}
use Rattle.store_sql.proofs.PartDeleteTexts.{rest_goes}
use Rattle.store_sql.proofs.part_statements.delete_parts_from.Goals as goal

pub returns : goal.returns
returns g c =
    let runs = rw (
      bound_int _ c.args.edition c.ranges.edition c.params-to_sql.ensures,
      bound_int _ c.args.file c.ranges.file c.params-to_sql-2.ensures,
      bound_int _ c.args.number c.ranges.number c.params-to_sql-3.ensures,
    ) at c.execute.ensures.runs in
    let ran = takes_out (rest_goes c.args.edition c.args.file c.args.number) g.S.Store _ _ c.execute.result c.requires c.execute.ensures.ended runs c.execute.ensures.survives in
    record { same_reference = c.execute.ensures.same_reference; removed = λ clean. (ran clean).0; counted = λ clean. (ran clean).1; failed = λ clean. (ran clean).2; survives = c.execute.ensures.survives }
