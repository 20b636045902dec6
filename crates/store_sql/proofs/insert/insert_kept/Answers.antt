use Rattle.std.proofs.Common.{rules}
use Rattle.store_tables.specs.Records.{KeptRecord}
use Rattle.store_tables.specs.Typed.{lent_kept}
use Rattle.store_sql.proofs.NumberLemmas.{bound_int}
use Rattle.store_sql.proofs.InsertTexts.{adds_row, adds_kept, bound_number}
use Rattle.store_sql.proofs.insert.insert_kept.Goals as goal

pub returns : goal.returns
returns g c =
    let given : KeptRecord = lent_kept c.args.given.now in
    let runs = rw (
      c.params-to_sql.ensures,
      bound_int _ c.args.given.now.number (search rules) c.params-to_sql-2.ensures,
      c.params-to_sql-3.ensures,
      c.params-to_sql-4.ensures,
      c.params-to_sql-5.ensures,
      bound_number c.args.given.now.edition,
    ) at c.execute.ensures.runs in
    let ran = adds_row (adds_kept given) g.S.Store _ _ c.execute.result c.requires c.execute.ensures.ended runs c.execute.ensures.survives in
    record { same_reference = c.execute.ensures.same_reference; added = λ clean. (ran clean).0; failed = λ clean. (ran clean).1; survives = c.execute.ensures.survives }
