use Rattle.std.proofs.Common.{rules}
use Rattle.store_tables.specs.Records.{Mark}
use Rattle.store_tables.specs.Typed.{lent_mark}
use Rattle.store_sql.proofs.NumberLemmas.{bound_int}
use Rattle.store_sql.proofs.InsertTexts.{adds_row, adds_mark}
use Rattle.store_sql.proofs.insert.insert_mark.Goals as goal

pub returns : goal.returns
returns g c =
    let given : Mark = lent_mark c.args.given.now in
    let runs = rw (
      bound_int _ c.args.given.now.id (search rules) c.params-to_sql.ensures,
      c.params-to_sql-2.ensures,
      bound_int _ c.args.given.now.version (search rules) c.params-to_sql-3.ensures,
      bound_int _ c.args.given.now.installs (search rules) c.params-to_sql-4.ensures,
    ) at c.execute.ensures.runs in
    let ran = adds_row (adds_mark given) g.S.Store _ _ c.execute.result c.requires c.execute.ensures.ended runs c.execute.ensures.survives in
    record { same_reference = c.execute.ensures.same_reference; added = λ clean. (ran clean).0; failed = λ clean. (ran clean).1; survives = c.execute.ensures.survives }
