use Rattle.std.proofs.Common.{rules}
use Rattle.store_tables.specs.Records.{HeaderRecord}
use Rattle.store_tables.specs.Typed.{lent_header}
use Rattle.store_sql.proofs.NumberLemmas.{bound_int}
use Rattle.store_sql.proofs.InsertTexts.{adds_row}
use Rattle.store_sql.proofs.HeaderTexts.{adds_header}
use Rattle.store_sql.proofs.header_statements.insert_header.Goals as goal

pub returns : goal.returns
returns g c =
    let given : HeaderRecord = lent_header c.args.given.now in
    let runs = rw (bound_int _ c.args.given.now.number (search rules) c.params-to_sql.ensures, c.params-to_sql-2.ensures, c.params-to_sql-3.ensures, c.params-to_sql-4.ensures) at c.execute.ensures.runs in
    let ran = adds_row (adds_header given) g.S.Store _ _ c.execute.result c.requires c.execute.ensures.ended runs c.execute.ensures.survives in
    record { same_reference = c.execute.ensures.same_reference; added = λ clean. (ran clean).0; failed = λ clean. (ran clean).1; survives = c.execute.ensures.survives }
