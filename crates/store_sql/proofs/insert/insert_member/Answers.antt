use Rattle.std.proofs.Common.{rules}
use Rattle.store_tables.specs.Records.{Member}
use Rattle.store_tables.specs.Typed.{lent_member}
use Rattle.store_sql.proofs.NumberLemmas.{bound_int}
use Rattle.store_sql.proofs.InsertTexts.{adds_row, adds_member}
use Rattle.store_sql.proofs.insert.insert_member.Goals as goal

pub returns : goal.returns
returns g c =
    let given : Member = lent_member c.args.given.now in
    let runs = rw (c.params-to_sql.ensures, bound_int _ c.args.given.now.ord (search rules) c.params-to_sql-2.ensures, c.params-to_sql-3.ensures) at c.execute.ensures.runs in
    let ran = adds_row (adds_member given) g.S.Store _ _ c.execute.result c.requires c.execute.ensures.ended runs c.execute.ensures.survives in
    record { same_reference = c.execute.ensures.same_reference; added = λ clean. (ran clean).0; failed = λ clean. (ran clean).1; survives = c.execute.ensures.survives }
