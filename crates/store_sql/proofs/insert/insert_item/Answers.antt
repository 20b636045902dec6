use Rattle.std.proofs.Common.{rules}
use Rattle.store_tables.specs.Records.{ItemRecord}
use Rattle.store_tables.specs.Typed.{lent_item}
use Rattle.store_sql.proofs.NumberLemmas.{bound_int}
use Rattle.store_sql.proofs.InsertTexts.{adds_row, adds_item, bound_number, bound_text}
use Rattle.store_sql.proofs.insert.insert_item.Goals as goal

pub returns : goal.returns
returns g c =
    let given : ItemRecord = lent_item c.args.given.now in
    let runs = rw (
      bound_int _ c.args.given.now.place (search rules) c.params-to_sql.ensures,
      c.params-to_sql-2.ensures,
      bound_int _ c.args.given.now.kind (search rules) c.params-to_sql-3.ensures,
      c.params-to_sql-4.ensures,
      c.params-to_sql-5.ensures,
      c.params-to_sql-6.ensures,
      bound_text (λ t. t.now) c.args.given.now.title,
      bound_number c.args.given.now.current,
      bound_number c.args.given.now.former,
    ) at c.execute.ensures.runs in
    let ran = adds_row (adds_item given) g.S.Store _ _ c.execute.result c.requires c.execute.ensures.ended runs c.execute.ensures.survives in
    record { same_reference = c.execute.ensures.same_reference; added = λ clean. (ran clean).0; failed = λ clean. (ran clean).1; survives = c.execute.ensures.survives }
