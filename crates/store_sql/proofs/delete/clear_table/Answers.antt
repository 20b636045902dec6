use Rattle.store_sql.proofs.DeleteTexts.{clears, takes_out}
use Rattle.store_sql.proofs.delete.clear_table.Goals as goal

pub returns : goal.returns
returns g c =
    let runs = rw c.text_of.ensures at c.execute.ensures.runs in
    let ran = takes_out (clears c.args.table) g.S.Store _ _ c.execute.result c.requires c.execute.ensures.ended runs c.execute.ensures.survives in
    record { same_reference = c.execute.ensures.same_reference; removed = λ clean. (ran clean).0; counted = λ clean. (ran clean).1; failed = λ clean. (ran clean).2; survives = c.execute.ensures.survives }
