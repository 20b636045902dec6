use Rattle.std.proofs.Common.{refl}
use Rattle.sqlite.specs.Held.{state}
use Rattle.store_tables.specs.Tables.{kept}
use Rattle.store_tables.specs.Effects.{equals_text}
use Rattle.store_sql.specs.Reads.{select_one_kept}
use Rattle.store_sql.proofs.ReadTexts.{read_one_kept, reads_one_kept}
use Rattle.store_sql.proofs.ListingLemmas.{kept_read}
use Rattle.store_sql.proofs.ReadFaults.{a_text, takes_one_kept, asked}
use Rattle.store_sql.proofs.read.one_kept_rows.Goals as goal

pub returns : goal.returns
returns g c =
    let old = state g.S.Store c.args.conn.now in
    let new = state g.S.Store c.query_all.new.self in
    let it =
    asked select_one_kept read_one_kept kept _ _ _ _ _ _ _ _ reads_one_kept a_text takes_one_kept c.args.id.now (λ tree. refl) (equals_text 1 c.args.id.now) (λ tree row. kept_read tree c.args.id.now row)
    old new c.query_all.result c.requires (rw c.params-to_sql.ensures at c.query_all.ensures.survives) (rw c.params-to_sql.ensures at c.query_all.ensures.ok) (rw c.params-to_sql.ensures at c.query_all.ensures.err) in
    record { selected = λ clean. (it.0 clean).0; failed = λ clean. (it.0 clean).1; mode = c.query_all.ensures.mode; survives = it.1 }
