use Rattle.std.proofs.Common.{refl}
use Rattle.sqlite.specs.Held.{state}
use Rattle.store_tables.specs.Tables.{edition}
use Rattle.store_tables.specs.Effects.{equals_number}
use Rattle.store_sql.specs.Reads.{select_one_edition}
use Rattle.store_sql.proofs.NumberLemmas.{bound_int}
use Rattle.store_sql.proofs.ReadTexts.{read_one_edition, reads_one_edition}
use Rattle.store_sql.proofs.ListingLemmas.{edition_read}
use Rattle.store_sql.proofs.ReadFaults.{a_number, takes_one_edition, asked}
use Rattle.store_sql.proofs.read.one_edition_rows.Goals as goal

pub returns : goal.returns
returns g c =
    let old = state g.S.Store c.args.conn.now in
    let new = state g.S.Store c.query_all.new.self in
    let bound = bound_int _ c.args.number c.ranges.number c.params-to_sql.ensures in
    let it =
    asked select_one_edition read_one_edition edition _ _ _ _ _ _ _ _ reads_one_edition a_number takes_one_edition c.args.number (λ tree. refl) (equals_number 1 c.args.number) (λ tree row. edition_read tree c.args.number row)
    old new c.query_all.result c.requires (rw bound at c.query_all.ensures.survives) (rw bound at c.query_all.ensures.ok) (rw bound at c.query_all.ensures.err) in
    record { selected = λ clean. (it.0 clean).0; failed = λ clean. (it.0 clean).1; mode = c.query_all.ensures.mode; survives = it.1 }
