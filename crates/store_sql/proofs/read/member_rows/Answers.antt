use Rattle.std.proofs.Common.{true, codes, refl}
use Rattle.sqlite.specs.Held.{state}
use Rattle.store_tables.specs.Tables.{member}
use Rattle.store_sql.specs.Reads.{select_member}
use Rattle.store_sql.proofs.ReadTexts.{read_member, reads_member}
use Rattle.store_sql.proofs.ListingLemmas.{lists_whole}
use Rattle.store_sql.proofs.ReadFaults.{nothing, takes_member, asked}
use Rattle.store_sql.proofs.read.member_rows.Goals as goal

pub returns : goal.returns
returns g c =
    let old = state g.S.Store c.args.conn.now in
    let new = state g.S.Store c.query_all.new.self in
    let it =
    asked select_member read_member member _ _ _ _ _ _ _ _ reads_member nothing takes_member tt (λ tree. refl) (λ _. true) (λ tree row. refl) old new c.query_all.result c.requires
    c.query_all.ensures.survives c.query_all.ensures.ok c.query_all.ensures.err in
    record { listed = λ clean. lists_whole (codes "member") _ old new c.query_all.result (it.0 clean).0; failed = λ clean. (it.0 clean).1; mode = c.query_all.ensures.mode; survives = it.1 }
