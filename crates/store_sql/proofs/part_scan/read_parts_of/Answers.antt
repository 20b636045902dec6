use Rattle.std.proofs.Common.{refl}
use Rattle.store_sql.proofs.NumberLemmas.{bound_int}
use Rattle.store_sql.specs.PartScans.PartScan.{OfFile}
use Rattle.store_sql.proofs.ScanLemmas.{begins, begins_alone, not_begun}
use Rattle.store_sql.proofs.PartReadTexts.{reads}
use Rattle.store_sql.proofs.part_scan.read_parts_of.Goals as goal

pub returns : goal.returns
returns g c =
    let what = OfFile c.args.edition c.args.file in
    let edition = bound_int _ c.args.edition c.ranges.edition c.params-to_sql.ensures in
    let file = bound_int _ c.args.file c.ranges.file c.params-to_sql-2.ensures in
    let survives = rw (edition, file) at c.query.ensures.survives in
    let began = rw (edition, file) at c.query.ensures.begun in
    let begun = begins (reads what) g.S.Store c.args.conn.now c.requires c.query.result (λ rows. rows.conn.now) survives began in
    let alone = begins_alone (reads what) g.S.Store c.args.conn.now c.requires c.query.result (λ rows. rows.conn.now) survives in (
      (refl, c.query.follows.holds, not_begun (reads what) g.S.Store c.args.conn.now c.requires c.query.result c.query.follows.lender-at-none (rw (edition, file) at c.query.follows.holds-at-none)),
      record { refused = tt; same_reference = c.query.ensures.same_reference; begun = begun; mode = c.query.ensures.mode; survives = alone },
    )
