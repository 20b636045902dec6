use Rattle.std.proofs.Common.{refl}
use Rattle.store_sql.proofs.NumberLemmas.{bound_int}
use Rattle.store_older_sql.specs.Scans.OlderScan.{OldOf}
use Rattle.store_sql.proofs.ScanLemmas.{begins, begins_alone, not_begun}
use Rattle.store_older_sql.proofs.ScanLemmas.{reads}
use Rattle.store_older_sql.proofs.keyed_old.read_old_rows_of.Goals as goal

pub returns : goal.returns
returns g c =
    let what = OldOf c.args.edition in
    let bound = bound_int _ c.args.edition c.ranges.edition c.params-to_sql.ensures in
    let survives = rw bound at c.query.ensures.survives in
    let began = rw bound at c.query.ensures.begun in
    let begun = begins (reads what) g.S.Store c.args.conn.now c.requires c.query.result (λ rows. rows.conn.now) survives began in
    let alone = begins_alone (reads what) g.S.Store c.args.conn.now c.requires c.query.result (λ rows. rows.conn.now) survives in (
      (refl, c.query.follows.holds, not_begun (reads what) g.S.Store c.args.conn.now c.requires c.query.result c.query.follows.lender-at-none (rw bound at c.query.follows.holds-at-none)),
      record { refused = tt; same_reference = c.query.ensures.same_reference; begun = begun; mode = c.query.ensures.mode; survives = alone },
    )
