use Rattle.std.proofs.Common.{refl}
use Rattle.store_sql.specs.Streams.Scan.{KeptById}
use Rattle.store_sql.proofs.ScanLemmas.{begins, begins_alone, not_begun}
use Rattle.store_sql.proofs.StreamLemmas.{reads}
use Rattle.store_sql.proofs.stream.read_kept_by_id.Goals as goal

pub returns : goal.returns
returns g c =
    let what = KeptById in
    let begun = begins (reads what) g.S.Store c.args.conn.now c.requires c.query.result (λ rows. rows.conn.now) c.query.ensures.survives c.query.ensures.begun in
    let alone = begins_alone (reads what) g.S.Store c.args.conn.now c.requires c.query.result (λ rows. rows.conn.now) c.query.ensures.survives in (
      (refl, c.query.follows.holds, not_begun (reads what) g.S.Store c.args.conn.now c.requires c.query.result c.query.follows.lender-at-none c.query.follows.holds-at-none),
      record { refused = tt; same_reference = c.query.ensures.same_reference; begun = begun; mode = c.query.ensures.mode; survives = alone },
    )
