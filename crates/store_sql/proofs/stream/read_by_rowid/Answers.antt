use Rattle.std.proofs.Common.{refl}
use Rattle.store_sql.specs.Streams.Scan.{ByRowid}
use Rattle.store_sql.proofs.ScanLemmas.{begins, begins_alone, not_begun}
use Rattle.store_sql.proofs.StreamLemmas.{reads}
use Rattle.store_sql.proofs.stream.read_by_rowid.Goals as goal

pub returns : goal.returns
returns g c =
    let what = ByRowid c.args.table in
    let survives = rw c.text_by_rowid.ensures at c.query.ensures.survives in
    let began = rw c.text_by_rowid.ensures at c.query.ensures.begun in
    let begun = begins (reads what) g.S.Store c.args.conn.now c.requires c.query.result (λ rows. rows.conn.now) survives began in
    let alone = begins_alone (reads what) g.S.Store c.args.conn.now c.requires c.query.result (λ rows. rows.conn.now) survives in (
      (refl, c.query.follows.holds, not_begun (reads what) g.S.Store c.args.conn.now c.requires c.query.result c.query.follows.lender-at-none (rw c.text_by_rowid.ensures at c.query.follows.holds-at-none)),
      record { refused = tt; same_reference = c.query.ensures.same_reference; begun = begun; mode = c.query.ensures.mode; survives = alone },
    )
