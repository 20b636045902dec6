use Rattle.std.proofs.Common.{rules}
use Rattle.std.proofs.lemmas.Result.{on_ok_weaker}
use Rattle.sqlite.specs.Held.{state}
use Rattle.store_sql.specs.Streams.Scan.{ByRowid}
use Rattle.store_scans.specs.Cursors.Cursor.{InStore}
use Rattle.store_scans.specs.Scans.{TakesAll, IsWrong}
use Rattle.store_scans.specs.Takers.{takes_rowids, refuses_rowids}
use Rattle.store_scans.proofs.RowidLemmas.{rowids_whole}
use Rattle.store_scans.proofs.TestLemmas.{rowids_found}
use Rattle.store_scans.proofs.BeginLemmas.{reads_on, whole_on, damaged_on, cause_on}
use Rattle.store_scans.proofs.TakerLemmas.{if_err_then}
use Rattle.store_scans.proofs.CauseLemmas.{told_cause}
use Rattle.store_scans.proofs.tables.test_rowids.Goals as goal

pub returns-clause-reads : goal.returns-clause-reads
returns-clause-reads g c =
    reads_on g.S.Store (InStore (ByRowid c.args.table)) c.args.conn.now c.in-Ok.rows.conn.now c.take_all.new.rows.conn.now c.conn-2-1.given.0 (search rules) c.in-Ok.ensures.begun c.take_all.ensures.survives c.in-Ok.ensures.mode
    c.in-Ok.ensures.survives c.take_all.ensures.mode c.take_all.ensures.stays

pub returns-clause-whole : goal.returns-clause-whole
returns-clause-whole g c clean =
    on_ok_weaker c.take_all.result (λ all. rowids_whole g.R.Record.stored c.args.table (state g.S.Store c.args.conn.now).now c.new.result c.take_all.new.taker c.new.ensures all)
    (whole_on g.S.Store (InStore (ByRowid c.args.table)) c.args.conn.now c.in-Ok.rows.conn.now c.take_all.new.rows.conn.now c.conn-2-1.given.0 (search rules) c.in-Ok.ensures.begun c.take_all.ensures.survives c.take_all.result
    (λ what db. TakesAll g.R.Record.stored (takes_rowids g.R.Record.stored) what db c.new.result c.take_all.new.taker) c.take_all.ensures.whole clean)

pub returns-clause-damaged : goal.returns-clause-damaged
returns-clause-damaged g c clean =
    if_err_then _ _ c.take_all.result (λ fault wrong is. rowids_found g.R.Record.stored g.R.Record.columns c.args.table (state g.S.Store c.args.conn.now).now c.new.result c.new.ensures (wrong is))
    (damaged_on g.S.Store (InStore (ByRowid c.args.table)) c.args.conn.now c.in-Ok.rows.conn.now c.take_all.new.rows.conn.now c.conn-2-1.given.0 (search rules) c.in-Ok.ensures.begun c.take_all.ensures.survives c.take_all.result
    (λ what db. IsWrong g.R.Record.stored g.R.Record.columns (refuses_rowids g.R.Record.stored) what db c.new.result) c.take_all.ensures.damaged clean)

pub returns-clause-failed : goal.returns-clause-failed
returns-clause-failed g c clean =
    cause_on g.S.Store (InStore (ByRowid c.args.table)) c.args.conn.now c.in-Ok.rows.conn.now c.take_all.new.rows.conn.now c.conn-2-1.given.0 (search rules) c.in-Ok.ensures.begun c.take_all.ensures.survives c.in-Ok.ensures.survives
    c.take_all.result c.take_all.ensures.failed clean

pub returns-in-Err-clause-failed : goal.returns-in-Err-clause-failed
returns-in-Err-clause-failed g c clean = told_cause (state g.S.Store c.args.conn.now) (state g.S.Store c.read_by_rowid.follows.lender-at-none) c.in-Err.error c.fault_of_store.result c.fault_of_store.ensures (search rules)
