use Rattle.std.proofs.Common.{rules}
use Rattle.std.proofs.lemmas.Result.{on_ok_weaker}
use Rattle.sqlite.specs.Held.{state}
use Rattle.store_scans.specs.Scans.{TakesAll, IsWrong}
use Rattle.std.proofs.Common.{codes}
use Rattle.store_sql.specs.HeaderRecords.{header_columns, stored_header}
use Rattle.store_scans.specs.Cursors.Cursor.{HeadersByRowid}
use Rattle.store_scans.proofs.CensusLemmas.{census_whole, census_wrong}
use Rattle.std.proofs.Common.{refl}
use Rattle.store_scans.specs.Census.{TakesCensus, refuses_census}
use Rattle.store_scans.proofs.BeginLemmas.{reads_on, whole_on, damaged_on, cause_on}
use Rattle.store_scans.proofs.TakerLemmas.{if_err_then}
use Rattle.store_scans.proofs.CauseLemmas.{told_cause}
use Rattle.store_scans.proofs.editions.test_headers.Goals as goal

pub returns-clause-reads : goal.returns-clause-reads
returns-clause-reads g c =
    reads_on g.S.Store HeadersByRowid c.args.conn.now c.in-Ok.rows.conn.now c.take_all.new.rows.conn.now c.conn-2-1.given.0 (search rules) c.in-Ok.ensures.begun c.take_all.ensures.survives c.in-Ok.ensures.mode c.in-Ok.ensures.survives
    c.take_all.ensures.mode c.take_all.ensures.stays

pub returns-clause-whole : goal.returns-clause-whole
returns-clause-whole g c clean =
    on_ok_weaker c.take_all.result (λ all. census_whole stored_header header_columns HeadersByRowid (codes "edition") (state g.S.Store c.args.conn.now).now c.args.numbers.now (record { numbers = c.args.numbers; rowids = c.new.result })
    refl c.new.ensures (λ rows h. (h.same, h.sorted)) c.take_all.new.taker all) (whole_on g.S.Store HeadersByRowid c.args.conn.now c.in-Ok.rows.conn.now c.take_all.new.rows.conn.now c.conn-2-1.given.0 (search rules) c.in-Ok.ensures.begun
    c.take_all.ensures.survives c.take_all.result (λ what db. TakesAll stored_header (TakesCensus stored_header) what db (record { numbers = c.args.numbers; rowids = c.new.result }) c.take_all.new.taker) c.take_all.ensures.whole clean)

pub returns-clause-damaged : goal.returns-clause-damaged
returns-clause-damaged g c clean =
    if_err_then _ _ c.take_all.result (λ fault wrong is. λ readable apart. census_wrong stored_header header_columns HeadersByRowid (codes "edition") (state g.S.Store c.args.conn.now).now c.args.numbers.now
    (record { numbers = c.args.numbers; rowids = c.new.result }) refl c.new.ensures (λ rows h. (h.same, h.sorted)) readable apart (wrong is))
    (damaged_on g.S.Store HeadersByRowid c.args.conn.now c.in-Ok.rows.conn.now c.take_all.new.rows.conn.now c.conn-2-1.given.0 (search rules) c.in-Ok.ensures.begun c.take_all.ensures.survives c.take_all.result
    (λ what db. IsWrong stored_header header_columns (refuses_census stored_header) what db (record { numbers = c.args.numbers; rowids = c.new.result })) c.take_all.ensures.damaged clean)

pub returns-clause-failed : goal.returns-clause-failed
returns-clause-failed g c clean =
    cause_on g.S.Store HeadersByRowid c.args.conn.now c.in-Ok.rows.conn.now c.take_all.new.rows.conn.now c.conn-2-1.given.0 (search rules) c.in-Ok.ensures.begun c.take_all.ensures.survives c.in-Ok.ensures.survives c.take_all.result
    c.take_all.ensures.failed clean

pub returns-in-Err-clause-failed : goal.returns-in-Err-clause-failed
returns-in-Err-clause-failed g c clean = told_cause (state g.S.Store c.args.conn.now) (state g.S.Store c.read_headers_by_rowid.follows.lender-at-none) c.in-Err.error c.fault_of_store.result c.fault_of_store.ensures (search rules)
