use Rattle.std.proofs.Common.{rules}
use Rattle.std.proofs.lemmas.Result.{on_ok_weaker}
use Rattle.sqlite.specs.Held.{state}
use Rattle.store_tables.specs.Keyed.{entry_with_keys}
use Rattle.store_tables.specs.Effects.{Has}
use Rattle.store_scans.specs.Scans.{TakesAll, IsWrong}
use Rattle.std.proofs.Common.{codes}
use Rattle.store_sql.specs.Keyed.{keyed_entry_columns, stored_keyed_entry}
use Rattle.store_scans.specs.Cursors.Cursor.{ShownEntriesByRowid}
use Rattle.store_scans.proofs.CensusLemmas.{census_whole, census_wrong, selection_lists}
use Rattle.store_scans.proofs.TypedLemmas.{shown_readable}
use Rattle.std.proofs.Common.{refl}
use Rattle.store_scans.specs.Census.{TakesCensus, refuses_census}
use Rattle.store_scans.proofs.BeginLemmas.{reads_on, whole_on, damaged_on, cause_on, found_live}
use Rattle.store_scans.proofs.TakerLemmas.{if_err_then}
use Rattle.store_scans.proofs.CauseLemmas.{told_cause}
use Rattle.store_scans.proofs.census.test_shown_rows.Goals as goal

pub returns-clause-reads : goal.returns-clause-reads
returns-clause-reads g c =
    reads_on g.S.Store ShownEntriesByRowid c.args.conn.now c.in-Ok.rows.conn.now c.take_all.new.rows.conn.now c.conn-2-1.given.0 (search rules) c.in-Ok.ensures.begun c.take_all.ensures.survives c.in-Ok.ensures.mode
    c.in-Ok.ensures.survives c.take_all.ensures.mode c.take_all.ensures.stays

pub returns-clause-whole : goal.returns-clause-whole
returns-clause-whole g c clean =
    on_ok_weaker c.take_all.result (λ all. census_whole stored_keyed_entry keyed_entry_columns ShownEntriesByRowid (codes "entry") (state g.S.Store c.args.conn.now).now c.args.numbers.now
    (record { numbers = c.args.numbers; rowids = c.new.result }) refl c.new.ensures (λ rows h. selection_lists (codes "entry") (state g.S.Store c.args.conn.now).now rows h) c.take_all.new.taker all)
    (whole_on g.S.Store ShownEntriesByRowid c.args.conn.now c.in-Ok.rows.conn.now c.take_all.new.rows.conn.now c.conn-2-1.given.0 (search rules) c.in-Ok.ensures.begun c.take_all.ensures.survives c.take_all.result
    (λ what db. TakesAll stored_keyed_entry (TakesCensus stored_keyed_entry) what db (record { numbers = c.args.numbers; rowids = c.new.result }) c.take_all.new.taker) c.take_all.ensures.whole clean)

pub returns-clause-damaged : goal.returns-clause-damaged
returns-clause-damaged g c clean =
    let found = found_live g.S.Store ShownEntriesByRowid c.args.conn.now c.in-Ok.rows.conn.now c.take_all.new.rows.conn.now c.conn-2-1.given.0 (search rules) c.in-Ok.ensures.begun c.take_all.ensures.survives c.in-Ok.ensures.survives
    (Has entry_with_keys) c.requires c.is_live.ensures clean in
    if_err_then _ _ c.take_all.result (λ fault wrong is. λ readable apart. census_wrong stored_keyed_entry keyed_entry_columns ShownEntriesByRowid (codes "entry") (state g.S.Store c.args.conn.now).now c.args.numbers.now
    (record { numbers = c.args.numbers; rowids = c.new.result }) refl c.new.ensures (λ rows h. selection_lists (codes "entry") (state g.S.Store c.args.conn.now).now rows h)
    (shown_readable (state g.S.Store c.args.conn.now).now found.0 found.1 readable) apart (wrong is))
    (damaged_on g.S.Store ShownEntriesByRowid c.args.conn.now c.in-Ok.rows.conn.now c.take_all.new.rows.conn.now c.conn-2-1.given.0 (search rules) c.in-Ok.ensures.begun c.take_all.ensures.survives c.take_all.result
    (λ what db. IsWrong stored_keyed_entry keyed_entry_columns (refuses_census stored_keyed_entry) what db (record { numbers = c.args.numbers; rowids = c.new.result })) c.take_all.ensures.damaged clean)

pub returns-clause-failed : goal.returns-clause-failed
returns-clause-failed g c clean =
    cause_on g.S.Store ShownEntriesByRowid c.args.conn.now c.in-Ok.rows.conn.now c.take_all.new.rows.conn.now c.conn-2-1.given.0 (search rules) c.in-Ok.ensures.begun c.take_all.ensures.survives c.in-Ok.ensures.survives c.take_all.result
    c.take_all.ensures.failed clean

pub returns-in-Err-clause-failed : goal.returns-in-Err-clause-failed
returns-in-Err-clause-failed g c clean = told_cause (state g.S.Store c.args.conn.now) (state g.S.Store c.read_shown_by_rowid.follows.lender-at-none) c.in-Err.error c.fault_of_store.result c.fault_of_store.ensures (search rules)
