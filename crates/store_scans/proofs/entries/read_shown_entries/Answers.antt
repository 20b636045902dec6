use Rattle.std.proofs.Common.{rules}
use Rattle.std.proofs.lemmas.Result.{on_ok_weaker}
use Rattle.std.proofs.lemmas.Int.{to_z-of_z}
use mir.Syntax.{w64}
use Rattle.sqlite.specs.Held.{state}
use Rattle.store_tables.specs.Keyed.{entry_with_keys}
use Rattle.store_tables.specs.Effects.{Has}
use Rattle.store_scans.specs.Scans.{TakesAll, IsWrong}
use Rattle.store_sql.specs.Keyed.{keyed_entry_columns, stored_keyed_entry}
use Rattle.store_scans.specs.Cursors.Cursor.{ShownEntriesOf}
use Rattle.store_scans.specs.IndexingReader.{takes_shown, refuses_shown}
use Rattle.store_scans.proofs.EntryLemmas.{shown_whole, shown_wrong}
use Rattle.store_scans.proofs.BeginLemmas.{reads_on, whole_on, damaged_on, cause_on, found_live}
use Rattle.store_scans.proofs.TakerLemmas.{if_err_then}
use Rattle.store_scans.proofs.CauseLemmas.{told_cause}
use Rattle.store_scans.proofs.entries.read_shown_entries.Goals as goal

pub returns-clause-reads : goal.returns-clause-reads
returns-clause-reads g c =
    reads_on g.S.Store (ShownEntriesOf c.args.number) c.args.conn.now c.in-Ok.rows.conn.now c.take_all.new.rows.conn.now c.conn-2-1.given.0 (search rules) (rw (to_z-of_z w64 c.args.number c.ranges.number) at c.in-Ok.ensures.begun)
    c.take_all.ensures.survives c.in-Ok.ensures.mode c.in-Ok.ensures.survives c.take_all.ensures.mode c.take_all.ensures.stays

pub returns-clause-whole : goal.returns-clause-whole
returns-clause-whole g c clean =
    on_ok_weaker c.take_all.result (λ all. shown_whole (state g.S.Store c.args.conn.now).now c.args.number c.args.reader.now c.take_all.new.taker all)
    (whole_on g.S.Store (ShownEntriesOf c.args.number) c.args.conn.now c.in-Ok.rows.conn.now c.take_all.new.rows.conn.now c.conn-2-1.given.0 (search rules) (rw (to_z-of_z w64 c.args.number c.ranges.number) at c.in-Ok.ensures.begun)
    c.take_all.ensures.survives c.take_all.result (λ what db. TakesAll stored_keyed_entry takes_shown what db c.args.reader.now c.take_all.new.taker) c.take_all.ensures.whole clean)

pub returns-clause-damaged : goal.returns-clause-damaged
returns-clause-damaged g c clean =
    let found = found_live g.S.Store (ShownEntriesOf c.args.number) c.args.conn.now c.in-Ok.rows.conn.now c.take_all.new.rows.conn.now c.conn-2-1.given.0 (search rules)
    (rw (to_z-of_z w64 c.args.number c.ranges.number) at c.in-Ok.ensures.begun) c.take_all.ensures.survives c.in-Ok.ensures.survives (Has entry_with_keys) c.requires c.is_live.ensures clean in
    if_err_then _ _ c.take_all.result (λ fault wrong is. shown_wrong (state g.S.Store c.args.conn.now).now c.args.number c.args.reader.now found.0 found.1 (wrong is))
    (damaged_on g.S.Store (ShownEntriesOf c.args.number) c.args.conn.now c.in-Ok.rows.conn.now c.take_all.new.rows.conn.now c.conn-2-1.given.0 (search rules) (rw (to_z-of_z w64 c.args.number c.ranges.number) at c.in-Ok.ensures.begun)
    c.take_all.ensures.survives c.take_all.result (λ what db. IsWrong stored_keyed_entry keyed_entry_columns refuses_shown what db c.args.reader.now) c.take_all.ensures.damaged clean)

pub returns-clause-failed : goal.returns-clause-failed
returns-clause-failed g c clean =
    cause_on g.S.Store (ShownEntriesOf c.args.number) c.args.conn.now c.in-Ok.rows.conn.now c.take_all.new.rows.conn.now c.conn-2-1.given.0 (search rules) (rw (to_z-of_z w64 c.args.number c.ranges.number) at c.in-Ok.ensures.begun)
    c.take_all.ensures.survives c.in-Ok.ensures.survives c.take_all.result c.take_all.ensures.failed clean

pub returns-in-Err-clause-failed : goal.returns-in-Err-clause-failed
returns-in-Err-clause-failed g c clean = told_cause (state g.S.Store c.args.conn.now) (state g.S.Store c.read_shown_rows_of.follows.lender-at-none) c.in-Err.error c.fault_of_store.result c.fault_of_store.ensures (search rules)
