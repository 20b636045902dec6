use Rattle.std.proofs.Common.{rules}
use Rattle.std.proofs.lemmas.Int.{to_z-of_z}
use mir.Syntax.{w64}
use Rattle.sqlite.specs.Held.{state}
use Rattle.store_scans.specs.Scans.{TakesAll, IsWrong}
use Rattle.store_sql.specs.PartRecords.{part_columns, stored_part}
use Rattle.store_scans.specs.Cursors.Cursor.{PartsOf}
use Rattle.store_scans.specs.Files.{TakesParts, RefusesParts}
use Rattle.store_scans.proofs.BeginLemmas.{reads_on, whole_on, damaged_on, cause_on}
use Rattle.store_scans.proofs.CauseLemmas.{told_cause}
use Rattle.store_scans.proofs.files.join_parts.Goals as goal

pub returns-clause-reads : goal.returns-clause-reads
returns-clause-reads g c =
    reads_on g.S.Store (PartsOf c.args.number c.args.file) c.args.conn.now c.in-Ok.rows.conn.now c.take_all.new.rows.conn.now c.conn-2-1.given.0 (search rules)
    (rw (to_z-of_z w64 c.args.number c.ranges.number, to_z-of_z w64 c.args.file c.ranges.file) at c.in-Ok.ensures.begun) c.take_all.ensures.survives c.in-Ok.ensures.mode c.in-Ok.ensures.survives c.take_all.ensures.mode
    c.take_all.ensures.stays

pub returns-clause-whole : goal.returns-clause-whole
returns-clause-whole g c clean =
    whole_on g.S.Store (PartsOf c.args.number c.args.file) c.args.conn.now c.in-Ok.rows.conn.now c.take_all.new.rows.conn.now c.conn-2-1.given.0 (search rules)
    (rw (to_z-of_z w64 c.args.number c.ranges.number, to_z-of_z w64 c.args.file c.ranges.file) at c.in-Ok.ensures.begun) c.take_all.ensures.survives c.take_all.result
    (λ what db. TakesAll stored_part TakesParts what db c.args.joiner.now c.take_all.new.taker) c.take_all.ensures.whole clean

pub returns-clause-damaged : goal.returns-clause-damaged
returns-clause-damaged g c clean =
    damaged_on g.S.Store (PartsOf c.args.number c.args.file) c.args.conn.now c.in-Ok.rows.conn.now c.take_all.new.rows.conn.now c.conn-2-1.given.0 (search rules)
    (rw (to_z-of_z w64 c.args.number c.ranges.number, to_z-of_z w64 c.args.file c.ranges.file) at c.in-Ok.ensures.begun) c.take_all.ensures.survives c.take_all.result
    (λ what db. IsWrong stored_part part_columns RefusesParts what db c.args.joiner.now) c.take_all.ensures.damaged clean

pub returns-clause-failed : goal.returns-clause-failed
returns-clause-failed g c clean =
    cause_on g.S.Store (PartsOf c.args.number c.args.file) c.args.conn.now c.in-Ok.rows.conn.now c.take_all.new.rows.conn.now c.conn-2-1.given.0 (search rules)
    (rw (to_z-of_z w64 c.args.number c.ranges.number, to_z-of_z w64 c.args.file c.ranges.file) at c.in-Ok.ensures.begun) c.take_all.ensures.survives c.in-Ok.ensures.survives c.take_all.result c.take_all.ensures.failed clean

pub returns-in-Err-clause-failed : goal.returns-in-Err-clause-failed
returns-in-Err-clause-failed g c clean = told_cause (state g.S.Store c.args.conn.now) (state g.S.Store c.read_parts_of.follows.lender-at-none) c.in-Err.error c.fault_of_store.result c.fault_of_store.ensures (search rules)
