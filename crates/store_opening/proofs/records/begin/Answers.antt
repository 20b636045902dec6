use Rattle.std.proofs.Common.{codes, sym, ◌∙◌}
use Rattle.sqlite.specs.State.{HasCleanDisk}
use Rattle.sqlite.specs.Held.{state}
use Rattle.store_rows.specs.Given.{marks_given, items_given, members_given}
use Rattle.store_rows.specs.Taken.{begun}
use Rattle.store_sql.specs.Columns.{item_columns, member_columns}
use Rattle.store_tables.specs.Effects.{rows_of}
use Rattle.store_holdings.proofs.ReadableLemmas.{held_readable}
use Rattle.store_scans.proofs.ScanLemmas.{rows_damaged}
use Rattle.store_scans.proofs.StateLemmas.{clean_before}
use Rattle.store_scans.proofs.TakerLemmas.{on_damage}
use Rattle.store_opening.proofs.ReadableLemmas.{none_listed}
use Rattle.store_opening.proofs.WrongLemmas.{has_begun, begin_wrong}
use Rattle.store_opening.proofs.records.begin.Goals as goal

pub returns-in-Ok-begun-clause-begun : goal.returns-in-Ok-begun-clause-begun
returns-in-Ok-begun-clause-begun g c clean lm =
    let li = c.in-Ok.ensures.listed (clean_before (state g.S.Store c.args.conn.now) _ _ c.members.ensures.survives clean) in (
      begun (marks_given c.args.marks.now) (items_given c.in-Ok.items.items) (members_given c.in-Ok-members.members.items),
      rw c.deref-2.ensures.value at (rw c.deref.ensures.value at c.in-Ok-begun.ensures.taken),
      has_begun c.args.version _ c.args.marks.now c.in-Ok.items.items c.in-Ok-members.members.items lm li.0 (rw li.1.0.now_is at (c.in-Ok-members.ensures.listed clean).0),
    )

pub returns-in-Err-clause-damaged : goal.returns-in-Err-clause-damaged
returns-in-Err-clause-damaged g c clean is lm M h =
    let old = state g.S.Store c.args.conn.now in
    none_listed item_columns (rows_of (codes "item") old.now) old (state g.S.Store c.items.new.conn) c.in-Err.error (c.in-Err.ensures.failed clean) (sym c.fault_of_read.ensures ∙ is) (held_readable c.args.version old.now M h).1.0

pub returns-in-Err-members-clause-damaged : goal.returns-in-Err-members-clause-damaged
returns-in-Err-members-clause-damaged g c clean is lm M h =
    let mid = state g.S.Store c.items.new.conn in
    let new = state g.S.Store c.members.new.conn in
    let early : HasCleanDisk mid = clean_before (state g.S.Store c.args.conn.now) mid new c.members.ensures.survives clean in
    none_listed member_columns (rows_of (codes "member") mid.now) mid new c.in-Err-members.error (c.in-Err-members.ensures.failed clean) (sym c.fault_of_read-in-Err-members.ensures ∙ is)
    (held_readable c.args.version mid.now M (rw (c.in-Ok.ensures.listed early).1.0.now_is h)).1.1.0

pub returns-in-Err-begun-clause-damaged : goal.returns-in-Err-begun-clause-damaged
returns-in-Err-begun-clause-damaged g c clean is lm =
    let li = c.in-Ok.ensures.listed (clean_before (state g.S.Store c.args.conn.now) _ _ c.members.ensures.survives clean) in
    let none = on_damage c.in-Err-begun.fault _ c.in-Err-begun.ensures.damaged (rows_damaged c.in-Err-begun.fault (sym c.fault_of_rows.ensures ∙ is)) in
    begin_wrong c.args.version _ c.args.marks.now c.in-Ok.items.items c.in-Ok-members.members.items lm li.0 (rw li.1.0.now_is at (c.in-Ok-members.ensures.listed clean).0)
    (rw c.deref-2.ensures.value at (rw c.deref.ensures.value at none))
