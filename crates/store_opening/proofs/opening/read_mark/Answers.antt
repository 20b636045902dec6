use Rattle.std.proofs.Common.{◌<◌, ◌≤◌, rules, arith}
use Rattle.sqlite.specs.Held.{state}
use Rattle.store_rows.specs.Versions.{known}
use Rattle.store_opening.specs.Marks.{HasMarkTable}
use Rattle.store_opening.proofs.MarkLemmas.{has_mark, is_marked, no_record}
use Rattle.store_opening.proofs.opening.read_mark.Goals as goal

pub returns-in-Err-NoRecord-clause-none : goal.returns-in-Err-NoRecord-clause-none
returns-in-Err-NoRecord-clause-none g c clean is v h = no_record _ v h (rw c.in-Err-NoRecord.field-0-is at c.in-Err-NoRecord.ensures.failed clean).1

pub returns-in-None-clause-none : goal.returns-in-None-clause-none
returns-in-None-clause-none g c clean is v h = (rw c.in-None.is at c.version_of.ensures.none) v (rw c.deref.ensures.value (is_marked _ c.in-Ok.marks.items v (c.in-Ok.ensures.listed clean).0 h))

pub returns-then-version-gt-KNOWN_VERSION-clause-newer : goal.returns-then-version-gt-KNOWN_VERSION-clause-newer
returns-then-version-gt-KNOWN_VERSION-clause-newer g c clean is =
    let own : HasMarkTable (state g.S.Store c.args.conn.now).now.schema = search rules in
    let marked = rw c.deref.ensures.value at (rw c.in-Some.is at c.version_of.ensures.told) in
    let above : known < c.in-Some.version = omega (arith, marked.2) in
    (c.in-Some.version, has_mark _ c.in-Ok.marks.items c.in-Some.version own (c.in-Ok.ensures.listed clean).0 marked, above)

pub returns-clause-marked : goal.returns-clause-marked
returns-clause-marked g c clean =
    let own : HasMarkTable (state g.S.Store c.args.conn.now).now.schema = search rules in
    let listed = (c.in-Ok.ensures.listed clean).0 in
    (listed, has_mark _ c.in-Ok.marks.items c.in-Some.version own listed (rw c.deref.ensures.value at (rw c.in-Some.is at c.version_of.ensures.told)))

pub returns-clause-known : goal.returns-clause-known
returns-clause-known g c =
    let within : c.in-Some.version ≤ known = omega arith in
    record { counted = (rw c.in-Some.is at c.version_of.ensures.told).2; within = within }
