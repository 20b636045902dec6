use Rattle.std.proofs.lemmas.Int.{to_z-of_z}
use mir.Syntax.{w64}
use Rattle.store_opening.proofs.editions.read_entries.Goals as goal

pub returns-in-Plain-clause-whole : goal.returns-in-Plain-clause-whole
returns-in-Plain-clause-whole g c clean = rw c.in-Plain.is (rw (to_z-of_z w64 c.args.number c.ranges.number) at c.read_plain_entries.ensures.whole clean)

pub returns-in-Plain-clause-damaged : goal.returns-in-Plain-clause-damaged
returns-in-Plain-clause-damaged g c clean = rw c.in-Plain.is (rw (to_z-of_z w64 c.args.number c.ranges.number) at c.read_plain_entries.ensures.damaged clean)

pub returns-in-Keyed-clause-whole : goal.returns-in-Keyed-clause-whole
returns-in-Keyed-clause-whole g c clean = rw c.in-Keyed.is (rw (to_z-of_z w64 c.args.number c.ranges.number) at c.read_old_entries.ensures.whole clean)

pub returns-in-Keyed-clause-damaged : goal.returns-in-Keyed-clause-damaged
returns-in-Keyed-clause-damaged g c clean = rw c.in-Keyed.is (rw (to_z-of_z w64 c.args.number c.ranges.number) at c.read_old_entries.ensures.damaged clean)

pub returns-in-Shown-clause-whole : goal.returns-in-Shown-clause-whole
returns-in-Shown-clause-whole g c clean = rw c.in-Shown.is (rw (to_z-of_z w64 c.args.number c.ranges.number) at c.read_shown_entries.ensures.whole clean)

pub returns-in-Shown-clause-damaged : goal.returns-in-Shown-clause-damaged
returns-in-Shown-clause-damaged g c clean = rw c.in-Shown.is (rw (to_z-of_z w64 c.args.number c.ranges.number) at c.read_shown_entries.ensures.damaged clean)

pub returns-in-Parted-clause-whole : goal.returns-in-Parted-clause-whole
returns-in-Parted-clause-whole g c clean = rw c.in-Parted.is (rw (to_z-of_z w64 c.args.number c.ranges.number) at c.read_filed_entries.ensures.whole clean)

pub returns-in-Parted-clause-damaged : goal.returns-in-Parted-clause-damaged
returns-in-Parted-clause-damaged g c clean = rw c.in-Parted.is (rw (to_z-of_z w64 c.args.number c.ranges.number) at c.read_filed_entries.ensures.damaged clean)
