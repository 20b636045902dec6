use Rattle.std.proofs.lemmas.Int.{to_z-of_z}
use mir.Syntax.{w64}
use Rattle.store_opening.proofs.texts.read_edition.Goals as goal

pub returns-in-Plain-clause-one : goal.returns-in-Plain-clause-one
returns-in-Plain-clause-one g c clean = rw c.in-Plain.is (rw (to_z-of_z w64 c.args.number c.ranges.number) at c.whole_edition.ensures.one clean)

pub returns-in-Plain-clause-damaged : goal.returns-in-Plain-clause-damaged
returns-in-Plain-clause-damaged g c clean = rw c.in-Plain.is (rw (to_z-of_z w64 c.args.number c.ranges.number) at c.whole_edition.ensures.damaged clean)

pub returns-in-Keyed-clause-one : goal.returns-in-Keyed-clause-one
returns-in-Keyed-clause-one g c clean = rw c.in-Keyed.is (rw (to_z-of_z w64 c.args.number c.ranges.number) at c.whole_edition-in-Keyed.ensures.one clean)

pub returns-in-Keyed-clause-damaged : goal.returns-in-Keyed-clause-damaged
returns-in-Keyed-clause-damaged g c clean = rw c.in-Keyed.is (rw (to_z-of_z w64 c.args.number c.ranges.number) at c.whole_edition-in-Keyed.ensures.damaged clean)

pub returns-in-Shown-clause-one : goal.returns-in-Shown-clause-one
returns-in-Shown-clause-one g c clean = rw c.in-Shown.is (rw (to_z-of_z w64 c.args.number c.ranges.number) at c.whole_edition-in-Shown.ensures.one clean)

pub returns-in-Shown-clause-damaged : goal.returns-in-Shown-clause-damaged
returns-in-Shown-clause-damaged g c clean = rw c.in-Shown.is (rw (to_z-of_z w64 c.args.number c.ranges.number) at c.whole_edition-in-Shown.ensures.damaged clean)

pub returns-in-Parted-clause-one : goal.returns-in-Parted-clause-one
returns-in-Parted-clause-one g c clean = rw c.in-Parted.is (rw (to_z-of_z w64 c.args.number c.ranges.number) at c.parted_edition.ensures.one clean)

pub returns-in-Parted-clause-damaged : goal.returns-in-Parted-clause-damaged
returns-in-Parted-clause-damaged g c clean = rw c.in-Parted.is (rw (to_z-of_z w64 c.args.number c.ranges.number) at c.parted_edition.ensures.damaged clean)
