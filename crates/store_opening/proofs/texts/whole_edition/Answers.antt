use Rattle.std.proofs.Common.{refl}
use Rattle.std.proofs.lemmas.Int.{to_z-of_z}
use mir.Syntax.{w64}
use Rattle.store_opening.proofs.texts.whole_edition.Goals as goal

pub returns-clause-one : goal.returns-clause-one
returns-clause-one g c clean = (c.in_ok-row.row, rw (to_z-of_z w64 c.args.number c.ranges.number) at c.in_ok-row.ensures.one clean, refl)
