use Rattle.std.proofs.Common.{◌≡◌, length, arith}
use Rattle.std.proofs.lemmas.Int.{to_z-of_z}
use mir.Syntax.{w64}
use Rattle.store_opening.proofs.NoneLemmas.{one_item}
use Rattle.store_opening.proofs.texts.edition_numbered.Goals as goal

pub returns-clause-one : goal.returns-clause-one
returns-clause-one g c clean =
    let one : length c.in-Ok.all.items ≡ 1 = omega (arith, c.in-Ok.all.ok.0) in
    rw (one_item c.in-Ok.all.items c.remove-one.result one c.remove-one.ensures.value) at (rw (to_z-of_z w64 c.args.number c.ranges.number) at (c.in-Ok.ensures.selected clean).0)
