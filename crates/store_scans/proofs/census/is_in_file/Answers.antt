use Rattle.std.proofs.Common.{◌≡◌, pos, rules, subst}
use Rattle.std.proofs.lemmas.Int.{to_z-of_z}
use mir.Syntax.{w64}
use mir.Val.{SFits}
use Rattle.store_rows.specs.Tables.{same_number}
use Rattle.store_scans.proofs.CensusLemmas.{in_index, in_text}
use Rattle.store_scans.proofs.census.is_in_file.Goals as goal

pub returns-then-is_same : goal.returns-then-is_same
returns-then-is_same c =
    let file = c.args.part.now.part.file in
    let fits : SFits w64 file = search rules in
    in_index c.args.part.now c.is_same.result (subst (λ m. c.is_same.result ≡ same_number m (pos 0)) (to_z-of_z w64 file fits) c.is_same.ensures) c.if-is_same.true

pub returns-else-is_same : goal.returns-else-is_same
returns-else-is_same c =
    let file = c.args.part.now.part.file in
    let fits : SFits w64 file = search rules in
    in_text c.args.part.now c.is_same.result c.is_same-else-is_same.result (subst (λ m. c.is_same.result ≡ same_number m (pos 0)) (to_z-of_z w64 file fits) c.is_same.ensures) c.if-is_same.false
    (subst (λ m. c.is_same-else-is_same.result ≡ same_number m (pos 1)) (to_z-of_z w64 file fits) c.is_same-else-is_same.ensures)
