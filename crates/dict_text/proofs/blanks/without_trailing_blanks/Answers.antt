use Rattle.std.proofs.Common.{◌≡◌, true, false, sym, ◌∙◌}
use Rattle.std.proofs.lemmas.Bool.{or_left, or_right, or_from, eq-eqb, ne_eqb}
use Rattle.dict_text.specs.Characters.{is_blank}
use Rattle.dict_text.proofs.BlankLemmas.{trailing_blank_at, trailing_solid_at}
use Rattle.dict_text.proofs.blanks.without_trailing_blanks.Goals as goal
use Rattle.dict_text.proofs.blanks.without_trailing_blanks.Goals.{else-last-ne32-via-then-last-ne32+else-last-ne9, else-last-ne32-via-else-last-ne32}

pub loop-last-preserved : goal.loop-last-preserved
loop-last-preserved c =
    let blank : is_blank c.in-Some.last.now ≡ true = elim c.else-last-ne32.branch [
      | else-last-ne32-via-then-last-ne32+else-last-ne9 w ↦ or_right _ _ (eq-eqb _ 9 w.if-last-ne9.false)
      | else-last-ne32-via-else-last-ne32 w ↦ or_left _ _ (eq-eqb _ 32 w.if-last-ne32.false)
    ] in
    sym (trailing_blank_at _ _ _ c.in-Some.ensures.cases.0 blank) ∙ c.loop-last.invariant

pub returns-then-last-ne9 : goal.returns-then-last-ne9
returns-then-last-ne9 c =
    let solid : is_blank c.in-Some.last.now ≡ false = or_from _ _ (ne_eqb _ 32 c.if-last-ne32.true) (ne_eqb _ 9 c.if-last-ne9.true) in
    sym (trailing_solid_at _ _ _ c.in-Some.ensures.cases.0 solid) ∙ c.loop-last.invariant
