use Rattle.std.proofs.Common.{◌≡◌, length}
use Rattle.dict_text.specs.Blanks.{without_leading_blanks}
use Rattle.dict_text.proofs.blanks.without_leading_blanks.Given as goal

abbrev pub invariant-loop-others : goal.invariant-loop-others
invariant-loop-others l = without_leading_blanks l.rest ≡ without_leading_blanks l.text

abbrev pub decreases-loop-others : goal.decreases-loop-others
decreases-loop-others l = length l.rest
