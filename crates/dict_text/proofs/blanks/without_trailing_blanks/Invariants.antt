use Rattle.std.proofs.Common.{◌≡◌, length}
use Rattle.dict_text.specs.Blanks.{without_trailing_blanks}
use Rattle.dict_text.proofs.blanks.without_trailing_blanks.Given as goal

abbrev pub invariant-loop-last : goal.invariant-loop-last
invariant-loop-last l = without_trailing_blanks l.rest ≡ without_trailing_blanks l.text

abbrev pub decreases-loop-last : goal.decreases-loop-last
decreases-loop-last l = length l.rest
