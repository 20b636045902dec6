use Rattle.std.proofs.Common.{length, ◌≤◌}
use Rattle.std.specs.List.{AllByRecursion}
use Rattle.dict_index.specs.Tests.{HasShortLines}
use Rattle.dict_index.proofs.line.has_short_lines.Given as goal

-- the text has short lines where and only where those that are left are short
abbrev pub invariant-loop-line : goal.invariant-loop-line
invariant-loop-line l = record {
  whole : AllByRecursion (λ line. length line ≤ 1021) l.lines → HasShortLines l.text;
  rest : HasShortLines l.text → AllByRecursion (λ line. length line ≤ 1021) l.lines;
}
