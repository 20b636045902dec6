use Rattle.std.proofs.Common.{◌≡◌, take, drop}
use Rattle.dict_text.specs.Lines.{text_lines}
use Rattle.dict_index.specs.Gathered.{HasGathered}
use Rattle.dict_index.specs.Refused.{PassLines}
use Rattle.dict_index.proofs.reading.gather_lines.Given as goal

-- so many lines are gathered, and pass
abbrev pub invariant-loop-line : goal.invariant-loop-line
invariant-loop-line l = record {
  rest : l.lines ≡ drop l.number (text_lines l.index);
  gathers : HasGathered l.text (take l.number (text_lines l.index)) l.gathered;
  passes : PassLines l.index l.text l.number;
}
