use Rattle.std.proofs.Common.{sym, ◌∙◌}
use Rattle.dict_text.proofs.LineLemmas.{first_line, only_line, fewer_lines}
use Rattle.dict_text.proofs.lines.TextLinesIterator.next.Goals as goal

pub returns-in-Some-clause-steps : goal.returns-in-Some-clause-steps
returns-in-Some-clause-steps c = sym c.self.view_is ∙ first_line c.self.inside.rest.now c.in-Some.end c.in-Some.ensures.0 c.in-Some.ensures.1

pub returns-in-Some-clause-goes : goal.returns-in-Some-clause-goes
returns-in-Some-clause-goes c = record {
  on = λ _. (tt, tt, fewer_lines c.self.inside.rest.now c.args.self.now c.in-Some.end c.self.view_is c.in-Some.ensures.0 c.in-Some.ensures.1);
  keeps = tt;
  rests = λ _. tt;
}

pub returns-in-None-clause-steps : goal.returns-in-None-clause-steps
returns-in-None-clause-steps c = sym c.self.view_is ∙ only_line c.self.inside.rest.now c.if-is_empty.ensures c.in-None.ensures
