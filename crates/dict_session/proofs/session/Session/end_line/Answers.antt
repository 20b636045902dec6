use Rattle.std.proofs.Common.{ap}
use Rattle.dict_session.proofs.SessionLemmas.{keeps_none}
use Rattle.dict_session.proofs.session.Session.end_line.Goals as goal

pub returns-in-More-clause-answers : goal.returns-in-More-clause-answers
returns-in-More-clause-answers g c = λ trusted M shown rest h.
    let told = c.request.ensures rest h in
    record {
      finishes = c.in-More.ensures.value trusted M shown _ told;
      keeps = c.clear.ensures.line;
      stands = (c.in-More.ensures.desk.closed, λ none. ap g.L.Lookup.is_closed (c.in-More.ensures.looks M shown _ told none));
      breaks = λ is. c.in-More.ensures.breaks is M shown _ told;
    }

pub returns-in_default-clause-answers : goal.returns-in_default-clause-answers
returns-in_default-clause-answers g c = λ trusted M shown rest h.
    let told = c.request.ensures rest h in
    record {
      finishes = c.answer_line.ensures.value trusted M shown _ told;
      keeps = keeps_none c.answer_line.result c.args.self.now c.in_default.not-More;
      stands = (c.answer_line.ensures.desk.closed, λ none. ap g.L.Lookup.is_closed (c.answer_line.ensures.looks M shown _ told none));
      breaks = λ is. c.answer_line.ensures.breaks is M shown _ told;
    }

pub returns-in-More-clause-quiet : goal.returns-in-More-clause-quiet
returns-in-More-clause-quiet g c = λ M shown rest h none. c.in-More.ensures.looks M shown _ (c.request.ensures rest h) none

pub returns-in_default-clause-quiet : goal.returns-in_default-clause-quiet
returns-in_default-clause-quiet g c = λ M shown rest h none. c.answer_line.ensures.looks M shown _ (c.request.ensures rest h) none
