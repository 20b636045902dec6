use Rattle.std.proofs.Common.{subst}
use Rattle.dict_proto.specs.Told.{Tells}
use Rattle.dict_session.specs.Desks.{across}
use Rattle.dict_session.proofs.answer.answer_line.Goals as goal

pub returns-in-Err-clause-value : goal.returns-in-Err-clause-value
returns-in-Err-clause-value g c = λ trusted M shown meaning told.
    c.answer_fault.ensures.value M c.args.host.now (across g.L.Lookup.has_failed g.L.Lookup.is_closed c.args.desk.now c.args.desk.now) meaning (subst (λ r. Tells r meaning) c.in-Err.is told)
