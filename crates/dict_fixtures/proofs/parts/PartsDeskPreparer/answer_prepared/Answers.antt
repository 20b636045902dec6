use Rattle.dict_fixtures.proofs.parts.PartsDeskPreparer.answer_prepared.Goals as goal

pub returns-in-Ok-clause-done : goal.returns-in-Ok-clause-done
returns-in-Ok-clause-done c = (c.in-Ok.edition, c.in-Ok.ensures.edition, tt)
