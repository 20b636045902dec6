-- what the parts so far leave as it was
use Rattle.dict_session.specs.Desks.{Stays}
use Rattle.app_words.proofs.changing.do_later.Given as goal

abbrev pub invariant-loop : goal.invariant-loop
invariant-loop g l = Stays g.K.Lookup.shows g.K.Lookup.leaves_one_of g.K.Lookup.keeps_beside g.K.Lookup.is_trusted g.K.Lookup.is_closed l.fn.desk l.desk
