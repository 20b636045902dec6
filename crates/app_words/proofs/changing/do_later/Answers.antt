use Rattle.dict_session.proofs.PartLemmas.{stays_after, stays_same}
use Rattle.app_words.proofs.changing.do_later.Goals as goal

pub loop-init : goal.loop-init
loop-init g c = stays_same g.K.Lookup.shows g.K.Lookup.leaves_one_of g.K.Lookup.keeps_beside g.K.Lookup.is_trusted g.K.Lookup.is_closed c.args.desk.now

pub loop-preserved : goal.loop-preserved
loop-preserved g c = stays_after g.K.Lookup.shows g.K.Lookup.leaves_one_of g.K.Lookup.keeps_beside g.K.Lookup.is_trusted g.K.Lookup.is_closed _ _ _ c.loop.invariant c.do_part.ensures
