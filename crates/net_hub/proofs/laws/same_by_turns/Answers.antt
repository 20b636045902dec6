use Rattle.net_hub.proofs.ObservationLemmas.{some_turns, same_questions}
use Rattle.net_hub.proofs.laws.same_by_turns.Goals as goal

pub returns-clause-some : goal.returns-clause-some
returns-clause-some c = some_turns

pub returns-clause-asked : goal.returns-clause-asked
returns-clause-asked c = same_questions c.one_served.ensures

pub returns-clause-got : goal.returns-clause-got
returns-clause-got c = λ id a b a' b' p q p' q' events others turns leads leads' host held M well well' are are'.
    c.same_for_both.ensures.got id a b a' b' p q p' q' events others leads leads' host held well well'
    (same_questions c.one_served.ensures id a b a' b' p q p' q' events others turns leads leads' host held M well well' are are')
