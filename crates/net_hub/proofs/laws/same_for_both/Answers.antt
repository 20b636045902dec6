use Rattle.net_hub.proofs.LawLemmas.{same_in_both}
use Rattle.net_hub.proofs.laws.same_for_both.Goals as goal

pub returns-clause-got : goal.returns-clause-got
returns-clause-got c = λ id a b a' b' p q p' q' events others leads leads' host held well well' same.
    (same_in_both c.one_served.ensures id a b a' b' p q p' q' events others leads leads' host held well well' same).0

pub returns-clause-held : goal.returns-clause-held
returns-clause-held c = λ id a b a' b' p q p' q' events others leads leads' host held well well' same.
    (same_in_both c.one_served.ensures id a b a' b' p q p' q' events others leads leads' host held well well' same).1
