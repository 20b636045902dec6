use Rattle.net_hub.proofs.LawLemmas.{one_of_served}
use Rattle.net_hub.proofs.laws.one_served.Goals as goal

pub returns : goal.returns
returns c = one_of_served c.one_answer.ensures.one c.one_answer.ensures.none
