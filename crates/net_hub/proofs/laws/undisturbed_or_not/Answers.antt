use Rattle.net_hub.proofs.LawLemmas.{undisturbed_or}
use Rattle.net_hub.proofs.laws.undisturbed_or_not.Goals as goal

pub returns : goal.returns
returns c = undisturbed_or c.spoken_or_unavailable.ensures.answers
