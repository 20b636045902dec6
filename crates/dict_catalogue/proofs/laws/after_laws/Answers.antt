use Rattle.dict_catalogue.proofs.StepLemmas.{after_acting, acting_again, after_keeps}
use Rattle.dict_catalogue.proofs.laws.after_laws.Goals as goal

pub returns-clause-same : goal.returns-clause-same
returns-clause-same c = after_acting

pub returns-clause-again : goal.returns-clause-again
returns-clause-again c = acting_again

pub returns-clause-once : goal.returns-clause-once
returns-clause-once c = after_keeps
