use Rattle.net_hub.proofs.DurableLemmas.{left_if_open, left_or_closed}
use Rattle.net_hub.proofs.laws.acknowledged_is_left.Goals as goal

pub returns-clause-left : goal.returns-clause-left
returns-clause-left c = left_if_open

pub returns-clause-or_closed : goal.returns-clause-or_closed
returns-clause-or_closed c = left_or_closed
