use Rattle.store_holdings.proofs.OneLemmas.{one_version, one_held, one_left, left_held}
use Rattle.store_opening.proofs.laws.one_is_held.Goals as goal

pub returns-clause-version : goal.returns-clause-version
returns-clause-version c = one_version

pub returns-clause-held : goal.returns-clause-held
returns-clause-held c = one_held

pub returns-clause-left : goal.returns-clause-left
returns-clause-left c = one_left

pub returns-clause-over : goal.returns-clause-over
returns-clause-over c = left_held
