use Rattle.store_opening.proofs.MarkLemmas.{held_mark, known_mark, mark_once}
use Rattle.store_opening.proofs.laws.held_is_marked.Goals as goal

pub returns-clause-marked : goal.returns-clause-marked
returns-clause-marked c = held_mark

pub returns-clause-known : goal.returns-clause-known
returns-clause-known c = known_mark

pub returns-clause-once : goal.returns-clause-once
returns-clause-once c = mark_once
