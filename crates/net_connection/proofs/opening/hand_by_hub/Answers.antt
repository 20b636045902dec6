use Rattle.net_connection.proofs.TellLemmas.{may_refuse}
use Rattle.net_connection.proofs.opening.hand_by_hub.Goals as goal

pub returns-clause-cause : goal.returns-clause-cause
returns-clause-cause g c = may_refuse c.args.hub.now c.args.id c.args.piece.now c.event.result c.event.ensures.memory

pub returns-clause-quiet : goal.returns-clause-quiet
returns-clause-quiet g c = c.event.ensures.quiet
