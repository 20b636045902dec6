use Rattle.net_connection.proofs.TurnLemmas.{received_gives, received_within}
use Rattle.net_connection.proofs.connection.Connection.receive.Goals as goal

pub returns-clause-count : goal.returns-clause-count
returns-clause-count g c = rw c.received_by.ensures (received_within c.receive.result c.receive.new.room c.receive.ensures.bound)

pub returns-clause-gives : goal.returns-clause-gives
returns-clause-gives g c = rw c.received_by.ensures (received_gives _ _ c.receive.result c.receive.new.room c.receive.ensures.coming)
