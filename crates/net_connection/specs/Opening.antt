-- What comes of telling a hub of a new connection, and why none is opened.
use Rattle.std.specs.Prelude.{ℕ, List, [], Option, None, Some, Result, Ok, Err, ⊤}
use Rattle.net_hub.specs.Books.{IsRefusal, opening}
use Rattle.net_hub.specs.Events.{opened}
use Rattle.net_hub.specs.Holding.{left_by}
use Rattle.net_hub.specs.Hubs.{HasHolding, connection_count, greatest_of}
use Rattle.net_hub.specs.Runs.{Accepted}
use Rattle.net_hub.specs.declared.incoming.Out.{Out}
use Rattle.net_hub.specs.declared.fault.HubFault.{HubFault}
use Rattle.net_hub.specs.declared.hub.Hub.{Hub}
use Rattle.net_hub.specs.declared.kind.Kind.{Kind}
use Rattle.net_outlet.specs.declared.queue.Queue.{Queue}
use Rattle.net_connection.specs.Telling.{IsTold}

-- The event of the opening alone, by which the hub has the connection, with nothing that came, unless it is closed; or the hub refused it,
-- and there is none
abbrev pub IsToldOpening : ℕ → Kind → Hub → Result Out HubFault → Queue → Queue → List Accepted → Type 0
IsToldOpening id kind hub (Ok out) old new events = IsTold (opened id kind) (Some out) old new events × HasHolding hub id (left_by kind [] out)
IsToldOpening id kind hub (Err fault) old new events = IsTold (opened id kind) None old new events

-- What it may be for: the room for what is read of the connection was refused; or the hub refused the opening by this fault, which is
-- that of the first test that it fails, or where it fails none a growth that was refused
abbrev pub IsCause : Hub → ℕ → Option HubFault → Type 0
IsCause hub id None = ⊤
IsCause hub id (Some fault) = IsRefusal (opening id (greatest_of hub) (connection_count hub)) fault

-- no connection of this id and kind was opened, for a cause by which it was refused over the hub as it was
abbrev pub IsConnectionUnopened : (Hub → ℕ → Kind → Option HubFault → Type 0) → Hub → ℕ → Kind → Type 0
IsConnectionUnopened refuses hub id kind = (why : Option HubFault) × refuses hub id kind why × IsCause hub id why
