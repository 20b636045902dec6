-- What a hub has of a connection that is no longer open.
use Rattle.std.specs.Prelude.{◌≡◌, false, None, ⊤}
use Rattle.net_hub.specs.Events.{Happening, opened, came, ended}
use Rattle.net_hub.specs.Hubs.{HasHolding}
use Rattle.net_hub.specs.declared.hub.Hub.{Hub}
use Rattle.net_connection.specs.Stages.{is_open}
use Rattle.net_connection.specs.declared.connection.Connection.{Connection}

-- where the event is an end, the hub has no connection of its id
abbrev pub HasLost : Happening → Hub → Type 0
HasLost (opened id kind) hub = ⊤
HasLost (came id piece) hub = ⊤
HasLost (ended id) hub = HasHolding hub id None

-- the hub has none of this id where it isn't open any more
abbrev pub HasOnlyOpen : {T : Type 0} → Hub → Connection T → Type 0
HasOnlyOpen hub one = is_open one.stage ≡ false → HasHolding hub one.id None

-- So it is after a turn, where it was so before, as it is of one that was open: a connection isn't closed, parted or let go without
-- the hub's knowledge
abbrev pub KeepsOnlyOpen : {T : Type 0} → Hub → Hub → Connection T → Connection T → Type 0
KeepsOnlyOpen from to old new = HasOnlyOpen from old → HasOnlyOpen to new
