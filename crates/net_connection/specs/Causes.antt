-- What causes that events end otherwise than they do where nothing fails.
use Rattle.std.specs.Prelude.{◌≡◌, ℕ, false, List, [], ◌∷◌, Option, Some, ⊤}
use Rattle.dict_session.specs.Desks.{Condition}
use Rattle.net_hub.specs.Events.{is_of_editor}
use Rattle.net_hub.specs.Holding.{Holding}
use Rattle.net_hub.specs.Hubs.{HasHolding}
use Rattle.net_hub.specs.Runs.{Accepted}
use Rattle.net_hub.specs.declared.fault.HubFault.{HubFault}
use Rattle.net_hub.specs.declared.hub.Hub.{Hub}
use Rattle.net_hub.specs.declared.kind.Kind.{Kind}
use Rattle.net_outlet.specs.declared.queue.Queue.{Queue}
use Rattle.net_connection.specs.Telling.{MayRefuse}
use Rattle.net_connection.specs.declared.connection.Connection.{Connection}

-- how many calls of a sink failed goes on from this count to that by these events, each from where the one before it ended: where both
-- are the same count, no sink failed in one
abbrev pub CountOn : ℕ → ℕ → List Accepted → Type 0
CountOn from to [] = to ≡ from
CountOn from to (one ∷ events) = (one.put.old.failures ≡ from) × CountOn one.put.new.failures to events

-- the desk stood so after each
abbrev pub StandAt : Condition → List Accepted → Type 0
StandAt desk [] = ⊤
StandAt desk (one ∷ events) = (one.desk ≡ desk) × StandAt desk events

-- the failures that the events tell are those that this queue counts, and the desk stood so after them
pub record AreCaused (desk : Condition) (old new : Queue) (events : List Accepted) : Type 0 where
  pub failures : CountOn old.failures new.failures events
  pub stands : StandAt desk events

-- The same of a turn: the failures are those that its queue counts, and after the events of a reader the desk stood as the turn left it.
-- What an editor is answered tells nothing of that, and the desk may be told of something after it
pub record AreCausedBy {T : Type 0} (desk : Condition) (old new : Connection T) (events : List Accepted) : Type 0 where
  pub failures : CountOn old.queue.failures new.queue.failures events
  pub stands : is_of_editor old.held.kind ≡ false → StandAt desk events

-- a hub has of the connection of this id what another has
abbrev pub KeepsOne : ℕ → Hub → Hub → Type 0
KeepsOne id old new = (held : Option Holding) → HasHolding old id held → HasHolding new id held

-- octets of the connection of this id and kind were refused by a hub that had of it what this one has, for a cause of which the hub's
-- fault is one
abbrev pub IsRefused : (Hub → ℕ → Kind → Option HubFault → Type 0) → Hub → ℕ → Kind → Type 0
IsRefused refuses hub id kind = (at : Hub) × KeepsOne id hub at × ((fault : HubFault) × refuses at id kind (Some fault) × MayRefuse at id fault)
