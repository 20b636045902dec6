-- What one event leaves of its connection's queue.
use Rattle.std.specs.Prelude.{true, ◌≡◌, ◌≢◌, ℕ, List, [], ◌∷◌, ◌++◌, Option, None, Some, Result, Ok, Err, ⊤}
use Rattle.net_hub.specs.Events.{Happening, opened, came, ended, is_of_editor}
use Rattle.net_hub.specs.Holding.{Holding}
use Rattle.net_hub.specs.Hubs.{HasHolding}
use Rattle.net_hub.specs.declared.fault.HubFault.{HubFault}
use Rattle.net_hub.specs.declared.fault.HubFault.TheVariants.{Memory}
use Rattle.net_hub.specs.declared.hub.Hub.{Hub}
use Rattle.net_hub.specs.Runs.{Accepted}
use Rattle.net_hub.specs.declared.incoming.Out.{Out}
use Rattle.net_outlet.specs.OutletCalls.{Call}
use Rattle.net_outlet.specs.Outlets.{FailsOnlyStuck, PassesOctets}
use Rattle.net_outlet.specs.Queues.{waiting}
use Rattle.net_connection.specs.Events.{ArePut}
use Rattle.net_outlet.specs.declared.queue.Queue.{Queue}

-- the hub may refuse octets of this connection by this fault: it has none of its id, or an editor's, whose octets take memory, and memory
-- is wanting
abbrev pub MayRefuse : Hub → ℕ → HubFault → Type 0
MayRefuse hub id fault = (held : Holding) → HasHolding hub id (Some held) → (fault ≡ Memory) × (is_of_editor held.kind ≡ true)

-- what the hub has of each connection but that of this id it has still
abbrev pub KeepsOthers : ℕ → Hub → Hub → Type 0
KeepsOthers id old new = (other : ℕ) (held : Option Holding) → other ≢ id → HasHolding old other held → HasHolding new other held

-- and of each
abbrev pub KeepsEach : Hub → Hub → Type 0
KeepsEach old new = (other : ℕ) (held : Option Holding) → HasHolding old other held → HasHolding new other held

-- the answer of a hub that didn't refuse an event
abbrev pub answer_of : Result Out HubFault → Option Out
answer_of (Ok out) = Some out
answer_of (Err fault) = None

-- it is this event alone, which the hub answered so; or the hub refused it, and there is none
abbrev pub IsAnswered : Happening → Option Out → List Accepted → Type 0
IsAnswered what None events = events ≡ []
IsAnswered what (Some out) events = (one : Accepted) × (events ≡ one ∷ []) × (one.what ≡ what) × (one.out ≡ out)

-- by an end no call of a sink fails more than before
abbrev pub CountsNone : Happening → ℕ → ℕ → Type 0
CountsNone (opened id kind) old new = ⊤
CountsNone (came id piece) old new = ⊤
CountsNone (ended id) old new = new ≡ old

-- the event was accepted, or there is none; what it put waits behind what waited before
pub record IsTold (what : Happening) (answer : Option Out) (old new : Queue) (events : List Accepted) : Type 0 where
  pub answered : IsAnswered what answer events
  pub put : List ℕ
  pub are_put : ArePut events put
  pub order : waiting new ≡ waiting old ++ put
  pub ends : CountsNone what old.failures new.failures

-- The same, where the transport may have taken a front of what waits at once. Where more calls of the sink have failed than before, as
-- many octets wait as may and the transport was asked last and took none, or octets found no room since memory was short
pub record IsToldThrough {T : Type 0} (taken coming : T → Option (List ℕ)) (made : T → Option (List Call)) (what : Happening) (answer : Option Out) (old new : Queue) (from to : T) (events : List Accepted) : Type 0 where
  pub answered : IsAnswered what answer events
  pub put : List ℕ
  pub are_put : ArePut events put
  pub passes : PassesOctets taken coming made from to (waiting old) (waiting new) put
  pub stuck : FailsOnlyStuck (made from) (made to) old new
