-- What a round does, call by call.
use Rattle.std.specs.Prelude.{◌≡◌, ◌||◌, ℕ, nat_lt, Bool, true, List, [], ◌∷◌, ◌++◌, Option, Result, Ok, Err}
use Rattle.dict_desk.specs.declared.fault.Fault.{Fault}
use Rattle.dict_desk.specs.Expected.{Expected}
use Rattle.std.specs.declared.io.Error.{Error}
use Rattle.dict_session.specs.Desks.{Condition}
use Rattle.net_hub.specs.Runs.{Accepted}
use Rattle.net_hub.specs.declared.fault.HubFault.{HubFault}
use Rattle.net_hub.specs.declared.hub.Hub.{Hub}
use Rattle.net_hub.specs.declared.kind.Kind.{Kind}
use Rattle.net_hub.specs.declared.kind.Kind.TheVariants.{Dict, Http}
use Rattle.net_outlet.specs.OutletCalls.{Call}
use Rattle.net_outlet.specs.declared.transport.Transport as transport
use Rattle.net_driver.specs.Accepting.{Accepts}
use Rattle.net_driver.specs.Asking.{Asking, Asks, looks}
use Rattle.net_driver.specs.Listening.{is_ready, listening_told}
use Rattle.net_driver.specs.Looking.{Looks, tells}
use Rattle.net_driver.specs.Rounds.{TurnEach}
use Rattle.net_driver.specs.Turning.{KeepsAllBut, MarkAll}
use Rattle.net_driver.specs.declared.connections.Connections.{Connections}
use Rattle.net_driver.specs.declared.event_loop.EventLoop.{EventLoop}

module _ {K T S : Type 0} {G : transport.Ghosts T} (stands : K → Condition) (foresees : K → Expected → K → Type 0) (prepares : K → Result Bool Fault → K → Type 0) (taken coming : T → Option (List ℕ)) (made : T → Option (List Call))
    (refuses : Hub → ℕ → Kind → Option HubFault → Type 0) (asked : S → Option (List (Asking T))) where
  -- The sockets are looked at without a wait, and those connections are marked of which the look told. Then the connections that wait at
  -- the socket for readers are taken, and then those at that for editors, by at most 16 calls each;
  -- neither asks the desk anything. And then each connection has its turn, over what the hub has of it by then, which has of each that
  -- isn't open what it had. The events are those of these, in this order, and nothing else was asked of the sockets. Something happened
  -- where a connection was opened, one may wait at a socket still, or something happened in a turn
  pub record HasRound (from to : K) (old new : EventLoop T S G) (moved : Bool) (events : List Accepted) : Type 0 where
    pub told : List ℕ
    pub looked : Connections T G
    pub last : looked.last ≡ old.connections.last
    pub opened : MarkAll (tells told) old.connections.opened.items looked.opened.items
    pub departing : MarkAll (tells told) old.connections.departing.items looked.departing.items
    pub with_readers : Connections T G
    pub by_dict : List (Asking T)
    pub readers : List Accepted
    pub hub_with_readers : Hub
    pub dict : Accepts refuses Dict (listening_told (tells told 0) old.dict_listening) new.dict_listening old.hub hub_with_readers looked with_readers by_dict readers
    pub with_editors : Connections T G
    pub by_http : List (Asking T)
    pub editors : List Accepted
    pub hub_with_editors : Hub
    pub http : Accepts refuses Http (listening_told (tells told 0) old.http_listening) new.http_listening hub_with_readers hub_with_editors with_readers with_editors by_http editors
    pub turned : Bool
    pub turns : List Accepted
    pub turn : TurnEach stands foresees prepares taken coming made refuses hub_with_editors from to with_editors new.connections turned turns
    pub others : KeepsAllBut with_editors.opened.items hub_with_editors new.hub
    pub whole : events ≡ readers ++ (editors ++ turns)
    pub calls : Asks (asked old.sockets) (asked new.sockets) (looks 0 told true ∷ (by_dict ++ by_http))
    pub has_moved : moved ≡ (nat_lt old.connections.last new.connections.last || (is_ready new.dict_listening || (is_ready new.http_listening || turned)))

  -- a round was made, from this desk to that; or the sockets couldn't be looked at, and no event was handed out, nor was the desk asked
  abbrev pub GoesRound : (S → List ℕ) → Result Bool Error → K → K → EventLoop T S G → EventLoop T S G → List Accepted → Type 0
  GoesRound told (Ok moved) from to old new events = HasRound from to old new moved events
  GoesRound told (Err error) from to old new events = (events ≡ []) × (to ≡ from) × Looks asked 0 (told new.sockets) (Err error) old new
