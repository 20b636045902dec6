-- What a round does with the octets that wait for each connection.
use Rattle.std.specs.Prelude.{◌≡◌, ◌⊎◌, ◌||◌, Bool, ◌<◌, ◌≤◌, ◌-◌, ◌+◌, ◌^◌, ℕ, true, List, [], ◌∷◌, ◌++◌, drop, filter, length, sum_by, nat_le, if◌then◌else◌, Option, vec_len, vec_capacity, Result}
use Rattle.dict_desk.specs.declared.fault.Fault.{Fault}
use Rattle.dict_desk.specs.Expected.{Expected}
use Rattle.dict_session.specs.Desks.{Condition}
use Rattle.net_hub.specs.Runs.{Accepted, events_of}
use Rattle.net_outlet.specs.Queues.{waiting}
use Rattle.net_outlet.specs.OutletCalls.{Call}
use Rattle.net_connection.specs.Stages.{is_open, is_held, is_departing}
use Rattle.net_connection.specs.Events.{ArePut}
use Rattle.net_connection.specs.Handing.{held_in}
use Rattle.net_connection.specs.Opening.{IsConnectionUnopened}
use Rattle.net_connection.specs.Telling.{KeepsEach, KeepsOthers}
use Rattle.net_connection.specs.Turns.{IsOpened}
use Rattle.net_driver.specs.Turning.{DepartAll, TurnAll}
use Rattle.net_hub.specs.declared.fault.HubFault.{HubFault}
use Rattle.net_hub.specs.declared.hub.Hub.{Hub}
use Rattle.net_hub.specs.declared.kind.Kind.{Kind}
use Rattle.net_connection.specs.declared.connection.Connection.{Connection}
use Rattle.net_driver.specs.declared.connections.Connections.{Connections}
use Rattle.net_outlet.specs.declared.transport.Transport.{Ghosts}

-- one of these connections has this id, and these octets wait for it
abbrev pub WaitsAmong : {T : Type 0} → List (Connection T) → ℕ → List ℕ → Type 0
WaitsAmong [] id octets = ⊥
WaitsAmong (one ∷ others) id octets = ((one.id ≡ id) × (waiting one.queue ≡ octets)) ⊎ WaitsAmong others id octets

-- a connection of this id is open or departs, and these octets wait for it
abbrev pub Waits : {T : Type 0} {G : Ghosts T} → Connections T G → ℕ → List ℕ → Type 0
Waits all id octets = WaitsAmong all.opened.items id octets ⊎ WaitsAmong all.departing.items id octets

-- of what waited before and what the events put: a front is sent, and the rest waits
pub record Flows (before : List ℕ) (events : List Accepted) (after : List ℕ) : Type 0 where
  pub sent : List ℕ
  pub put : List ℕ
  pub are_put : ArePut events put
  pub order : sent ++ after ≡ before ++ put

-- the connection was there before, with these octets, or it has a new id and nothing waited
abbrev pub WasWaiting : {T : Type 0} {G : Ghosts T} → Connections T G → ℕ → List ℕ → Type 0
WasWaiting all id octets = Waits all id octets ⊎ ((all.last < id) × (octets ≡ []))

-- The octets that wait for a connection are those that waited before and those that its own events put, in this order, without a
-- front that was sent
pub record HasWaited {T : Type 0} {G : Ghosts T} (old : Connections T G) (events : List Accepted) (id : ℕ) (octets : List ℕ) : Type 0 where
  pub before : List ℕ
  pub was : WasWaiting old id before
  pub flows : Flows before (events_of id events) octets

-- So it is for each connection, and no event is of an id that wasn't given
pub record Moves {T : Type 0} {G : Ghosts T} (old new : Connections T G) (events : List Accepted) : Type 0 where
  pub last : old.last ≤ new.last
  pub given : (id : ℕ) → new.last < id → events_of id events ≡ []
  pub waits : (id : ℕ) (octets : List ℕ) → Waits new id octets → HasWaited old events id octets

-- the last ones, at most so many
abbrev pub latest : {A : Type 0} → ℕ → List A → List A
latest most all = drop (length all - most) all

-- for how many octets these have room together
abbrev pub room_of : {T : Type 0} → List (Connection T) → ℕ
room_of all = sum_by (λ one. vec_capacity one.queue.octets) all

-- the last ones that have room for no more than so many octets together
abbrev pub connections_fitting : {T : Type 0} → ℕ → List (Connection T) → List (Connection T)
connections_fitting most [] = []
connections_fitting most (one ∷ others) = if nat_le (room_of (one ∷ others)) most then one ∷ others else connections_fitting most others

-- Each connection that is no longer open had its turn as such, and then each open one by its own events, over what the hub had of it as
-- they began, from this desk to that. Those that are open then are the open ones; those that are held and no longer open, of which the last 128
-- are kept, and of these the last that have room for 33,554,432 octets together, stand behind those that were so before; and no other is held.
-- Something happened where it did in a turn of the one sort or the other
pub record TurnEach {K T : Type 0} {G : Ghosts T} (stands : K → Condition) (foresees : K → Expected → K → Type 0) (prepares : K → Result Bool Fault → K → Type 0) (taken coming : T → Option (List ℕ)) (made : T → Option (List Call))
    (refuses : Hub → ℕ → Kind → Option HubFault → Type 0) (hub : Hub) (from to : K) (old new : Connections T G) (moved : Bool) (events : List Accepted) : Type 0 where
  pub departed : List (Connection T)
  pub by_departing : Bool
  pub departs : DepartAll taken coming made old.departing.items departed by_departing
  pub turned : List (Connection T)
  pub by_open : Bool
  pub turns : TurnAll stands foresees prepares taken coming made refuses hub from to old.opened.items turned by_open events
  pub opened : new.opened.items ≡ filter (λ one. is_open one.stage) turned
  pub departing : new.departing.items ≡ connections_fitting 33554432 (latest 128 (filter (λ one. is_held one.stage) departed ++ filter (λ one. is_departing one.stage) turned))
  pub last : new.last ≡ old.last
  pub has_moved : moved ≡ (by_departing || by_open)

-- 64 are open, or each id was given
abbrev pub IsFull : {T : Type 0} {G : Ghosts T} → Connections T G → Type 0
IsFull all = (64 ≤ vec_len all.opened) ⊎ (2 ^ 64 ≤ all.last + 1)

-- No connection was opened, since there is no place for it, or for a cause by which it was refused, and all is as before, what the hub
-- has of each connection too; or one was, of this transport and kind and with the next id, behind those that are open, nothing was
-- read or dropped of it yet, and what the hub has of each other is as before
abbrev pub Admits : {T : Type 0} {G : Ghosts T} → (Hub → ℕ → Kind → Option HubFault → Type 0) → T → Kind → Hub → Hub → Connections T G → Connections T G → List Accepted → Type 0
Admits {T} refuses transport kind from to old new events =
    ((events ≡ []) × (new.opened.items ≡ old.opened.items) × (new.departing.items ≡ old.departing.items) × (new.last ≡ old.last)
    × KeepsEach from to × (IsFull old ⊎ IsConnectionUnopened refuses from (old.last + 1) kind))
    ⊎ ((one : Connection T) × IsOpened (old.last + 1) kind to one events × (one.id ≡ old.last + 1) × (one.transport ≡ transport) × (one.may_receive ≡ true)
    × (one.held.kind ≡ kind) × (held_in one.held ≡ []) × (one.dropped ≡ 0) × (new.opened.items ≡ old.opened.items ++ one ∷ []) × (new.departing.items ≡ old.departing.items) × (new.last ≡ old.last + 1)
    × KeepsOthers (old.last + 1) from to)
