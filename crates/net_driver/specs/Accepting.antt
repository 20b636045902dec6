-- What comes of a listening socket in a round.
use Rattle.std.specs.Prelude.{◌≡◌, ◌⊎◌, ◌+◌, ◌<◌, ℕ, suc, true, false, List, [], ◌∷◌, ◌++◌, Option, Result, Ok, Err, vec_len}
use Rattle.std.specs.IoError.{error_kind}
use Rattle.std.specs.declared.io.Error.{Error}
use Rattle.net_hub.specs.Runs.{Accepted}
use Rattle.net_hub.specs.declared.fault.HubFault.{HubFault}
use Rattle.net_hub.specs.declared.hub.Hub.{Hub}
use Rattle.net_hub.specs.declared.kind.Kind.{Kind}
use Rattle.net_outlet.specs.declared.transport.Transport as transport
use Rattle.net_driver.specs.Asking.{Asking, Asks, accepts, watches}
use Rattle.net_driver.specs.Listening.{listening_by}
use Rattle.net_driver.specs.Looking.{listening_of}
use Rattle.net_driver.specs.Rounds.{Admits, IsFull}
use Rattle.net_connection.specs.Telling.{KeepsEach}
use Rattle.net_driver.specs.declared.connections.Connections.{Connections}
use Rattle.net_driver.specs.declared.event_loop.EventLoop.{EventLoop}
use Rattle.net_driver.specs.declared.listening.Listening.{Listening}
use Rattle.net_driver.specs.declared.listening.Listening.TheVariants.{Ready, Quiet, Failed}

-- a listening socket isn't asked, and all is as before
abbrev pub AcceptsNone : {T : Type 0} {G : transport.Ghosts T} → Listening → Listening → Hub → Hub → Connections T G → Connections T G → List (Asking T) → List Accepted → Type 0
AcceptsNone before after from to old new calls events = (after ≡ before) × (calls ≡ []) × (new ≡ old) × (events ≡ []) × KeepsEach from to

-- By for which cause no connection of an id and a kind was opened in a hub.
module _ {T : Type 0} {G : transport.Ghosts T} (refuses : Hub → ℕ → Kind → Option HubFault → Type 0) where
  -- Of a connection that was taken, this was asked next: nothing, where there is no place for it; else that looks are to tell of it by the
  -- next id. Where they are to, it is opened in the hub, unless that is refused, and else all is as before
  abbrev pub Takes : T → Kind → Hub → Hub → Connections T G → Connections T G → List (Asking T) → List Accepted → Type 0
  Takes transport kind from to old new calls events =
      (IsFull old × (calls ≡ []) × (new ≡ old) × (events ≡ []) × KeepsEach from to)
      ⊎ ((vec_len old.opened < 64) × (((calls ≡ watches (old.last + 1) false ∷ []) × (new ≡ old) × (events ≡ []) × KeepsEach from to)
      ⊎ ((calls ≡ watches (old.last + 1) true ∷ []) × Admits refuses transport kind from to old new events)))

  -- what a call tells that was to take a connection, and what comes of it: one that was taken, or an error, by which all is as before
  abbrev pub TakesBy : Result T Error → Kind → Listening → Hub → Hub → Connections T G → Connections T G → List (Asking T) → List Accepted → Type 0
  TakesBy (Ok transport) kind after from to old new calls events = (after ≡ Ready) × Takes transport kind from to old new calls events
  TakesBy (Err error) kind after from to old new calls events =
      (after ≡ listening_by (error_kind error)) × (calls ≡ []) × (new ≡ old) × (events ≡ []) × KeepsEach from to

  -- the listening socket is asked for a connection
  abbrev pub AcceptsOne : Kind → Listening → Hub → Hub → Connections T G → Connections T G → List (Asking T) → List Accepted → Type 0
  AcceptsOne kind after from to old new calls events =
      (result : Result T Error) × (more : List (Asking T)) × (calls ≡ accepts kind result ∷ more) × TakesBy result kind after from to old new more events

  -- It is asked where a connection may wait there, and again as long as the call before left it so, at most so many times; and then no more.
  -- The calls are those of each asking, and so are the events, in this order
  abbrev pub AcceptsUpTo : ℕ → Kind → Listening → Listening → Hub → Hub → Connections T G → Connections T G → List (Asking T) → List Accepted → Type 0
  AcceptsUpTo (suc most) kind Ready after from to old new calls events =
      (between : Listening) × (hub : Hub) × (one : Connections T G) × (first : List (Asking T)) × (others : List (Asking T)) × (opening : List Accepted) × (openings : List Accepted)
      × (calls ≡ first ++ others) × (events ≡ opening ++ openings)
      × AcceptsOne kind between from hub old one first opening × AcceptsUpTo most kind between after hub to one new others openings
  AcceptsUpTo most kind before after from to old new calls events = AcceptsNone before after from to old new calls events

  -- it is asked, at most 16 times, where a connection may wait there, or the last call failed
  abbrev pub Accepts : Kind → Listening → Listening → Hub → Hub → Connections T G → Connections T G → List (Asking T) → List Accepted → Type 0
  Accepts kind Ready after from to old new calls events = AcceptsUpTo 16 kind Ready after from to old new calls events
  Accepts kind Failed after from to old new calls events = AcceptsUpTo 16 kind Ready after from to old new calls events
  Accepts kind Quiet after from to old new calls events = AcceptsNone Quiet after from to old new calls events

module _ {T S : Type 0} {G : transport.Ghosts T} (refuses : Hub → ℕ → Kind → Option HubFault → Type 0) (asked : S → Option (List (Asking T))) where
  -- this was asked of the sockets
  abbrev pub HasTakenConnection : T → Kind → EventLoop T S G → EventLoop T S G → List Accepted → Type 0
  HasTakenConnection transport kind old new events =
      (calls : List (Asking T)) × Asks (asked old.sockets) (asked new.sockets) calls
      × Takes refuses transport kind old.hub new.hub old.connections new.connections calls events

  abbrev pub HasAsked : Kind → EventLoop T S G → EventLoop T S G → List Accepted → Type 0
  HasAsked kind old new events =
      (calls : List (Asking T)) × Asks (asked old.sockets) (asked new.sockets) calls
      × AcceptsOne refuses kind (listening_of kind new) old.hub new.hub old.connections new.connections calls events

  abbrev pub HasAccepted : Kind → EventLoop T S G → EventLoop T S G → List Accepted → Type 0
  HasAccepted kind old new events =
      (calls : List (Asking T)) × Asks (asked old.sockets) (asked new.sockets) calls
      × Accepts refuses kind (listening_of kind old) (listening_of kind new) old.hub new.hub old.connections new.connections calls events
