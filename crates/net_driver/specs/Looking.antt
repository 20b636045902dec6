-- What a look at the sockets changes, and a round in which nothing happened.
use Rattle.std.specs.Prelude.{◌≡◌, ◌≢◌, ◌==◌, ◌||◌, ℕ, Bool, true, false, List, [], ◌∷◌, All, Option, None, Some, Result, Ok, MatchResult, is_ok}
use Rattle.std.specs.IoError.{error_kind}
use Rattle.std.specs.declared.io.Error.{Error}
use Rattle.net_hub.specs.declared.kind.Kind.{Kind}
use Rattle.net_hub.specs.declared.kind.Kind.TheVariants.{Dict, Http}
use Rattle.net_outlet.specs.declared.transport.Transport as transport
use Rattle.net_driver.specs.Asking.{Asking, Asks, looks}
use Rattle.net_driver.specs.Listening.{listening_told}
use Rattle.net_driver.specs.Turning.{MarkAll}
use Rattle.net_connection.specs.Turns.{HasNothingToDo}
use Rattle.net_driver.specs.declared.event_loop.EventLoop.{EventLoop}
use Rattle.net_driver.specs.declared.listening.Listening.{Listening}
use Rattle.net_driver.specs.declared.listening.Listening.TheVariants.{Ready}

-- a look told of this one
abbrev pub tells : List ℕ → ℕ → Bool
tells [] id = false
tells (one ∷ told) id = (id == one) || tells told id

module _ {T S : Type 0} {G : transport.Ghosts T} where
  -- The sockets were looked at, and waited for so many nanoseconds at most, or an error tells why they couldn't be. Where the look told of the listening sockets, by a 0, a
  -- connection may wait at both; and a reading of a connection may give something of whose id it told. All else stays
  pub record Looks (asked : S → Option (List (Asking T))) (most : ℕ) (told : List ℕ) (result : Result (Unit {0}) Error) (old new : EventLoop T S G) : Type 0 where
    pub hub : new.hub ≡ old.hub
    pub rounds : new.rounds ≡ old.rounds
    pub last : new.connections.last ≡ old.connections.last
    pub opened : MarkAll (tells told) old.connections.opened.items new.connections.opened.items
    pub departing : MarkAll (tells told) old.connections.departing.items new.connections.departing.items
    pub dict : new.dict_listening ≡ listening_told (tells told 0) old.dict_listening
    pub http : new.http_listening ≡ listening_told (tells told 0) old.http_listening
    pub failure : MatchResult result (λ _. new.failure ≡ None) (λ error. new.failure ≡ Some (error_kind error))
    pub calls : Asks (asked old.sockets) (asked new.sockets) (looks most told (is_ok result) ∷ [])

  -- the sockets were waited for, where that was asked for, and else nothing was done
  abbrev pub WaitsIf : (S → Option (List (Asking T))) → ℕ → List ℕ → Bool → Result (Unit {0}) Error → EventLoop T S G → EventLoop T S G → Type 0
  WaitsIf asked most told true result old new = Looks asked most told result old new
  WaitsIf asked most told false result old new = (new ≡ old) × (result ≡ Ok tt)

  -- whether a connection waits at the socket for this kind
  abbrev pub listening_of : Kind → EventLoop T S G → Listening
  listening_of Dict over = over.dict_listening
  listening_of Http over = over.http_listening

  -- the count and whether the last look failed are as before
  pub record IsKept (old new : EventLoop T S G) : Type 0 where
    pub rounds : new.rounds ≡ old.rounds
    pub failure : new.failure ≡ old.failure

  -- nothing is to be done before a socket is ready: each listening socket was asked, and had nobody or failed; and each open connection
  -- was read from, and had nothing, and what was read of it before is handed
  pub record IsIdle (over : EventLoop T S G) : Type 0 where
    pub dict : over.dict_listening ≢ Ready
    pub http : over.http_listening ≢ Ready
    pub read : All HasNothingToDo over.connections.opened.items

abbrev pub other_kind : Kind → Kind
other_kind Dict = Http
other_kind Http = Dict
