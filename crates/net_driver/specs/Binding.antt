-- What is told of two addresses that are to be bound.
use Rattle.std.specs.Prelude.{◌≡◌, ◌≢◌, ℕ, List, Result, Ok, Err}
use Rattle.std.specs.declared.io.Error.{Error}
use Rattle.std.specs.declared.net.socket_addr.SocketAddr.{SocketAddr}
use Rattle.std.specs.Net.Grammar.{IsSocketText}
use Rattle.std.specs.Net.Socket.{socket_ip, socket_port, socket_flowinfo, socket_scope_id}
use Rattle.net_driver.specs.declared.fault.AddressFault.{AddressFault}
use Rattle.net_driver.specs.declared.fault.AddressFault.TheVariants.{Unread, Unbound}
use Rattle.net_driver.specs.declared.fault.BindFault.{BindFault}
use Rattle.net_driver.specs.declared.fault.BindFault.TheVariants.{Dict, Http, Wait, Memory}

-- the text says an IP address and a port, as Rust's `SocketAddr` reads it
abbrev pub IsAddress : List ℕ → Type 0
IsAddress text = (address : SocketAddr) × IsSocketText text address

-- the address that is told where this one is asked for: this one, but for the port where it asks for port 0, which leaves the choice to
-- the system
pub record HasAddressOf (asked told : SocketAddr) : Type 0 where
  pub whole : socket_port asked ≢ 0 → told ≡ asked
  pub ip : socket_ip told ≡ socket_ip asked
  pub flow : socket_flowinfo told ≡ socket_flowinfo asked
  pub scope : socket_scope_id told ≡ socket_scope_id asked

-- it is told for an address that the text says
abbrev pub IsToldFor : List ℕ → SocketAddr → Type 0
IsToldFor text told = (asked : SocketAddr) × IsSocketText text asked × HasAddressOf asked told

-- a listening socket is bound for an address that the text says, and this address is told of it
abbrev pub IsBoundFor : {L : Type 0} → (L → SocketAddr → SocketAddr → Type 0) → List ℕ → L → SocketAddr → Type 0
IsBoundFor is_bound text listener told = (asked : SocketAddr) × IsSocketText text asked × HasAddressOf asked told × is_bound listener asked told

-- one is bound to it
abbrev pub IsBound : {L : Type 0} → (L → SocketAddr → SocketAddr → Type 0) → List ℕ → Type 0
IsBound {L} is_bound text = (listener : L) × (told : SocketAddr) × IsBoundFor is_bound text listener told

-- none is bound to it: the text says no address, or it does, and this is the error by which the system refused it
abbrev pub IsAddressRefused : (SocketAddr → Error → Type 0) → List ℕ → AddressFault → Type 0
IsAddressRefused refuses text Unread = IsAddress text → ⊥
IsAddressRefused refuses text (Unbound error) = (asked : SocketAddr) × IsSocketText text asked × refuses asked error

-- Listening sockets are bound to both addresses, that for readers first, and the sockets are over these two; or the first fault is told,
-- with the error by which the system refused it: that for readers comes before that for editors, and both before all others
abbrev pub BindsBoth : {L S : Type 0} → (L → SocketAddr → SocketAddr → Type 0) → (SocketAddr → Error → Type 0) → (S → L → L → Type 0) → (Error → Type 0)
    → List ℕ → List ℕ → Result (S × (SocketAddr × SocketAddr)) BindFault → Type 0
BindsBoth {L} is_bound refuses is_over is_unwatched dict http (Ok bound) =
    (readers : L) × (editors : L) × IsBoundFor is_bound dict readers bound.1.0 × IsBoundFor is_bound http editors bound.1.1 × is_over bound.0 readers editors
BindsBoth is_bound refuses is_over is_unwatched dict http (Err (Dict fault)) = IsAddressRefused refuses dict fault
BindsBoth is_bound refuses is_over is_unwatched dict http (Err (Http fault)) = IsBound is_bound dict × IsAddressRefused refuses http fault
BindsBoth is_bound refuses is_over is_unwatched dict http (Err (Wait error)) = IsBound is_bound dict × IsBound is_bound http × is_unwatched error
BindsBoth is_bound refuses is_over is_unwatched dict http (Err Memory) = IsBound is_bound dict × IsBound is_bound http

-- the two that are told, for readers and for editors
abbrev pub AreTold : List ℕ → List ℕ → SocketAddr × SocketAddr → Type 0
AreTold dict http told = IsToldFor dict told.0 × IsToldFor http told.1
