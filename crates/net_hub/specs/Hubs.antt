-- The connections of a hub.
use Rattle.std.specs.Prelude.{◌≡◌, ◌<◌, ℕ, List, Option, Some, None, length, slice_index}
use Rattle.std.specs.List.{slice_index_or}
use Rattle.net_hub.specs.Holding.{Holding}
use Rattle.net_hub.specs.Lines.{HoldsExchange}
use Rattle.net_hub.specs.declared.exchange.Exchange.{Exchange}
use Rattle.net_hub.specs.declared.hub.Hub.{Hub}

-- at some place stands this id, and beside it what is held
pub record HoldsAt (host ids : List ℕ) (lines : List Exchange) (id : ℕ) (held : Holding) : Type 0 where
  pub place : ℕ
  pub within : place < length ids
  pub is : slice_index ids place ≡ id
  pub holds : (d : Exchange) → HoldsExchange host id (slice_index_or lines place d) held

-- the id stands at no place
abbrev pub IsAbsent : List ℕ → ℕ → Type 0
IsAbsent ids id = (place : ℕ) → place < length ids → slice_index ids place ≡ id → ⊥

abbrev pub StandsAt : List ℕ → List ℕ → List Exchange → ℕ → Option Holding → Type 0
StandsAt host ids lines id None = IsAbsent ids id
StandsAt host ids lines id (Some held) = HoldsAt host ids lines id held

-- the hub has no open connection of this id, or one that holds this
abbrev pub HasHolding : Hub → ℕ → Option Holding → Type 0
HasHolding hub id held = StandsAt hub.host.now hub.book.ids.items hub.lines.items id held

-- the host's name, and the greatest id that was given
abbrev pub host_of : Hub → List ℕ
host_of hub = hub.host.now

abbrev pub greatest_of : Hub → Option ℕ
greatest_of hub = hub.book.greatest

abbrev pub connection_count : Hub → ℕ
connection_count hub = length hub.book.ids.items
