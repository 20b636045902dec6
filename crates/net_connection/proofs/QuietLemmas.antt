-- Events for which nothing is looked up.
use Rattle.std.proofs.Common.{◌≡◌, ℕ, List, [], ◌∷◌, sym, subst}
use Rattle.std.specs.Prelude.{Option}
use Rattle.net_hub.specs.Events.{Happening, id_of, IsQuiet}
use Rattle.net_hub.specs.Holding.{Holding}
use Rattle.net_hub.specs.Hubs.{HasHolding}
use Rattle.net_hub.specs.Runs.{Accepted}
use Rattle.net_hub.specs.declared.hub.Hub.{Hub}
use Rattle.net_hub.specs.declared.kind.Kind.{Kind}
use Rattle.net_connection.specs.Events.{AreEventsOf}
use Rattle.net_connection.specs.Quiet.{AreQuiet, StaysForReader, StaysIfQuiet}
use Rattle.net_connection.specs.Telling.{KeepsEach}

-- by a hub that has of each connection what another has
pub quiet_kept : (a b : Hub) → KeepsEach a b → (events : List Accepted) → AreQuiet a events → AreQuiet b events
quiet_kept a b keeps [] quiet = tt
quiet_kept a b keeps (one ∷ events) ((held, has, is), rest) = ((held, keeps (id_of one.what) held has, is), quiet_kept a b keeps events rest)

-- of one event
pub quiet_one : {K : Type 0} (hub : Hub) (old new : K) (what : Happening) (one : Accepted) → one.what ≡ what
    → ((held : Option Holding) → HasHolding hub (id_of what) held → IsQuiet one.before.catalogue held what → new ≡ old)
    → StaysIfQuiet hub old new (one ∷ [])
quiet_one hub old new what one same stays ((held, has, is), rest) =
    stays held (subst (λ (w : Happening). HasHolding hub (id_of w) held) same has) (subst (λ (w : Happening). IsQuiet one.before.catalogue held w) same is)

-- of none
pub quiet_none : {K : Type 0} (hub : Hub) (old new : K) (events : List Accepted) → events ≡ [] → StaysIfQuiet hub old new events → new ≡ old
quiet_none hub old new events none stays = subst (λ (l : List Accepted). StaysIfQuiet hub old new l) none stays tt

-- of one connection, by a hub that has of it what another has
quiet_own : (id : ℕ) (a b : Hub) → ((held : Option Holding) → HasHolding a id held → HasHolding b id held) → (events : List Accepted) → AreEventsOf id events → AreQuiet a events → AreQuiet b events
quiet_own id a b keeps [] own quiet = tt
quiet_own id a b keeps (one ∷ events) (is, own) ((held, has, at), rest) = (
  (held, subst (λ (i : ℕ). HasHolding b i held) (sym is) (keeps held (subst (λ (i : ℕ). HasHolding a i held) is has)), at),
  quiet_own id a b keeps events own rest,
)

pub stays_over : {K : Type 0} (kind : Kind) (id : ℕ) (a b : Hub) (old new : K) (events : List Accepted) → AreEventsOf id events → ((held : Option Holding) → HasHolding a id held → HasHolding b id held)
    → StaysForReader kind b old new events → StaysForReader kind a old new events
stays_over kind id a b old new events own keeps stays reader quiet = stays reader (quiet_own id a b keeps events own quiet)
