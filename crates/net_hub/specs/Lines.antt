-- What the hub keeps of one connection.
use Rattle.std.specs.Prelude.{◌≡◌, ℕ, List, Option, Some, None}
use Rattle.dict_session.specs.Session.{HasUnfinished, step_of, session_host, connection_of}
use Rattle.dict_session.specs.declared.session.Session.{Session}
use Rattle.dict_session.specs.declared.step.Step.TheVariants as steps
use Rattle.net_hub.specs.Asking.{IsAwaitedIn}
use Rattle.net_hub.specs.Holding.{Holding}
use Rattle.net_hub.specs.declared.incoming.Incoming.{Incoming}
use Rattle.net_hub.specs.declared.kind.Kind.TheVariants.{Dict, Http}
use Rattle.net_hub.specs.declared.exchange.Exchange.{Exchange}
use Rattle.net_hub.specs.declared.exchange.Exchange.TheVariants.{Reader, Editor}

-- a session under this host and number that goes on, and has read what is held
pub record IsReader (host : List ℕ) (id : ℕ) (session : Session) (held : Holding) : Type 0 where
  pub kind : held.kind ≡ Dict
  pub goes_on : step_of session ≡ steps.More
  pub unfinished : HasUnfinished session held.octets
  pub same_host : session_host session ≡ host
  pub number : connection_of session ≡ id

-- the octets of a request that have come, and how many are awaited
pub record IsEditor (incoming : Incoming) (held : Holding) : Type 0 where
  pub kind : held.kind ≡ Http
  pub octets_held : incoming.octets.items ≡ held.octets
  pub awaited : IsAwaitedIn incoming.octets.items incoming.awaited

abbrev pub HoldsExchange : List ℕ → ℕ → Exchange → Holding → Type 0
HoldsExchange host id (Reader session) held = IsReader host id session held
HoldsExchange host id (Editor incoming) held = IsEditor incoming held

-- it holds this where it is still open
abbrev pub HoldsIfOpen : List ℕ → ℕ → Exchange → Option Holding → Type 0
HoldsIfOpen host id line None = Unit {0}
HoldsIfOpen host id line (Some held) = HoldsExchange host id line held
