-- What is foreseen of the octets that come next on a connection.
use Rattle.std.specs.Prelude.{◌≡◌, ◌++◌, ℕ, List, Option, Some, None}
use Rattle.dict_desk.specs.Expected.{Expected}
use Rattle.http_service.specs.Foreseeing.{AsksForCommand, IsToldOver}
use Rattle.net_hub.specs.Holding.{Holding}
use Rattle.net_hub.specs.declared.kind.Kind.TheVariants.{Http}

-- it is an editor's, they make its request whole, and what led from one desk to the other is that this was told of the change that it asks for
pub record IsForeseen {K : Type 0} (foresees : K → Expected → K → Type 0) (Asks : List ℕ → Expected → Type 0) (held : Holding) (piece : List ℕ) (old new : K) : Type 0 where
  pub kind : held.kind ≡ Http
  pub told : IsToldOver foresees (Asks (held.octets ++ piece)) old new

-- the connection is open, and this holds of what is held of it
abbrev pub AreForeseen : {K : Type 0} → (K → Expected → K → Type 0) → (List ℕ → Expected → Type 0) → Option Holding → List ℕ → K → K → Type 0
AreForeseen foresees Asks None piece old new = ⊥
AreForeseen foresees Asks (Some held) piece old new = IsForeseen foresees Asks held piece old new

-- it is an editor's, and behind the octets that have come on it they make a request whole that changes the catalogue
pub record MakesCommand (held : Holding) (piece : List ℕ) : Type 0 where
  pub kind : held.kind ≡ Http
  pub asks : AsksForCommand (held.octets ++ piece)

-- the connection is open, and this holds of what is held of it
abbrev pub MakeCommand : Option Holding → List ℕ → Type 0
MakeCommand None piece = ⊥
MakeCommand (Some held) piece = MakesCommand held piece
