-- What one connection sees of a run: its own events, and the commands between them.
use Rattle.std.specs.Prelude.{◌≡◌, ◌≢◌, ◌⊎◌, ℕ, List, [], ◌∷◌, ◌++◌, map}
use Rattle.dict_catalogue.specs.Steps.{CommandRequest, after}
use Rattle.net_hub.specs.Events.{Happening, id_of}
use Rattle.net_hub.specs.Runs.{Accepted}

-- an event of its own, or a command
pub data Observation : Type 0 where
  own : Happening → Observation
  command : CommandRequest → Observation

-- the events, as one connection sees them: its own, and of each other the commands by which it changed the catalogue
abbrev pub AreObservations : ℕ → List Accepted → List Observation → Type 0
AreObservations id [] turns = turns ≡ []
AreObservations id (one ∷ events) turns =
    ((id_of one.what ≡ id) × ((rest : List Observation) × (turns ≡ own one.what ∷ rest) × AreObservations id events rest))
    ⊎ ((id_of one.what ≢ id) × ((requests : List CommandRequest) × (rest : List Observation) × (turns ≡ map command requests ++ rest)
    × (one.after.catalogue ≡ after one.before.catalogue requests) × AreObservations id events rest))
