-- What a call leaves of the octets that are gathered for a sink, and of those that the sink took.
use Rattle.std.specs.Prelude.{◌≡◌, ℕ, List, ◌++◌, Result, MatchResult}
use Rattle.dict_proto.specs.Streams.{Stream, PutsAll, PutsFront}

-- bs came behind those that were held; the sink took a front of them all, and the others are held now
abbrev pub Joins : Stream → Stream → List ℕ → List ℕ → List ℕ → Type 0
Joins old new held left bs = (sent : List ℕ) × PutsAll old new sent × (held ++ bs ≡ sent ++ left)

-- the same, or where the call failed the sink took a front of them
abbrev pub Gathers : {T E : Type 0} → Result T E → Stream → Stream → List ℕ → List ℕ → List ℕ → Type 0
Gathers r old new held left bs = MatchResult r (λ _. Joins old new held left bs) (λ _. PutsFront old new (held ++ bs))
