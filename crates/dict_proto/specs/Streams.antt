-- What a call leaves of the octets that a source gives or a sink takes, where they are known, and of a count of failures.
use Rattle.std.specs.Prelude.{◌≡◌, ℕ, ◌-◌, ◌^◌, ◌<◌, ◌⊎◌, ◌≤◌, List, take, length, Option, Result, MatchResult}
use Rattle.std.specs.Io.KnownBytes.{Appends, Consumes, Keeps}

-- a source or a sink as contracts see it: the octets that the source will give, or that the sink took so far, where
-- they are known, and how many of its calls failed, up to 18,446,744,073,709,551,615
pub record Stream : Type 0 where
  pub octets : Option (List ℕ)
  pub failures : ℕ

-- the same before and after some calls
pub record StreamChange : Type 0 where
  pub old : Stream
  pub new : Stream

-- what calls leave of a source or a sink, by what contracts see of its type
abbrev pub change : {S : Type 0} → (S → Stream) → S → S → StreamChange
change stream old new = record { old = stream old; new = stream new }

-- the count of failures has risen, or stood at its greatest value
abbrev pub HasFailed : ℕ → ℕ → Type 0
HasFailed old new = (old < new) ⊎ (old ≡ 2 ^ 64 - 1)

-- known octets grow by the first k of bs, for some k
abbrev pub AppendsFront : Option (List ℕ) → Option (List ℕ) → List ℕ → Type 0
AppendsFront old new bs = (k : ℕ) × (k ≤ length bs) × Appends old new (take k bs)

-- a sink took bs, and no call of it failed
pub record PutsAll (old new : Stream) (bs : List ℕ) : Type 0 where
  pub octets : Appends old.octets new.octets bs
  pub failures : new.failures ≡ old.failures

-- a sink took a front of bs, and a call of it failed
pub record PutsFront (old new : Stream) (bs : List ℕ) : Type 0 where
  pub octets : AppendsFront old.octets new.octets bs
  pub failures : HasFailed old.failures new.failures

-- a call put bs, or where it failed a front of bs
abbrev pub Puts : {T E : Type 0} → Result T E → Stream → Stream → List ℕ → Type 0
Puts r old new bs = MatchResult r (λ _. PutsAll old new bs) (λ _. PutsFront old new bs)

-- a source gave bs, and no call of it failed
pub record GivesAll (old new : Stream) (bs : List ℕ) : Type 0 where
  pub octets : Consumes old.octets new.octets bs
  pub failures : new.failures ≡ old.failures

-- a call of a source failed, and it gave nothing
pub record GivesNone (old new : Stream) : Type 0 where
  pub octets : Keeps old.octets new.octets
  pub failures : HasFailed old.failures new.failures

-- a call gave the first n octets of the room, or where it failed none
abbrev pub Gives : {E : Type 0} → Result ℕ E → Stream → Stream → List ℕ → Type 0
Gives r old new room = MatchResult r (λ n. GivesAll old new (take n room)) (λ _. GivesNone old new)
