-- What a piece of an editor's request leaves.
use Rattle.std.specs.Prelude.{◌≡◌, ◌⊎◌, ◌<◌, ◌++◌, ℕ, Bool, true, List, Option, length}
use Rattle.dict_proto.specs.Streams.{Stream, PutsAll, PutsFront}
use Rattle.dict_catalogue.specs.Steps.{Catalogue}
use Rattle.http_request.specs.Heads.{Needs}
use Rattle.http_request.specs.declared.kinds.Need.TheVariants.{More as NeedsMore}
use Rattle.http_service.specs.Answers.{unavailable_text}
use Rattle.http_service.specs.Responding.{Responds, is_of_keeper}
use Rattle.http_service.specs.Settling.{Settled, Settles}

-- until so many octets have come, of which these are the first, more are needed
abbrev pub IsAwaitedIn : List ℕ → ℕ → Type 0
IsAwaitedIn octets size = (more : List ℕ) → length (octets ++ more) < size → Needs (octets ++ more) NeedsMore

-- More octets are needed than have come, and nothing is answered.
pub record Awaits (octets held : List ℕ) (old new : Stream) : Type 0 where
  pub more : Needs octets NeedsMore
  pub held_all : held ≡ octets
  pub nothing : new ≡ old

-- The octets that have come need no more. They are answered over this catalogue by a desk that is closed then, or isn't, and the answer is
-- put, or where the sink failed a front of it.
pub record AnswersRequest (closed : Bool) (Shows : Catalogue → Type 0) (Before After : List (Option Catalogue) → Type 0) (before : Catalogue) (octets : List ℕ) (old new : Stream) : Type 0 where
  pub whole : Needs octets NeedsMore → ⊥
  pub answer : List ℕ
  pub responds : Responds closed Shows Before After before (Settles before octets) answer
  pub puts : PutsAll old new answer ⊎ PutsFront old new answer

-- Where the desk was closed before, 503 is put, or where the sink failed a front of it, in place of each answer to these octets that only
-- an open desk can give
abbrev pub PutsUnavailable : Bool → Catalogue → List ℕ → Stream → Stream → Type 0
PutsUnavailable closed catalogue octets old new = closed ≡ true
    → (settled : Settled) → Settles catalogue octets settled → is_of_keeper settled.response.status ≡ true → PutsAll old new unavailable_text ⊎ PutsFront old new unavailable_text
