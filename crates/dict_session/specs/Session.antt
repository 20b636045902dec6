-- What a session keeps between two pieces, and what a call leaves.
use Rattle.std.specs.Prelude.{◌≡◌, ℕ, ◌<◌, List, length, MatchBool, ◌-◌, slice_index, ◌==◌, vec_capacity}
use Rattle.dict_proto.specs.Streams.{Stream}
use Rattle.dict_proto.specs.Meaning.{Meaning}
use Rattle.dict_session.specs.Lines.{HasNoLineEnd, cut}
use Rattle.dict_session.specs.Desks.{Condition}
use Rattle.dict_session.specs.Ending.{Wrote, step_at}
use Rattle.dict_session.specs.declared.session.Session.{Session}
use Rattle.dict_session.specs.declared.step.Step.{Step}
use Rattle.dict_session.specs.declared.step.Course.{Course}
use Rattle.dict_session.specs.declared.step.Course.TheVariants.{More, Quit, SinkFailed, DeskFailed}

-- the session has read this unfinished line: all of it, or of more than 6,144 octets that they are too many
pub record HasUnfinished (s : Session) (rest : List ℕ) : Type 0 where
  pub unfinished : HasNoLineEnd rest
  pub octets : MatchBool s.is_overlong (6144 < length rest) (s.held.items ≡ rest)
  pub last : s.after_cr ≡ (slice_index rest (length rest - 1) == 13)

-- how the last call of the session ended, and the same as its callers see it
abbrev pub course_of : Session → Course
course_of s = s.last

abbrev pub step_of : Session → Step
step_of s = step_at s.last

-- the host that the session tells, and its connection's number
abbrev pub session_host : Session → List ℕ
session_host s = s.host.now

abbrev pub connection_of : Session → ℕ
connection_of s = s.connection

-- a call keeps the session's host and number, and the room of its line
pub record IsSameSession (old new : Session) : Type 0 where
  pub host : new.host.now ≡ old.host.now
  pub connection : new.connection ≡ old.connection
  pub room : vec_capacity new.held ≡ vec_capacity old.held

-- a session that goes on has read this
abbrev pub KeepsRest : Course → Session → List ℕ → Type 0
KeepsRest More s rest = HasUnfinished s rest
KeepsRest Quit s rest = Unit {0}
KeepsRest SinkFailed s rest = Unit {0}
KeepsRest DeskFailed s rest = Unit {0}

-- the call answered the lines that end in b, and keeps the rest of b; the desk stands so after it
abbrev pub LeavesSession : (Meaning → List ℕ) → Condition → Course → Session → Stream → Stream → List ℕ → Type 0
LeavesSession answer desk course s old new b = Wrote answer desk course old new (cut b).lines × KeepsRest course s (cut b).rest
