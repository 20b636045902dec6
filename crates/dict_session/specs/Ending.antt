-- How a call of a session ends, and what it leaves of a sink.
use Rattle.std.specs.Prelude.{◌≡◌, ℕ, ◌⊎◌, List, Bool, true, false, Result, Ok, Err}
use Rattle.dict_proto.specs.Streams.{Stream, AppendsFront, PutsAll, PutsFront}
use Rattle.dict_proto.specs.Meaning.{Meaning}
use Rattle.dict_proto.specs.Replies.{unavailable_octets}
use Rattle.dict_session.specs.Answers.{AnswerNeed, need_of, MayBreak, ends_session, may_be_unavailable}
use Rattle.dict_session.specs.Spoken.{Speaks, IsBeginning, BreaksOff}
use Rattle.dict_session.specs.Desks.{Condition}
use Rattle.dict_session.specs.declared.step.LineAnswer.{LineAnswer}
use Rattle.dict_session.specs.declared.step.LineAnswer.TheVariants.{Whole, Unavailable}
use Rattle.dict_session.specs.declared.step.PutFault.{PutFault}
use Rattle.dict_session.specs.declared.step.PutFault.TheVariants.{Sink, Desk}
use Rattle.dict_session.specs.declared.step.Course.{Course}
use Rattle.dict_session.specs.declared.step.Course.TheVariants as courses
use Rattle.dict_session.specs.declared.step.Step.{Step}
use Rattle.dict_session.specs.declared.step.Step.TheVariants as steps

-- a front of these octets was put, and no call of the sink failed
pub record PutsPart (old new : Stream) (octets : List ℕ) : Type 0 where
  pub front : AppendsFront old.octets new.octets octets
  pub failures : new.failures ≡ old.failures

-- a beginning of an answer with this need was put, at least one of its octets and not all, so far that it may end there, and no
-- call of the sink failed
abbrev pub PutsBeginning : AnswerNeed → Stream → Stream → List ℕ → Type 0
PutsBeginning need old new answer = (part : List ℕ) × (begins : IsBeginning part answer) × MayBreak need part begins.rest × PutsAll old new part

-- the sink failed, and a front of these rows was put; or the desk did, of whose last call `failed` tells it, and so
abbrev pub Breaks : Bool → PutFault → Stream → Stream → List ℕ → Type 0
Breaks failed Sink old new octets = PutsFront old new octets
Breaks failed Desk old new octets = (failed ≡ true) × PutsPart old new octets

-- these rows were put, or broken off
abbrev pub Delivers : {T : Type 0} → Bool → Result T PutFault → Stream → Stream → List ℕ → Type 0
Delivers failed (Ok done) old new octets = PutsAll old new octets
Delivers failed (Err fault) old new octets = Breaks failed fault old new octets

-- the answer was put, or where it may be unavailable the 420 line in its place; or the sink failed, and a front of either
-- was put; or the desk did, of whose last call `failed` tells it, and a beginning of the answer was put, so far as its need
-- has it
abbrev pub PutsAnswer : Bool → Result LineAnswer PutFault → Stream → Stream → List ℕ → AnswerNeed → Bool → Type 0
PutsAnswer failed (Ok Whole) old new answer need may = PutsAll old new answer
PutsAnswer failed (Ok Unavailable) old new answer need may = (may ≡ true) × PutsAll old new unavailable_octets
PutsAnswer failed (Err Sink) old new answer need may = PutsFront old new answer ⊎ ((may ≡ true) × PutsFront old new unavailable_octets)
PutsAnswer failed (Err Desk) old new answer need may = (failed ≡ true) × PutsBeginning need old new answer

-- a session that the sink or the desk broke off is broken
abbrev pub step_at : Course → Step
step_at courses.More = steps.More
step_at courses.Quit = steps.Quit
step_at courses.SinkFailed = steps.Broken
step_at courses.DeskFailed = steps.Broken

-- the call answered what one line asks, and a QUIT ends the session; the desk stands so after it
abbrev pub Finishes : (Meaning → List ℕ) → Condition → Course → Stream → Stream → Meaning → Type 0
Finishes answer desk courses.More old new asked = (PutsAll old new (answer asked) × (ends_session asked ≡ false))
    ⊎ ((may_be_unavailable desk.closed asked ≡ true) × PutsAll old new unavailable_octets)
Finishes answer desk courses.Quit old new asked = PutsAll old new (answer asked) × (ends_session asked ≡ true)
Finishes answer desk courses.SinkFailed old new asked = PutsFront old new (answer asked)
    ⊎ ((may_be_unavailable desk.closed asked ≡ true) × PutsFront old new unavailable_octets)
Finishes answer desk courses.DeskFailed old new asked = (desk.failed ≡ true) × PutsBeginning (need_of asked) old new (answer asked)

-- the call put these octets, and the session goes on; or the sink failed
abbrev pub PutsLine : Course → Stream → Stream → List ℕ → Type 0
PutsLine courses.More old new octets = PutsAll old new octets
PutsLine courses.Quit old new octets = ⊥
PutsLine courses.SinkFailed old new octets = PutsFront old new octets
PutsLine courses.DeskFailed old new octets = ⊥

-- the call wrote what answers these lines, and tells whether a QUIT was answered; or the sink failed, and a front of that
-- was written; or the desk's last call failed, and the answer to one of the lines was broken off behind what the desk had
-- to tell before its first octet
abbrev pub Wrote : (Meaning → List ℕ) → Condition → Course → Stream → Stream → List (List ℕ) → Type 0
Wrote answer desk courses.More old new ls = (o : List ℕ) × Speaks answer desk.closed ls o false × PutsAll old new o
Wrote answer desk courses.Quit old new ls = (o : List ℕ) × Speaks answer desk.closed ls o true × PutsAll old new o
Wrote answer desk courses.SinkFailed old new ls = (o : List ℕ) × (ended : Bool) × Speaks answer desk.closed ls o ended × PutsFront old new o
Wrote answer desk courses.DeskFailed old new ls = (desk.failed ≡ true) × ((o : List ℕ) × BreaksOff answer desk.closed ls o × PutsAll old new o)
