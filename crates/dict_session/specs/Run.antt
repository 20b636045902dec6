-- What a run leaves of its reader and its writer.
use Rattle.std.specs.Prelude.{◌≡◌, ℕ, ◌-◌, ◌^◌, ◌≤◌, ◌⊎◌, List, [], ◌++◌, length, Bool, false, Result, Ok, Err}
use Rattle.std.specs.Io.KnownBytes.{Consumes, IsAtEnd}
use Rattle.dict_proto.specs.Streams.{Stream, StreamChange, HasFailed, PutsAll, PutsFront, GivesAll}
use Rattle.dict_proto.specs.Meaning.{Meaning}
use Rattle.dict_proto.specs.Replies.{banner_octets}
use Rattle.dict_session.specs.Lines.{cut}
use Rattle.dict_catalogue.specs.Steps.{Catalogue}
use Rattle.dict_session.specs.Answers.{answer_to}
use Rattle.dict_session.specs.Spoken.{Speaks}
use Rattle.dict_session.specs.Desks.{Condition}
use Rattle.dict_session.specs.Ending.{Wrote}
use Rattle.dict_session.specs.declared.step.Course.{Course}
use Rattle.dict_session.specs.declared.step.Course.TheVariants as courses
use Rattle.dict_session.specs.declared.session.run.SessionEnd.{SessionEnd}
use Rattle.dict_session.specs.declared.session.run.SessionEnd.TheVariants.{Quit, InputEnd}
use Rattle.dict_session.specs.declared.session.run.SessionFault.{SessionFault}
use Rattle.dict_session.specs.declared.session.run.SessionFault.TheVariants.{Read, Write, Broken, Memory}

-- the octets b were read, and what was written is the greeting and what answers the lines of b, of which no QUIT was
-- answered
abbrev pub HasAnswered : (Meaning → List ℕ) → Bool → List ℕ → StreamChange → List ℕ → Type 0
HasAnswered answer closed greeting writer b =
    (o : List ℕ) × Speaks answer closed (cut b).lines o false × PutsAll writer.old writer.new (greeting ++ o)

-- the lines that end in a piece, which comes behind other octets
abbrev pub lines_in : List ℕ → List ℕ → List (List ℕ)
lines_in front piece = (cut ((cut front).rest ++ piece)).lines

-- the octets b were read, at last a piece of at most 4,096 of them: the lines of those before it were answered, and no
-- QUIT of them; and then of the lines that end in the piece so much was answered
abbrev pub EndsInPiece : (Meaning → List ℕ) → Condition → List ℕ → StreamChange → List ℕ → Course → Type 0
EndsInPiece answer desk greeting writer b course =
    (front : List ℕ) × (piece : List ℕ) × (between : Stream)
    × (b ≡ front ++ piece) × (length piece ≤ 4096)
    × HasAnswered answer desk.closed greeting (record { old = writer.old; new = between }) front
    × Wrote answer desk course between writer.new (lines_in front piece)

-- the octets b were read: what was written, and why the run ended. The desk stands so after it
abbrev pub EndsAt : (Meaning → List ℕ) → List ℕ → Condition → Result SessionEnd SessionFault → StreamChange → StreamChange → List ℕ → Type 0
EndsAt answer greeting desk (Ok Quit) reader writer b =
    GivesAll reader.old reader.new b × EndsInPiece answer desk greeting writer b courses.Quit
EndsAt answer greeting desk (Ok InputEnd) reader writer b =
    GivesAll reader.old reader.new b × IsAtEnd reader.new.octets × HasAnswered answer desk.closed greeting writer b
EndsAt answer greeting desk (Err Read) reader writer b =
    Consumes reader.old.octets reader.new.octets b × (HasFailed reader.old.failures reader.new.failures ⊎ (2 ^ 64 - 1 ≤ length b))
    × HasAnswered answer desk.closed greeting writer b
EndsAt answer greeting desk (Err Write) reader writer b =
    GivesAll reader.old reader.new b
    × (((b ≡ []) × PutsFront writer.old writer.new greeting) ⊎ EndsInPiece answer desk greeting writer b courses.SinkFailed)
EndsAt answer greeting desk (Err Broken) reader writer b =
    GivesAll reader.old reader.new b × EndsInPiece answer desk greeting writer b courses.DeskFailed
EndsAt answer greeting desk (Err Memory) reader writer b = (reader.new ≡ reader.old) × (writer.new ≡ writer.old)

-- a session over the catalogue ended so, greeted under this host and number; the desk stands so after it
abbrev pub Ends : Catalogue → List ℕ → ℕ → Condition → Result SessionEnd SessionFault → StreamChange → StreamChange → Type 0
Ends catalogue host connection desk end reader writer =
    (b : List ℕ) × EndsAt (answer_to catalogue host) (banner_octets host connection) desk end reader writer b
