-- What a session writes, by how its desk stood before each line.
use Rattle.std.specs.Prelude.{◌≡◌, ℕ, ◌⊎◌, ◌&&◌, List, [], ◌∷◌, ◌++◌, Bool, true, false, MatchBool, Option, None, Some, Result, Ok, Err, find, is_some}
use Rattle.std.specs.Io.KnownBytes.{Consumes}
use Rattle.dict_proto.specs.Streams.{Stream, StreamChange, PutsAll, PutsFront}
use Rattle.dict_index.specs.Edition.{Edition}
use Rattle.dict_catalogue.specs.Items.{Item, regular, virtual, is_named}
use Rattle.dict_catalogue.specs.Steps.{Catalogue}
use Rattle.dict_desk.specs.Asked.{strategy_of}
use Rattle.dict_proto.specs.Meaning.{Meaning, meaning, define, matching, show_databases, show_strategies, show_server, show_info, client, status, help, quit, not_recognized, illegal_parameters, not_implemented}
use Rattle.dict_proto.specs.Replies.{banner_octets, unavailable_octets}
use Rattle.dict_session.specs.Answers.{answer_to, is_quit, names_databases, need_of, MayBreak, may_be_unavailable}
use Rattle.dict_session.specs.Desks.{Condition}
use Rattle.dict_session.specs.Ending.{Finishes}
use Rattle.dict_session.specs.Lines.{cut}
use Rattle.dict_session.specs.Session.{KeepsRest}
use Rattle.dict_session.specs.Spoken.{IsBeginning}
use Rattle.dict_session.specs.declared.session.Session.{Session}
use Rattle.dict_session.specs.declared.session.run.SessionEnd.{SessionEnd}
use Rattle.dict_session.specs.declared.session.run.SessionEnd.TheVariants.{Quit, InputEnd}
use Rattle.dict_session.specs.declared.session.run.SessionFault.{SessionFault}
use Rattle.dict_session.specs.declared.session.run.SessionFault.TheVariants.{Read, Write, Broken, Memory}
use Rattle.dict_session.specs.declared.step.PutFault.{PutFault}
use Rattle.dict_session.specs.declared.step.PutFault.TheVariants.{Desk}
use Rattle.dict_session.specs.declared.step.Course.{Course}
use Rattle.dict_session.specs.declared.step.Course.TheVariants as courses

-- an item with an edition
abbrev pub has_edition : Option (Item Edition) → Bool
has_edition None = false
has_edition (Some (regular name current former)) = true
has_edition (Some (virtual name title members)) = false

-- Something is looked up for an answer: in the databases that a word names, by a strategy that there is; or in the edition of the database
-- that is asked for what it says of itself. Each other answer is made of the catalogue's summary, or of nothing
abbrev pub looks_up : Catalogue → Meaning → Bool
looks_up catalogue (define name word) = names_databases catalogue name
looks_up catalogue (matching name strategy word) = names_databases catalogue name && is_some (strategy_of strategy)
looks_up catalogue show_databases = false
looks_up catalogue show_strategies = false
looks_up catalogue show_server = false
looks_up catalogue (show_info name) = has_edition (find (is_named name) catalogue.items)
looks_up catalogue client = false
looks_up catalogue status = false
looks_up catalogue help = false
looks_up catalogue quit = false
looks_up catalogue not_recognized = false
looks_up catalogue illegal_parameters = false
looks_up catalogue not_implemented = false

-- where nothing is looked up, the desk is the same, and it doesn't break off the answer
abbrev pub LooksWhere : {S T : Type 0} → Bool → Result T PutFault → S → S → Type 0
LooksWhere looks end old new = (looks ≡ false → new ≡ old) × (end ≡ Err Desk → looks ≡ true)

-- how a desk that was closed before a line, or not, stands behind it: once closed it stays so, and where nothing is looked up it stands as
-- it did
abbrev pub StandsOn : Bool → Bool → Bool → Type 0
StandsOn looks before behind = (before ≡ true → behind ≡ true) × (looks ≡ false → behind ≡ before)

-- The octets o answer the lines in order, up to and with the first QUIT: each by its answer, or by the 420 line in its place where that may
-- be unavailable by how the desk stood before the line. It was closed, or not, before the first as `before` tells, and behind the last as
-- `behind` does; `ended` tells whether a QUIT was answered
abbrev pub SpeaksThrough : (Meaning → List ℕ) → (Meaning → Bool) → Bool → Bool → List (List ℕ) → List ℕ → Bool → Type 0
SpeaksThrough answer looks before behind [] o ended = (o ≡ []) × (ended ≡ false) × (behind ≡ before)
SpeaksThrough answer looks before behind (l ∷ ls) o ended = (rest : List ℕ) × (next : Bool) × StandsOn (looks (meaning l)) before next
    × (((o ≡ answer (meaning l) ++ rest) × MatchBool (is_quit l) ((rest ≡ []) × (ended ≡ true) × (behind ≡ next)) (SpeaksThrough answer looks next behind ls rest ended))
    ⊎ ((may_be_unavailable before (meaning l) ≡ true) × (o ≡ unavailable_octets ++ rest) × SpeaksThrough answer looks next behind ls rest ended))

-- The octets o answer the first of these lines, of which no QUIT was answered, and then they are a beginning of the answer to the next, for
-- which something is looked up, behind what the desk had to tell before its first octet
pub record BreaksThrough (answer : Meaning → List ℕ) (looks : Meaning → Bool) (before behind : Bool) (lines : List (List ℕ)) (o : List ℕ) : Type 0 where
  pub front : List (List ℕ)
  pub line : List ℕ
  pub others : List (List ℕ)
  pub said : List ℕ
  pub part : List ℕ
  pub at : Bool
  pub are : lines ≡ front ++ line ∷ others
  pub spoken : SpeaksThrough answer looks before at front said false
  pub looked : looks (meaning line) ≡ true
  pub stands : at ≡ true → behind ≡ true
  pub begins : IsBeginning part (answer (meaning line))
  pub told : MayBreak (need_of (meaning line)) part begins.rest
  pub is : o ≡ said ++ part

-- a call wrote what answers these lines, and tells whether a QUIT was answered; or the sink failed, and a front of that was put; or the desk
-- did, and the answers were broken off. The desk was closed before as `before` tells, and stands so behind
abbrev pub WroteThrough : (Meaning → List ℕ) → (Meaning → Bool) → Bool → Condition → Course → Stream → Stream → List (List ℕ) → Type 0
WroteThrough answer looks before desk courses.More old new lines = (o : List ℕ) × SpeaksThrough answer looks before desk.closed lines o false × PutsAll old new o
WroteThrough answer looks before desk courses.Quit old new lines = (o : List ℕ) × SpeaksThrough answer looks before desk.closed lines o true × PutsAll old new o
WroteThrough answer looks before desk courses.SinkFailed old new lines = (o : List ℕ) × (ended : Bool) × SpeaksThrough answer looks before desk.closed lines o ended × PutsFront old new o
WroteThrough answer looks before desk courses.DeskFailed old new lines = (desk.failed ≡ true) × ((o : List ℕ) × BreaksThrough answer looks before desk.closed lines o × PutsAll old new o)

-- the call answered the lines that end in b, and keeps the rest of b
abbrev pub LeavesThrough : (Meaning → List ℕ) → (Meaning → Bool) → Bool → Condition → Course → Session → Stream → Stream → List ℕ → Type 0
LeavesThrough answer looks before desk course s old new b = WroteThrough answer looks before desk course old new (cut b).lines × KeepsRest course s (cut b).rest

-- the call answered this line, by how the desk stood before it, and keeps nothing
pub record AnswersLine (answer : Meaning → List ℕ) (looks : Meaning → Bool) (before : Bool) (desk : Condition) (course : Course) (s : Session) (old new : Stream) (line : List ℕ) : Type 0 where
  pub finishes : Finishes answer (record { failed = desk.failed; closed = before }) course old new (meaning line)
  pub keeps : KeepsRest course s []
  pub stands : StandsOn (looks (meaning line)) before desk.closed
  pub breaks : course ≡ courses.DeskFailed → looks (meaning line) ≡ true

-- how the last call ended of a session that ended so
abbrev pub course_at : Result SessionEnd SessionFault → Course
course_at (Ok Quit) = courses.Quit
course_at (Ok InputEnd) = courses.More
course_at (Err Read) = courses.More
course_at (Err Write) = courses.SinkFailed
course_at (Err Broken) = courses.DeskFailed
course_at (Err Memory) = courses.More

-- The octets b were read, the greeting was written, and then what answers the lines of b, by how the desk stood before each; or the writer
-- failed within the greeting, or the session's room was refused
abbrev pub EndsThrough : Catalogue → List ℕ → ℕ → Bool → Condition → Result SessionEnd SessionFault → StreamChange → StreamChange → Type 0
EndsThrough catalogue host connection before desk end reader writer =
    ((b : List ℕ) × (greeted : Stream) × Consumes reader.old.octets reader.new.octets b × PutsAll writer.old greeted (banner_octets host connection)
    × WroteThrough (answer_to catalogue host) (looks_up catalogue) before desk (course_at end) greeted writer.new (cut b).lines)
    ⊎ (((end ≡ Err Write) × PutsFront writer.old writer.new (banner_octets host connection)) ⊎ (end ≡ Err Memory))
