-- What an event gives its connection: a function of the host, the connection's id and kind, the octets that have come on it
-- and the catalogue.
use Rattle.std.specs.Prelude.{◌≡◌, ◌⊎◌, ℕ, List, Bool, true, false, Option, All}
use Rattle.dict_proto.specs.Streams.{Stream, PutsAll, PutsFront}
use Rattle.dict_catalogue.specs.Steps.{Catalogue}
use Rattle.dict_desk.specs.Applying.{LeavesNoMore}
use Rattle.dict_proto.specs.Meaning.{Meaning, meaning}
use Rattle.dict_proto.specs.Replies.{banner_octets}
use Rattle.http_request.specs.Heads.{Needs}
use Rattle.http_request.specs.declared.kinds.Need.TheVariants.{More as NeedsMore}
use Rattle.dict_session.specs.Lines.{cut}
use Rattle.dict_session.specs.Answers.{answer_to}
use Rattle.dict_session.specs.Spoken.{Speaks, BreaksOff}
use Rattle.dict_session.specs.Desks.{Condition}
use Rattle.dict_session.specs.Through.{SpeaksThrough, BreaksThrough, looks_up}
use Rattle.http_service.specs.Foreseeing.{AsksForCommand}
use Rattle.net_hub.specs.Asking.{AnswersRequest, PutsUnavailable}
use Rattle.net_hub.specs.declared.kind.Kind.{Kind}
use Rattle.net_hub.specs.declared.kind.Kind.TheVariants.{Dict, Http}
use Rattle.net_hub.specs.declared.incoming.Out.{Out}
use Rattle.net_hub.specs.declared.incoming.Out.TheVariants.{More, Close}

-- a connection is opened: a reader is greeted, or where the sink fails gets a front of the greeting and is closed
abbrev pub Greets : List ℕ → ℕ → Kind → Out → Stream → Stream → Type 0
Greets host id Dict More old new = PutsAll old new (banner_octets host id)
Greets host id Dict Close old new = PutsFront old new (banner_octets host id)
Greets host id Http More old new = new ≡ old
Greets host id Http Close old new = ⊥

-- these lines of a reader's are answered; they are closed by a QUIT, or where the sink failed behind a front of the answers, or
-- where the desk's last call failed behind the first octet of one
abbrev pub Replies : (Meaning → List ℕ) → Condition → List (List ℕ) → Out → Stream → Stream → Type 0
Replies answer desk lines More old new = (octets : List ℕ) × Speaks answer desk.closed lines octets false × PutsAll old new octets
Replies answer desk lines Close old new = ((octets : List ℕ) × Speaks answer desk.closed lines octets true × PutsAll old new octets)
    ⊎ (((octets : List ℕ) × (ended : Bool) × Speaks answer desk.closed lines octets ended × PutsFront old new octets)
    ⊎ ((desk.failed ≡ true) × ((octets : List ℕ) × BreaksOff answer desk.closed lines octets × PutsAll old new octets)))

-- the catalogue stays, and nothing new may be left by a stop
pub record CatalogueStays (Shows : Catalogue → Type 0) (Before After : List (Option Catalogue) → Type 0) (before : Catalogue) : Type 0 where
  pub shows : Shows before
  pub leaves : LeavesNoMore Before After

-- an editor's octets are no whole request yet, and nothing is put; or they are answered, and the connection is closed
abbrev pub AnswersEditor : Bool → (Catalogue → Type 0) → (List (Option Catalogue) → Type 0) → (List (Option Catalogue) → Type 0) → Catalogue → List ℕ → Out → Stream → Stream → Type 0
AnswersEditor closed Shows Before After before octets More old new = Needs octets NeedsMore × (new ≡ old) × CatalogueStays Shows Before After before
AnswersEditor closed Shows Before After before octets Close old new = AnswersRequest closed Shows Before After before octets old new

-- these octets have come on a connection of this kind
abbrev pub Gets : List ℕ → Condition → (Catalogue → Type 0) → (List (Option Catalogue) → Type 0) → (List (Option Catalogue) → Type 0) → Catalogue → Kind → List ℕ → Out → Stream → Stream → Type 0
Gets host desk Shows Before After before Dict octets out old new =
    Replies (answer_to before host) desk (cut octets).lines out old new × CatalogueStays Shows Before After before
Gets host desk Shows Before After before Http octets out old new = AnswersEditor desk.closed Shows Before After before octets out old new

-- the same of these lines of a reader's by how the desk stood before each: it was closed, or not, before the first as `before` tells, and
-- where nothing is looked up for a line it stands behind it as before
abbrev pub RepliesThrough : (Meaning → List ℕ) → (Meaning → Bool) → Bool → Condition → List (List ℕ) → Out → Stream → Stream → Type 0
RepliesThrough answer looks before desk lines More old new = (octets : List ℕ) × SpeaksThrough answer looks before desk.closed lines octets false × PutsAll old new octets
RepliesThrough answer looks before desk lines Close old new = ((octets : List ℕ) × SpeaksThrough answer looks before desk.closed lines octets true × PutsAll old new octets)
    ⊎ (((octets : List ℕ) × (ended : Bool) × SpeaksThrough answer looks before desk.closed lines octets ended × PutsFront old new octets)
    ⊎ ((desk.failed ≡ true) × ((octets : List ℕ) × BreaksThrough answer looks before desk.closed lines octets × PutsAll old new octets)))

-- these octets have come on a connection of this kind; where an editor's are answered, by whether the desk was closed before
abbrev pub GetsThrough : List ℕ → Catalogue → Bool → Condition → Kind → List ℕ → Out → Stream → Stream → Type 0
GetsThrough host catalogue before desk Dict octets out old new = RepliesThrough (answer_to catalogue host) (looks_up catalogue) before desk (cut octets).lines out old new
GetsThrough host catalogue before desk Http octets More old new = Unit {0}
GetsThrough host catalogue before desk Http octets Close old new = PutsUnavailable before catalogue octets old new

-- nothing is looked up for these octets, nor a command asked for: for no line of a reader's, and an editor's are no whole request that
-- changes the catalogue
abbrev pub LookNothingUp : Catalogue → Kind → List ℕ → Type 0
LookNothingUp catalogue Dict octets = All (λ line. looks_up catalogue (meaning line) ≡ false) (cut octets).lines
LookNothingUp catalogue Http octets = ¬ AsksForCommand octets
