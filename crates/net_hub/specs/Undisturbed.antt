-- What an event gives where nothing fails: a function of the host, the connection's id and kind, the octets that have come on
-- it and the catalogue. And what has failed where it gives something else.
use Rattle.std.specs.Prelude.{◌≡◌, ◌⊎◌, ℕ, true, List, [], ◌++◌, Option, Some, None, if◌then◌else◌}
use Rattle.dict_proto.specs.Streams.{Stream, HasFailed, PutsAll}
use Rattle.dict_catalogue.specs.Steps.{Catalogue}
use Rattle.dict_proto.specs.Replies.{banner_octets}
use Rattle.http_request.specs.Heads.{Needs}
use Rattle.http_request.specs.declared.kinds.Need.TheVariants.{More as NeedsMore}
use Rattle.http_service.specs.Answers.{response_text, unavailable_text}
use Rattle.http_service.specs.Settling.{Settled, Settles}
use Rattle.dict_session.specs.Lines.{cut}
use Rattle.dict_session.specs.Answers.{answer_to}
use Rattle.dict_session.specs.Spoken.{answers, has_quit, HasUnavailable, BreaksOff}
use Rattle.dict_session.specs.Desks.{Condition}
use Rattle.net_hub.specs.Holding.{Holding}
use Rattle.net_hub.specs.Events.{Happening, opened, came, ended}
use Rattle.net_hub.specs.declared.kind.Kind.{Kind}
use Rattle.net_hub.specs.declared.kind.Kind.TheVariants.{Dict, Http}
use Rattle.net_hub.specs.declared.incoming.Out.{Out}
use Rattle.net_hub.specs.declared.incoming.Out.TheVariants.{More, Close}

-- how an event is answered, what it puts on its connection, and the catalogue after it
pub record Served : Type 0 where
  pub out : Out
  pub octets : List ℕ
  pub catalogue : Catalogue

-- the connection stays open, and the catalogue stays
abbrev pub goes_on : Catalogue → List ℕ → Served
goes_on before octets = record { out = More; octets = octets; catalogue = before }

-- a reader is greeted, and an editor isn't
abbrev pub greeting : List ℕ → ℕ → Kind → List ℕ
greeting host id Dict = banner_octets host id
greeting host id Http = []

-- a reader's lines are answered up to and with the first QUIT, which closes
abbrev pub to_reader : List ℕ → Catalogue → List (List ℕ) → Served
to_reader host before lines =
    record { out = if has_quit lines then Close else More; octets = answers (answer_to before host) lines; catalogue = before }

-- a settled answer closes
abbrev pub to_editor : Settled → Served
to_editor settled = record { out = Close; octets = response_text settled.response; catalogue = settled.catalogue }

-- the octets that have come on a connection of this kind: a reader's whole lines are answered; an editor gets nothing while
-- more octets are needed, and then the answer
abbrev pub IsServedOctets : List ℕ → Catalogue → Kind → List ℕ → Served → Type 0
IsServedOctets host before Dict octets served = served ≡ to_reader host before (cut octets).lines
IsServedOctets host before Http octets served = (Needs octets NeedsMore × (served ≡ goes_on before []))
    ⊎ ((settled : Settled) × Settles before octets settled × (served ≡ to_editor settled))

-- a piece that comes on an open connection
abbrev pub IsServedPiece : List ℕ → Catalogue → Option Holding → List ℕ → Served → Type 0
IsServedPiece host before None piece served = ⊥
IsServedPiece host before (Some held) piece served = IsServedOctets host before held.kind (held.octets ++ piece) served

-- what an event gives where nothing fails
abbrev pub IsServed : List ℕ → Catalogue → Option Holding → Happening → Served → Type 0
IsServed host before held (opened id kind) served = served ≡ goes_on before (greeting host id kind)
IsServed host before held (came id piece) served = IsServedPiece host before held piece served
IsServed host before held (ended id) served = served ≡ goes_on before []

-- a reader is closed where the desk's last call failed, behind the first octet of an answer, or gets the 420 line in place of
-- one; an editor whose octets need no more gets the 503, and is closed
abbrev pub Lacks : List ℕ → Condition → Catalogue → Kind → List ℕ → Out → Stream → Stream → Type 0
Lacks host desk before Dict octets out old new =
    ((out ≡ Close) × (desk.failed ≡ true) × ((put : List ℕ) × BreaksOff (answer_to before host) desk.closed (cut octets).lines put × PutsAll old new put))
    ⊎ ((put : List ℕ) × HasUnavailable (answer_to before host) desk.closed (cut octets).lines put × PutsAll old new put)
Lacks host desk before Http octets out old new = (out ≡ Close) × (Needs octets NeedsMore → ⊥) × PutsAll old new unavailable_text

abbrev pub LacksPiece : List ℕ → Condition → Catalogue → Option Holding → List ℕ → Out → Stream → Stream → Type 0
LacksPiece host desk before None piece out old new = ⊥
LacksPiece host desk before (Some held) piece out old new = Lacks host desk before held.kind (held.octets ++ piece) out old new

-- the desk fails, or memory is wanting, only at a piece
abbrev pub LacksEvent : List ℕ → Condition → Catalogue → Option Holding → Happening → Out → Stream → Stream → Type 0
LacksEvent host desk before held (opened id kind) out old new = ⊥
LacksEvent host desk before held (came id piece) out old new = LacksPiece host desk before held piece out old new
LacksEvent host desk before held (ended id) out old new = ⊥

-- the sink failed, or the desk did, or memory was wanting
abbrev pub IsDisturbed : List ℕ → Condition → Catalogue → Option Holding → Happening → Out → Stream → Stream → Type 0
IsDisturbed host desk before held what out old new = HasFailed old.failures new.failures ⊎ LacksEvent host desk before held what out old new
