-- What an event is, and what it does to its connection.
use Rattle.std.specs.Prelude.{◌≡◌, ◌+◌, ◌-◌, ℕ, Bool, true, false, List, [], ◌++◌, Option, Some, None, Result, Ok, Err}
use Rattle.dict_proto.specs.Streams.{Stream}
use Rattle.dict_catalogue.specs.Steps.{Catalogue}
use Rattle.dict_session.specs.Desks.{Condition}
use Rattle.net_hub.specs.Books.{opening}
use Rattle.net_hub.specs.Holding.{Holding, left_by}
use Rattle.net_hub.specs.Given.{Greets, Gets, GetsThrough, LookNothingUp, CatalogueStays}
use Rattle.net_hub.specs.declared.kind.Kind.{Kind}
use Rattle.net_hub.specs.declared.kind.Kind.TheVariants.{Dict, Http}
use Rattle.net_hub.specs.declared.fault.HubFault.{HubFault}
use Rattle.net_hub.specs.declared.fault.HubFault.TheVariants.{UnknownConnection}
use Rattle.net_hub.specs.declared.incoming.Out.{Out}
use Rattle.net_hub.specs.declared.incoming.Out.TheVariants.{More}
use Rattle.net_hub.specs.declared.hub.Event.{Event}
use Rattle.net_hub.specs.declared.hub.Event.TheVariants.{Opened, Bytes, Ended}

-- a connection of this id was opened, octets came on it, or its other end sends no more
pub data Happening : Type 0 where
  opened : ℕ → Kind → Happening
  came : ℕ → List ℕ → Happening
  ended : ℕ → Happening

abbrev pub happening : Event → Happening
happening (Opened id kind) = opened id kind
happening (Bytes id piece) = came id piece.now
happening (Ended id) = ended id

-- whose event it is
abbrev pub id_of : Happening → ℕ
id_of (opened id kind) = id
id_of (came id piece) = id
id_of (ended id) = id

-- the desk may be asked something: octets came
abbrev pub asks_desk : Happening → Bool
asks_desk (opened id kind) = false
asks_desk (came id piece) = true
asks_desk (ended id) = false

-- what comes of an open connection alone
abbrev pub of_open : Option Holding → Result (Unit {0}) HubFault
of_open None = Err UnknownConnection
of_open (Some held) = Ok tt

-- the first test that the event fails, by what is held of its connection, the greatest id that was given and how many
-- are open: an opening wants a new id, and fewer than 64 open ones; all else an open connection
abbrev pub admitted : Option Holding → Option ℕ → ℕ → Happening → Result (Unit {0}) HubFault
admitted held greatest count (opened id kind) = opening id greatest count
admitted held greatest count (came id piece) = of_open held
admitted held greatest count (ended id) = of_open held

-- an editor's request is held
abbrev pub is_of_editor : Kind → Bool
is_of_editor Dict = false
is_of_editor Http = true

abbrev pub holds_request : Option Holding → Bool
holds_request None = false
holds_request (Some held) = is_of_editor held.kind

-- an opening takes memory, and so do octets of an editor's request; what a reader sends is held in room that was taken when it
-- was opened, and an end takes none
abbrev pub takes_memory : Option Holding → Happening → Bool
takes_memory held (opened id kind) = true
takes_memory held (came id piece) = holds_request held
takes_memory held (ended id) = false

abbrev pub greatest_after : Option ℕ → Happening → Option ℕ
greatest_after greatest (opened id kind) = Some id
greatest_after greatest (came id piece) = greatest
greatest_after greatest (ended id) = greatest

-- what octets that came leave of what is held
abbrev pub held_after_piece : Option Holding → List ℕ → Out → Option Holding
held_after_piece None piece out = None
held_after_piece (Some held) piece out = left_by held.kind (held.octets ++ piece) out

-- what is held of the event's connection after it
abbrev pub held_after : Option Holding → Happening → Out → Option Holding
held_after held (opened id kind) out = left_by kind [] out
held_after held (came id piece) out = held_after_piece held piece out
held_after held (ended id) out = None

-- how many connections are open once this is held of one of which that was held
abbrev pub count_after : ℕ → Option Holding → Option Holding → ℕ
count_after count None None = count
count_after count None (Some left) = count + 1
count_after count (Some held) None = count - 1
count_after count (Some held) (Some left) = count

-- what octets that came put, where the connection is open
abbrev pub ServesPiece : List ℕ → Condition → (Catalogue → Type 0) → (List (Option Catalogue) → Type 0) → (List (Option Catalogue) → Type 0) → Catalogue → Option Holding → List ℕ → Out → Stream → Stream → Type 0
ServesPiece host desk Shows Before After before None piece out old new = ⊥
ServesPiece host desk Shows Before After before (Some held) piece out old new = Gets host desk Shows Before After before held.kind (held.octets ++ piece) out old new

-- an end puts nothing, and nothing is to be closed
pub record ServesEnd (Shows : Catalogue → Type 0) (Before After : List (Option Catalogue) → Type 0) (before : Catalogue) (out : Out) (old new : Stream) : Type 0 where
  pub no_close : out ≡ More
  pub nothing : new ≡ old
  pub stays : CatalogueStays Shows Before After before

-- what the event puts on its connection, and what it leaves of the catalogue
abbrev pub Serves : List ℕ → Condition → (Catalogue → Type 0) → (List (Option Catalogue) → Type 0) → (List (Option Catalogue) → Type 0) → Catalogue → Option Holding → Happening → Out → Stream → Stream → Type 0
Serves host desk Shows Before After before held (opened id kind) out old new = Greets host id kind out old new × CatalogueStays Shows Before After before
Serves host desk Shows Before After before held (came id piece) out old new = ServesPiece host desk Shows Before After before held piece out old new
Serves host desk Shows Before After before held (ended id) out old new = ServesEnd Shows Before After before out old new

-- what octets that came put, by how the desk stood before each line, or before an editor's request
abbrev pub ServesPieceThrough : List ℕ → Catalogue → Bool → Condition → Option Holding → List ℕ → Out → Stream → Stream → Type 0
ServesPieceThrough host catalogue before desk None piece out old new = ⊥
ServesPieceThrough host catalogue before desk (Some held) piece out old new = GetsThrough host catalogue before desk held.kind (held.octets ++ piece) out old new

-- what the event puts, by how the desk stood before each line, or before an editor's request
abbrev pub ServesThrough : List ℕ → Catalogue → Bool → Condition → Option Holding → Happening → Out → Stream → Stream → Type 0
ServesThrough host catalogue before desk held (opened id kind) out old new = Unit {0}
ServesThrough host catalogue before desk held (came id piece) out old new = ServesPieceThrough host catalogue before desk held piece out old new
ServesThrough host catalogue before desk held (ended id) out old new = Unit {0}

-- nothing is looked up for these octets of this connection, nor a command asked for; of one that isn't open nothing ever is
abbrev pub IsQuietPiece : Catalogue → Option Holding → List ℕ → Type 0
IsQuietPiece catalogue None piece = Unit {0}
IsQuietPiece catalogue (Some held) piece = LookNothingUp catalogue held.kind (held.octets ++ piece)

-- nothing is looked up for the event, nor a command asked for
abbrev pub IsQuiet : Catalogue → Option Holding → Happening → Type 0
IsQuiet catalogue held (opened id kind) = Unit {0}
IsQuiet catalogue held (came id piece) = IsQuietPiece catalogue held piece
IsQuiet catalogue held (ended id) = Unit {0}
