-- Turns of one connection, one call after the other.
use Rattle.std.proofs.Common.{◌≡◌, ◌≢◌, ◌≤◌, ℕ, Bool, true, false, List, [], ◌∷◌, ◌++◌, refl, sym, ap, ◌∙◌, subst, append_assoc, append-nil, take, length, length-append, take-append-drop, inl, inr, arith, ◌+◌, ◌<◌}
use Rattle.std.proofs.lemmas.List.Elements.{All-nil}
use Rattle.std.specs.Prelude.{Option, Some, None, Result, Ok, Err, ◌-◌, ◌&&◌, nat_le, if◌then◌else◌}
use Rattle.std.specs.Io.{ReadsAtMost}
use Rattle.std.specs.Io.KnownBytes.{Appends, Consumes, Keeps, ReadConsumes}
use Rattle.std.specs.declared.io.Error.{Error}
use Rattle.std.specs.declared.io.ErrorKind.{ErrorKind}
use Rattle.std.specs.declared.io.ErrorKind.TheVariants as kinds
use Rattle.std.proofs.lemmas.Bool.Decides.{eqb_tells}
use Rattle.std.proofs.KnownBytes.{Keeps-refl}
use Rattle.std.specs.IoError.{error_kind}
use Rattle.net_hub.specs.Events.{Happening, came, ended, is_of_editor}
use Rattle.net_hub.specs.Runs.{Accepted}
use Rattle.net_hub.specs.declared.incoming.Out.{Out}
use Rattle.net_hub.specs.declared.incoming.Out.TheVariants as outs
use Rattle.net_outlet.specs.Queues.{waiting, is_clear, Sends}
use Rattle.net_connection.specs.Stages.{is_open, is_finishing, stage_answered, parted}
use Rattle.net_outlet.specs.OutletCalls.{Call, MakesCalls, sends, receives, sent_by, received_by, received_by_kind, has_come, sending_failed, has_moved, count_received}
use Rattle.net_connection.specs.Calls.{calls_behind, sendings, reading_calls, endings, is_dropped, calls_of_turn, has_departed, has_turned}
use Rattle.net_connection.specs.Events.{ArePut, AreEventsOf, piece_of, pieces_of}
use Rattle.net_connection.specs.Handing.{held_in, is_handed}
use Rattle.net_connection.specs.Pieces.{next_piece, behind_piece}
use Rattle.net_connection.specs.declared.held.Held.{Held}
use Rattle.net_hub.specs.declared.kind.Kind.{Kind}
use Rattle.net_outlet.specs.Outlets.{FailsOnlyStuck, PassesOctets, is_sending}
use Rattle.net_connection.specs.Telling.{IsAnswered, IsTold, IsToldThrough}
use Rattle.net_connection.specs.Turns.{BringAllOrNone, HandsToHub, HandsOver, LeadsByAnswer, LeadsByEnd, LeadsByPiece, LeadsByReading, LeadsByTurn, LeadsFurther, may_read, SendsOnce, ReadsOnce, Turns, TellsClosedPeer}
use Rattle.net_connection.specs.Turns.{Drains, LeadsOut, LeadsAway, Departs, stage_between, stage_drained, dropped_after, marked_after}
use Rattle.net_connection.specs.declared.connection.Connection.{Connection}
use Rattle.net_outlet.specs.declared.calls.Sent.{Sent}
use Rattle.net_outlet.specs.declared.calls.Sent.TheVariants as sents
use Rattle.net_outlet.specs.declared.calls.Received.{Received}
use Rattle.net_outlet.specs.declared.calls.Received.TheVariants as receiveds
use Rattle.net_connection.specs.declared.stage.Stage.{Stage}
use Rattle.net_connection.specs.declared.stage.Stage.TheVariants as stages
use Rattle.net_connection.specs.Ordering.{IsOnly}
use Rattle.net_connection.proofs.CallLemmas.{makes_none, makes_joined}
use Rattle.net_connection.proofs.EventLemmas.{put_joined}
use Rattle.net_connection.proofs.PassLemmas.{passes_none}
use Rattle.net_connection.proofs.OrderLemmas.{only_turn}
use Rattle.net_connection.proofs.PieceLemmas.{none_held, piece_and_rest}
use Rattle.net_connection.proofs.StuckLemmas.{stuck_behind, stuck_from, stuck_none, stuck_turned}
use Rattle.net_connection.proofs.TellLemmas.{answered_own, answered_only, answered_pieces}

kept_appends : (a b : Option (List ℕ)) → Keeps a b → Appends a b []
kept_appends None b kept = tt
kept_appends (Some x) None kept = absurd kept
kept_appends (Some x) (Some y) kept = kept ∙ sym (append-nil x)

pub kept_consumes : (a b : Option (List ℕ)) → Keeps a b → Consumes a b []
kept_consumes None b kept = tt
kept_consumes (Some x) None kept = absurd kept
kept_consumes (Some x) (Some y) kept = sym kept

appends_kept : (a b c : Option (List ℕ)) (l : List ℕ) → Appends a b l → Keeps b c → Appends a c l
appends_kept None b c l appends kept = tt
appends_kept (Some x) None c l appends kept = absurd appends
appends_kept (Some x) (Some y) None l appends kept = absurd kept
appends_kept (Some x) (Some y) (Some z) l appends kept = kept ∙ appends

kept_then_consumes : (a b c : Option (List ℕ)) (l : List ℕ) → Keeps a b → Consumes b c l → Consumes a c l
kept_then_consumes None b c l kept consumes = tt
kept_then_consumes (Some x) None c l kept consumes = absurd kept
kept_then_consumes (Some x) (Some y) None l kept consumes = absurd consumes
kept_then_consumes (Some x) (Some y) (Some z) l kept consumes = sym kept ∙ consumes

pub kept_then_appends : (a b c : Option (List ℕ)) (l : List ℕ) → Keeps a b → Appends b c l → Appends a c l
kept_then_appends None b c l kept appends = tt
kept_then_appends (Some x) None c l kept appends = absurd kept
kept_then_appends (Some x) (Some y) None l kept appends = absurd appends
kept_then_appends (Some x) (Some y) (Some z) l kept appends = appends ∙ ap (λ (k : List ℕ). k ++ l) kept

consumes_kept : (a b c : Option (List ℕ)) (l : List ℕ) → Consumes a b l → Keeps b c → Consumes a c l
consumes_kept None b c l consumes kept = tt
consumes_kept (Some x) None c l consumes kept = absurd consumes
consumes_kept (Some x) (Some y) None l consumes kept = absurd kept
consumes_kept (Some x) (Some y) (Some z) l consumes kept = consumes ∙ ap (λ (k : List ℕ). l ++ k) (sym kept)

appends_joined : (a b c : Option (List ℕ)) (l m : List ℕ) → Appends a b l → Appends b c m → Appends a c (l ++ m)
appends_joined None b c l m first more = tt
appends_joined (Some x) None c l m first more = absurd first
appends_joined (Some x) (Some y) None l m first more = absurd more
appends_joined (Some x) (Some y) (Some z) l m first more = more ∙ ap (λ (k : List ℕ). k ++ m) first ∙ append_assoc x l m

none_by_kind : (kind : ErrorKind) → count_received (received_by_kind kind) ≡ 0
none_by_kind kinds.WouldBlock = refl
none_by_kind kinds.Interrupted = refl
none_by_kind _ = refl

-- what a reading gave stands at the front of the room
pub received_gives : (a b : Option (List ℕ)) (outcome : Result ℕ Error) (room : List ℕ) → ReadConsumes a b outcome room → Consumes a b (take (count_received (received_by outcome)) room)
received_gives a b (Ok n) room reads = elim (eqb_tells n 0) [
  | inl same ↦ rw same.0 (subst (λ (k : ℕ). Consumes a b (take k room)) same.1 reads.0)
  | inr other ↦ rw other.0 reads.0
]
received_gives a b (Err error) room kept = rw (none_by_kind (error_kind error)) (kept_consumes a b kept)

pub received_within : (outcome : Result ℕ Error) (room : List ℕ) → ReadsAtMost outcome room → count_received (received_by outcome) ≤ length room
received_within (Ok n) room reads = elim (eqb_tells n 0) [
  | inl same ↦ rw same.0 (omega arith)
  | inr other ↦ rw other.0 reads.0
]
received_within (Err error) room reads = rw (none_by_kind (error_kind error)) (omega arith)

told_pieces : (what : Happening) (answer : Option Out) (events : List Accepted) → IsAnswered what answer events → BringAllOrNone (piece_of what) events
told_pieces what None events none = inr (ap pieces_of none)
told_pieces what (Some out) events one = inl (answered_pieces what out events one)

-- the first piece of some octets, which the hub accepted
pub hands_told : {T : Type 0} (taken coming : T → Option (List ℕ)) (made : T → Option (List Call)) (a b : Connection T) (octets piece : List ℕ) (out : Out) (events : List Accepted) → b.id ≡ a.id → b.may_receive ≡ a.may_receive
    → b.held.kind ≡ a.held.kind → piece ≡ next_piece a.held.kind octets → held_in b.held ≡ behind_piece a.held.kind octets → (is_open b.stage ≡ true → is_open a.stage ≡ true)
    → IsToldThrough taken coming made (came a.id piece) (Some out) a.queue b.queue a.transport b.transport events → HandsOver taken coming made octets a b events
hands_told taken coming made a b octets piece out events id marks kind is rest was_open told =
    let brought : pieces_of events ≡ next_piece a.held.kind octets = answered_pieces (came a.id piece) out events told.answered ∙ is in
    record {
      id = id;
      may_receive = marks;
      kind = kind;
      was_open = was_open;
      own = answered_own (came a.id piece) (Some out) events told.answered;
      are_turns = only_turn (came a.id piece) events tt (answered_only (came a.id piece) (Some out) events told.answered);
      put = told.put;
      are_put = told.are_put;
      passes = told.passes;
      stuck = told.stuck;
      pieces = inl brought;
      handed = λ still. ap (λ (l : List ℕ). l ++ held_in b.held) brought ∙ ap (λ (l : List ℕ). next_piece a.held.kind octets ++ l) rest ∙ piece_and_rest a.held.kind octets;
    }

-- an event that brings nothing, after which the connection is closed
pub hands_ended : {T : Type 0} (a b : Connection T) (answer : Option Out) (events : List Accepted) → b.id ≡ a.id → b.transport ≡ a.transport → b.may_receive ≡ a.may_receive
    → b.held ≡ a.held → is_open b.stage ≡ false → IsTold (ended a.id) answer a.queue b.queue events → HandsToHub [] a b events × IsOnly (ended a.id) events
hands_ended a b answer events id transport marks held closed told = (
  record {
    id = id;
    transport = transport;
    may_receive = marks;
    held = held;
    was_open = λ still. absurd (let never : true ≡ false = sym still ∙ closed in cc);
    own = answered_own (ended a.id) answer events told.answered;
    are_turns = only_turn (ended a.id) events tt (answered_only (ended a.id) answer events told.answered);
    put = told.put;
    are_put = told.are_put;
    order = told.order;
    failures = told.ends;
    pieces = told_pieces (ended a.id) answer events told.answered;
    handed = λ still. absurd (let never : true ≡ false = sym still ∙ closed in cc);
  },
  answered_only (ended a.id) answer events told.answered,
)

no_pieces : (events : List Accepted) → BringAllOrNone [] events → pieces_of events ≡ []
no_pieces events (inl is) = is
no_pieces events (inr is) = is

-- octets behind those that were passed on
passes_more : {T : Type 0} (taken coming : T → Option (List ℕ)) (made : T → Option (List Call)) (from to last : T) (x y z put more : List ℕ) → PassesOctets taken coming made from to x y put → last ≡ to → z ≡ y ++ more
    → PassesOctets taken coming made from last x z (put ++ more)
passes_more taken coming made from to last x y z put more passes still is = record {
  sent = passes.sent;
  takes = subst (λ t. Appends (taken from) (taken t) passes.sent) (sym still) passes.takes;
  order = ap (λ (l : List ℕ). passes.sent ++ l) is ∙ sym (append_assoc passes.sent y more) ∙ ap (λ (l : List ℕ). l ++ more) passes.order ∙ append_assoc x put more;
  comes = subst (λ t. Keeps (coming from) (coming t)) (sym still) passes.comes;
  within = passes.within;
  sendings = passes.sendings;
  calls = subst (λ t. MakesCalls (made from) (made t) passes.within) (sym still) passes.calls;
  lazy = λ few. passes.lazy (omega (arith, few, length-append put more));
}

-- an event by which the transport was asked nothing, where nothing is held
hands_over : {T : Type 0} (taken coming : T → Option (List ℕ)) (made : T → Option (List Call)) (a b : Connection T) (events : List Accepted) → held_in a.held ≡ [] → HandsToHub [] a b events → HandsOver taken coming made [] a b events
hands_over taken coming made a b events none hands = record {
  id = hands.id;
  may_receive = hands.may_receive;
  kind = ap (λ (h : Held). h.kind) hands.held;
  was_open = hands.was_open;
  own = hands.own;
  are_turns = hands.are_turns;
  put = hands.put;
  are_put = hands.are_put;
  passes = passes_more taken coming made a.transport a.transport b.transport (waiting a.queue) (waiting a.queue) (waiting b.queue) [] hands.put
      (passes_none taken coming made a.transport a.transport (waiting a.queue) (waiting a.queue) refl refl) hands.transport hands.order;
  stuck = stuck_none (made a.transport) (made b.transport) a.queue b.queue hands.failures;
  pieces = inr (no_pieces events hands.pieces);
  handed = λ still. ap (λ (l : List ℕ). l ++ held_in b.held) (no_pieces events hands.pieces) ∙ ap held_in hands.held ∙ none;
}

-- an event that was refused, and then the end
pub hands_refused : {T : Type 0} (refused : ℕ → Kind → Type 0) (taken coming : T → Option (List ℕ)) (made : T → Option (List Call)) (a b c : Connection T) (octets : List ℕ) (what : Happening) (es fs : List Accepted) → b.id ≡ a.id
    → b.may_receive ≡ a.may_receive
    → b.held ≡ a.held → b.queue.failures ≡ a.queue.failures → c.stage ≡ stages.Over → IsToldThrough taken coming made what None a.queue b.queue a.transport b.transport es → HandsToHub [] b c fs × IsOnly (ended b.id) fs
    → refused a.id a.held.kind → HandsOver taken coming made octets a c (es ++ fs) × LeadsByAnswer refused octets a c (es ++ fs)
hands_refused refused taken coming made a b c octets what es fs id marks held counted over told (later, only) refuses =
    let closed : is_open c.stage ≡ false = ap is_open over in
    let whole : es ++ fs ≡ fs = ap (λ (l : List Accepted). l ++ fs) told.answered in
    rw whole (
      record {
        id = later.id ∙ id;
        may_receive = later.may_receive ∙ marks;
        kind = ap (λ (h : Held). h.kind) (later.held ∙ held);
        was_open = λ still. absurd (let never : true ≡ false = sym still ∙ closed in cc);
        own = subst (λ (i : ℕ). AreEventsOf i fs) id later.own;
        are_turns = later.are_turns;
        put = told.put ++ later.put;
        are_put = subst (λ (l : List Accepted). ArePut l (told.put ++ later.put)) whole (put_joined es fs told.put later.put told.are_put later.are_put);
        passes = passes_more taken coming made a.transport b.transport c.transport (waiting a.queue) (waiting b.queue) (waiting c.queue) told.put later.put told.passes later.transport later.order;
        stuck = stuck_none (made a.transport) (made c.transport) a.queue c.queue (later.failures ∙ counted);
        pieces = inr (no_pieces fs later.pieces);
        handed = λ still. absurd (let never : true ≡ false = sym still ∙ closed in cc);
      },
      inr (refuses, subst (λ (i : ℕ). IsOnly (ended i) fs) id only, over),
    )

-- octets of which the hub answered the first piece
pub leads_answered : {T : Type 0} (refused : ℕ → Kind → Type 0) (a b : Connection T) (octets piece : List ℕ) (out : Out) (events : List Accepted) → piece ≡ next_piece a.held.kind octets → held_in b.held ≡ behind_piece a.held.kind octets
    → b.stage ≡ stage_answered out a.stage → IsAnswered (came a.id piece) (Some out) events → LeadsByAnswer refused octets a b events
leads_answered refused a b octets piece out events first rest stage (one, is, same, told) =
    inl (one, is, same ∙ ap (λ (l : List ℕ). came a.id l) first, rest, stage ∙ ap (λ (o : Out). stage_answered o a.stage) (sym told))

-- only an open connection goes on
pub answered_open : (out : Out) (before : Stage) → is_open (stage_answered out before) ≡ true → is_open before ≡ true
answered_open outs.More before still = still
answered_open outs.Close before still = cc

-- nothing has changed but how far the connection has come
pub hands_closed : {T : Type 0} (a b c : Connection T) (octets : List ℕ) (events : List Accepted) → c.id ≡ b.id → c.transport ≡ b.transport → c.may_receive ≡ b.may_receive → c.held ≡ b.held → c.queue ≡ b.queue → is_open c.stage ≡ false
    → HandsToHub octets a b events → HandsToHub octets a c events
hands_closed a b c octets events id transport marks held queue closed hands = record {
  id = id ∙ hands.id;
  transport = transport ∙ hands.transport;
  may_receive = marks ∙ hands.may_receive;
  held = held ∙ hands.held;
  was_open = λ still. absurd (let never : true ≡ false = sym still ∙ closed in cc);
  own = hands.own;
  are_turns = hands.are_turns;
  put = hands.put;
  are_put = hands.are_put;
  order = ap waiting queue ∙ hands.order;
  failures = ap (λ q. q.failures) queue ∙ hands.failures;
  pieces = hands.pieces;
  handed = λ still. absurd (let never : true ≡ false = sym still ∙ closed in cc);
}

-- a front of what waited was sent, by one call
pub sends_once : {T : Type 0} (taken coming : T → Option (List ℕ)) (made : T → Option (List Call)) (a b : Connection T) (outcome : Result ℕ Error)
    → b.id ≡ a.id → b.stage ≡ a.stage → b.may_receive ≡ a.may_receive → b.held ≡ a.held → b.dropped ≡ a.dropped → b.queue.failures ≡ a.queue.failures → b.queue.refused ≡ a.queue.refused → is_clear a.queue ≡ false
    → Sends outcome a.queue b.queue (taken a.transport) (taken b.transport) → Keeps (coming a.transport) (coming b.transport) → MakesCalls (made a.transport) (made b.transport) (sends (length (waiting a.queue)) (sent_by outcome) ∷ [])
    → SendsOnce taken coming made a b (sent_by outcome)
sends_once taken coming made a b (Ok n) id stage marks held dropped failures refused clear took comes calls = record {
  id = id;
  stage = stage;
  may_receive = marks;
  held = held;
  dropped = dropped;
  failures = failures;
  refused = ap (λ t. length t.octets) refused;
  sent = take n (waiting a.queue);
  takes = took.1;
  order = ap (λ (l : List ℕ). take n (waiting a.queue) ++ l) took.2 ∙ take-append-drop n (waiting a.queue);
  comes = comes;
  calls = rw clear calls;
  idle = λ is. absurd (let never : true ≡ false = sym is ∙ clear in cc);
}
sends_once taken coming made a b (Err error) id stage marks held dropped failures refused clear took comes calls = record {
  id = id;
  stage = stage;
  may_receive = marks;
  held = held;
  dropped = dropped;
  failures = failures;
  refused = ap (λ t. length t.octets) refused;
  sent = [];
  takes = kept_appends _ _ took.0;
  order = took.1;
  comes = comes;
  calls = rw clear calls;
  idle = λ is. absurd (let never : true ≡ false = sym is ∙ clear in cc);
}

-- nothing waited
pub sends_none : {T : Type 0} (taken coming : T → Option (List ℕ)) (made : T → Option (List Call)) (a : Connection T) → is_clear a.queue ≡ true → SendsOnce taken coming made a a sents.Nothing
sends_none taken coming made a clear = record {
  id = refl;
  stage = refl;
  may_receive = refl;
  held = refl;
  dropped = refl;
  failures = refl;
  refused = refl;
  sent = [];
  takes = kept_appends _ _ (Keeps-refl (taken a.transport));
  order = refl;
  comes = Keeps-refl (coming a.transport);
  calls = rw clear (makes_none (made a.transport));
  idle = λ is. refl;
}

-- where an answer leads is told of what was before it
pub answer_from : {T : Type 0} (refused : ℕ → Kind → Type 0) (a b c : Connection T) (octets : List ℕ) (events : List Accepted) → b.id ≡ a.id → b.stage ≡ a.stage → b.held.kind ≡ a.held.kind
    → LeadsByAnswer refused octets b c events → LeadsByAnswer refused octets a c events
answer_from refused a b c octets events id stage kind (inl (one, is, same, rest, led)) =
    inl (
      one,
      is,
      same ∙ ap (λ (i : ℕ). came i (next_piece b.held.kind octets)) id ∙ ap (λ (k : Kind). came a.id (next_piece k octets)) kind,
      rest ∙ ap (λ (k : Kind). behind_piece k octets) kind,
      led ∙ ap (λ (s : Stage). stage_answered one.out s) stage,
    )
answer_from refused a b c octets events id stage kind (inr (refuses, only, over)) =
    inr (subst (λ (i : ℕ). refused i a.held.kind) id (subst (λ (k : Kind). refused b.id k) kind refuses), subst (λ (i : ℕ). IsOnly (ended i) events) id only, over)

-- and so is where a piece leads that may be held back
pub piece_from : {T : Type 0} (refused : ℕ → Kind → Type 0) (a b c : Connection T) (octets : List ℕ) (events : List Accepted) → b.id ≡ a.id → b.stage ≡ a.stage → b.held.kind ≡ a.held.kind
    → LeadsByPiece refused octets b c events → LeadsByPiece refused octets a c events
piece_from refused a b c octets events id stage kind (inl answer) = inl (answer_from refused a b c octets events id stage kind answer)
piece_from refused a b c octets events id stage kind (inr (editor, none, held, same)) = inr (ap is_of_editor (sym kind) ∙ editor, none, held, same ∙ stage)

-- and so is where a reading leads
leads_from : {T : Type 0} (refused : ℕ → Kind → Type 0) (a b c : Connection T) (reading : Received) (octets : List ℕ) (events : List Accepted) → b.id ≡ a.id → b.stage ≡ a.stage → b.may_receive ≡ a.may_receive → b.held ≡ a.held
    → LeadsByReading refused reading octets b c events → LeadsByReading refused reading octets a c events
leads_from refused a b c receiveds.Nothing octets events id stage marks held ((none, same, kept), still) = ((none, same ∙ stage, kept ∙ ap held_in held), still)
leads_from refused a b c receiveds.Interrupted octets events id stage marks held ((none, same, kept), still) = ((none, same ∙ stage, kept ∙ ap held_in held), still ∙ marks)
leads_from refused a b c (receiveds.Octets count) octets events id stage marks held (answer, marked) =
    (piece_from refused a b c octets events id stage (ap (λ (h : Held). h.kind) held) answer, marked ∙ marks)
leads_from refused a b c receiveds.End octets events id stage marks held leads = (subst (λ (i : ℕ). IsOnly (ended i) events) id leads.0, leads.1)
leads_from refused a b c receiveds.Failed octets events id stage marks held leads = (subst (λ (i : ℕ). IsOnly (ended i) events) id leads.0, leads.1)

-- octets came, or an end, and the hub was told
pub reads_handed : {T : Type 0} {refused : ℕ → Kind → Type 0} (taken coming : T → Option (List ℕ)) (made : T → Option (List Call)) (a b c : Connection T) (reading : Received) (octets : List ℕ) (events : List Accepted)
    → b.id ≡ a.id → b.stage ≡ a.stage → b.queue ≡ a.queue → b.held.kind ≡ a.held.kind → a.may_receive ≡ true → Keeps (taken a.transport) (taken b.transport) → Consumes (coming a.transport) (coming b.transport) octets
    → MakesCalls (made a.transport) (made b.transport) (receives 65536 reading ∷ []) → HandsOver taken coming made octets b c events → LeadsByReading refused reading octets a c events → ReadsOnce taken coming made refused a c reading events
reads_handed {refused = refused} taken coming made a b c reading octets events id stage queue kind marked took comes calls hands leads = record {
  id = hands.id ∙ id;
  kind = hands.kind ∙ kind;
  was_open = λ still. ap is_open (sym stage) ∙ hands.was_open still;
  own = subst (λ (i : ℕ). AreEventsOf i events) id hands.own;
  are_turns = hands.are_turns;
  sent = hands.passes.sent;
  takes = kept_then_appends _ _ _ hands.passes.sent took hands.passes.takes;
  put = hands.put;
  are_put = hands.are_put;
  order = hands.passes.order ∙ ap (λ q. waiting q ++ hands.put) queue;
  received = octets;
  gives = consumes_kept _ _ _ octets comes hands.passes.comes;
  pieces = subst (λ (k : Kind). BringAllOrNone (next_piece k octets) events) kind hands.pieces;
  handed = hands.handed;
  within = hands.passes.within;
  sendings = hands.passes.sendings;
  calls = rw marked (makes_joined _ _ _ (receives 65536 reading ∷ []) hands.passes.within calls hands.passes.calls);
  stuck = rw marked (stuck_behind (made a.transport) (made b.transport) (made c.transport) (receives 65536 reading ∷ []) a.queue c.queue calls
      (stuck_from (made b.transport) (made c.transport) a.queue b.queue c.queue (ap (λ q. q.failures) queue) (ap (λ q. length q.refused.octets) queue) hands.stuck));
  lazy = λ few. hands.passes.lazy (subst (λ q. length (waiting q) + length hands.put < 1048576) (sym queue) few);
  unmarked = λ isnt. absurd (let never : true ≡ false = sym marked ∙ isnt in cc);
  leads = leads;
}

-- an end came, or a failure
pub reads_still : {T : Type 0} {refused : ℕ → Kind → Type 0} (taken coming : T → Option (List ℕ)) (made : T → Option (List Call)) (a b c : Connection T) (reading : Received) (events : List Accepted)
    → b ≡ record a { transport = b.transport } → held_in a.held ≡ [] → a.may_receive ≡ true → Keeps (taken a.transport) (taken b.transport) → Consumes (coming a.transport) (coming b.transport) []
    → MakesCalls (made a.transport) (made b.transport) (receives 65536 reading ∷ []) → HandsToHub [] b c events → LeadsByReading refused reading [] b c events → ReadsOnce taken coming made refused a c reading events
reads_still {refused = refused} taken coming made a b c reading events same none marked took comes calls hands leads =
    let id : b.id ≡ a.id = ap (λ it. it.id) same in
    let stage : b.stage ≡ a.stage = ap (λ it. it.stage) same in
    let marks : b.may_receive ≡ a.may_receive = ap (λ it. it.may_receive) same in
    let queue : b.queue ≡ a.queue = ap (λ it. it.queue) same in
    let held : b.held ≡ a.held = ap (λ it. it.held) same in
    reads_handed taken coming made a b c reading [] events id stage queue (ap (λ (h : Held). h.kind) held) marked took comes calls
    (hands_over taken coming made b c events (ap held_in held ∙ none) hands) (leads_from refused a b c reading [] events id stage marks held leads)

-- nothing came
pub reads_none : {T : Type 0} {refused : ℕ → Kind → Type 0} (taken coming : T → Option (List ℕ)) (made : T → Option (List Call)) (a b : Connection T) (reading : Received) → b.id ≡ a.id → b.stage ≡ a.stage → b.queue ≡ a.queue
    → b.held ≡ a.held → held_in a.held ≡ [] → Keeps (taken a.transport) (taken b.transport) → Consumes (coming a.transport) (coming b.transport) [] → MakesCalls (made a.transport) (made b.transport) (reading_calls a.may_receive reading)
    → (a.may_receive ≡ false → reading ≡ receiveds.Nothing) → LeadsByReading refused reading [] a b [] → ReadsOnce taken coming made refused a b reading []
reads_none taken coming made a b reading id stage queue held none took comes calls unmarked leads = record {
  id = id;
  kind = ap (λ (h : Held). h.kind) held;
  was_open = λ still. ap is_open (sym stage) ∙ still;
  own = tt;
  are_turns = tt;
  sent = [];
  takes = kept_appends _ _ took;
  put = [];
  are_put = refl;
  order = ap waiting queue ∙ sym (append-nil (waiting a.queue));
  received = [];
  gives = comes;
  pieces = inr refl;
  handed = λ _. ap held_in held ∙ none;
  within = [];
  sendings = All-nil (λ call. is_sending call ≡ true);
  calls = subst (λ (l : List Call). MakesCalls (made a.transport) (made b.transport) l) (sym (append-nil (reading_calls a.may_receive reading))) calls;
  stuck = stuck_none (calls_behind (made a.transport) (reading_calls a.may_receive reading)) (made b.transport) a.queue b.queue (ap (λ q. q.failures) queue);
  lazy = λ few. (refl, refl);
  unmarked = unmarked;
  leads = leads;
}

pub leads_by_turn : {T : Type 0} (refused : ℕ → Kind → Type 0) (a c : Connection T) (sending : Sent) (reading : Received) (octets : List ℕ) (events : List Accepted) → sending ≢ sents.Failed
    → LeadsFurther (is_handed a.held) refused reading octets a c events → LeadsByTurn refused sending reading octets a c events
leads_by_turn refused a c sents.Nothing reading octets events well leads = leads
leads_by_turn refused a c sents.Interrupted reading octets events well leads = leads
leads_by_turn refused a c sents.Some reading octets events well leads = leads
leads_by_turn refused a c sents.Failed reading octets events well leads = absurd (well refl)

pub calls_of_both : (a b c : Option (List Call)) (count : ℕ) (may : Bool) (sending : Sent) (reading : Received) (within : List Call) → sending ≢ sents.Failed → MakesCalls a b (sendings count sending)
    → MakesCalls b c (reading_calls may reading ++ within)
    → MakesCalls a c (calls_of_turn count may sending reading ++ within)
calls_of_both a b c count may sents.Nothing reading within well first later =
    subst (λ (l : List Call). MakesCalls a c l) (sym (append_assoc (sendings count sents.Nothing) (reading_calls may reading) within)) (makes_joined a b c (sendings count sents.Nothing) (reading_calls may reading ++ within) first later)
calls_of_both a b c count may sents.Interrupted reading within well first later =
    subst (λ (l : List Call). MakesCalls a c l) (sym (append_assoc (sendings count sents.Interrupted) (reading_calls may reading) within))
    (makes_joined a b c (sendings count sents.Interrupted) (reading_calls may reading ++ within) first later)
calls_of_both a b c count may sents.Some reading within well first later =
    subst (λ (l : List Call). MakesCalls a c l) (sym (append_assoc (sendings count sents.Some) (reading_calls may reading) within)) (makes_joined a b c (sendings count sents.Some) (reading_calls may reading ++ within) first later)
calls_of_both a b c count may sents.Failed reading within well first later = absurd (well refl)

-- a sending, and then a reading, where nothing was held
pub turns_read : {T : Type 0} {refused : ℕ → Kind → Type 0} (taken coming : T → Option (List ℕ)) (made : T → Option (List Call)) (a b c : Connection T) (sending : Sent) (reading : Received) (events : List Accepted) → sending ≢ sents.Failed
    → is_handed b.held ≡ true → c.dropped ≡ b.dropped → SendsOnce taken coming made a b sending → ReadsOnce taken coming made refused b c reading events → (moved : Bool) → moved ≡ has_moved sending reading
    → Turns taken coming made refused a c moved events
turns_read {refused = refused} taken coming made a b c sending reading events well all stays first later moved is =
    let empty : is_handed a.held ≡ true = ap is_handed (sym first.held) ∙ all in
    let none : held_in a.held ≡ [] = none_held a.held empty in
    let may : may_read a ≡ a.may_receive = ap (λ (e : Bool). e && a.may_receive) empty in
    let kind : b.held.kind ≡ a.held.kind = ap (λ (h : Held). h.kind) first.held in
    let whole : later.received ≡ held_in a.held ++ later.received = ap (λ (l : List ℕ). l ++ later.received) (sym none) in
    record {
      has_moved = is ∙ ap (λ (e : Bool). has_turned e sending reading) (sym empty);
      dropped = stays ∙ first.dropped;
      id = later.id ∙ first.id;
      kind = later.kind ∙ kind;
      was_open = λ still. ap is_open (sym first.stage) ∙ later.was_open still;
      own = subst (λ (i : ℕ). AreEventsOf i events) first.id later.own;
      are_turns = later.are_turns;
      sent = first.sent ++ later.sent;
      takes = appends_joined _ _ _ first.sent later.sent first.takes later.takes;
      put = later.put;
      are_put = later.are_put;
      order = append_assoc first.sent later.sent (waiting c.queue) ∙ ap (λ (l : List ℕ). first.sent ++ l) later.order ∙ sym (append_assoc first.sent (waiting b.queue) later.put)
          ∙ ap (λ (l : List ℕ). l ++ later.put) first.order;
      received = later.received;
      gives = kept_then_consumes _ _ _ later.received first.comes later.gives;
      pieces = subst (λ (l : List ℕ). BringAllOrNone (next_piece a.held.kind l) events) whole (subst (λ (k : Kind). BringAllOrNone (next_piece k later.received) events) kind later.pieces);
      handed = λ still. later.handed still ∙ whole;
      sending = sending;
      reading = reading;
      within = later.within;
      sendings = later.sendings;
      calls = subst (λ (m : Bool). MakesCalls (made a.transport) (made c.transport) (calls_of_turn (length (waiting a.queue)) m sending reading ++ later.within)) (sym may)
          (calls_of_both _ _ _ (length (waiting a.queue)) a.may_receive sending reading later.within well first.calls
          (subst (λ (m : Bool). MakesCalls (made b.transport) (made c.transport) (reading_calls m reading ++ later.within)) first.may_receive later.calls));
      stuck = subst (λ (m : Bool). FailsOnlyStuck (calls_behind (made a.transport) (calls_of_turn (length (waiting a.queue)) m sending reading)) (made c.transport) a.queue c.queue) (sym may)
          (stuck_turned _ _ _ (length (waiting a.queue)) a.may_receive sending reading a.queue c.queue well first.calls (stuck_from _ _ a.queue b.queue c.queue first.failures first.refused
          (subst (λ (m : Bool). FailsOnlyStuck (calls_behind (made b.transport) (reading_calls m reading)) (made c.transport) b.queue c.queue) first.may_receive later.stuck)));
      lazy = λ few. (later.lazy (omega (arith, few, ap length first.order, length-append first.sent (waiting b.queue)))).1;
      idle = first.idle;
      unmarked = λ isnt. later.unmarked (first.may_receive ∙ sym may ∙ isnt);
      leads = leads_by_turn refused a c sending reading later.received events well (subst (λ (e : Bool). LeadsFurther e refused reading later.received a c events) (sym empty)
          (leads_from refused a b c reading later.received events first.id first.stage first.may_receive first.held later.leads));
    }

-- a sending, and then the next piece of what was held
pub turns_handed : {T : Type 0} {refused : ℕ → Kind → Type 0} (taken coming : T → Option (List ℕ)) (made : T → Option (List Call)) (a b c : Connection T) (sending : Sent) (events : List Accepted) → sending ≢ sents.Failed
    → is_handed b.held ≡ false → c.dropped ≡ b.dropped → SendsOnce taken coming made a b sending → HandsOver taken coming made (held_in b.held) b c events × LeadsByPiece refused (held_in b.held) b c events
    → Turns taken coming made refused a c true events
turns_handed {refused = refused} taken coming made a b c sending events well some stays first (hands, leads) =
    let left : is_handed a.held ≡ false = ap is_handed (sym first.held) ∙ some in
    let may : may_read a ≡ false = ap (λ (e : Bool). e && a.may_receive) left in
    let kind : b.held.kind ≡ a.held.kind = ap (λ (h : Held). h.kind) first.held in
    let whole : held_in b.held ≡ held_in a.held ++ [] = ap held_in first.held ∙ sym (append-nil (held_in a.held)) in
    record {
      has_moved = ap (λ (e : Bool). has_turned e sending receiveds.Nothing) (sym left);
      dropped = stays ∙ first.dropped;
      id = hands.id ∙ first.id;
      kind = hands.kind ∙ kind;
      was_open = λ still. ap is_open (sym first.stage) ∙ hands.was_open still;
      own = subst (λ (i : ℕ). AreEventsOf i events) first.id hands.own;
      are_turns = hands.are_turns;
      sent = first.sent ++ hands.passes.sent;
      takes = appends_joined _ _ _ first.sent hands.passes.sent first.takes hands.passes.takes;
      put = hands.put;
      are_put = hands.are_put;
      order = append_assoc first.sent hands.passes.sent (waiting c.queue) ∙ ap (λ (l : List ℕ). first.sent ++ l) hands.passes.order ∙ sym (append_assoc first.sent (waiting b.queue) hands.put)
          ∙ ap (λ (l : List ℕ). l ++ hands.put) first.order;
      received = [];
      gives = kept_then_consumes _ _ _ [] first.comes (kept_consumes _ _ hands.passes.comes);
      pieces = subst (λ (l : List ℕ). BringAllOrNone (next_piece a.held.kind l) events) whole (subst (λ (k : Kind). BringAllOrNone (next_piece k (held_in b.held)) events) kind hands.pieces);
      handed = λ still. hands.handed still ∙ whole;
      sending = sending;
      reading = receiveds.Nothing;
      within = hands.passes.within;
      sendings = hands.passes.sendings;
      calls = subst (λ (m : Bool). MakesCalls (made a.transport) (made c.transport) (calls_of_turn (length (waiting a.queue)) m sending receiveds.Nothing ++ hands.passes.within)) (sym may)
          (calls_of_both _ _ _ (length (waiting a.queue)) false sending receiveds.Nothing hands.passes.within well first.calls hands.passes.calls);
      stuck = subst (λ (m : Bool). FailsOnlyStuck (calls_behind (made a.transport) (calls_of_turn (length (waiting a.queue)) m sending receiveds.Nothing)) (made c.transport) a.queue c.queue) (sym may)
          (stuck_turned (made a.transport) (made b.transport) (made c.transport) (length (waiting a.queue)) false sending receiveds.Nothing a.queue c.queue well first.calls
          (stuck_behind (made b.transport) (made b.transport) (made c.transport) [] a.queue c.queue (makes_none (made b.transport))
          (stuck_from _ _ a.queue b.queue c.queue first.failures first.refused hands.stuck)));
      lazy = λ few. (hands.passes.lazy (omega (arith, few, ap length first.order, length-append first.sent (waiting b.queue)))).1;
      idle = first.idle;
      unmarked = λ isnt. refl;
      leads = leads_by_turn refused a c sending receiveds.Nothing [] events well (subst (λ (e : Bool). LeadsFurther e refused receiveds.Nothing [] a c events) (sym left) (
        piece_from refused a b c (held_in a.held) events first.id first.stage kind (subst (λ (h : Held). LeadsByPiece refused (held_in h) b c events) first.held leads),
        refl,
        hands.may_receive ∙ first.may_receive,
      ));
    }

turned_failed : (e : Bool) → true ≡ has_turned e sents.Failed receiveds.Nothing
turned_failed true = refl
turned_failed false = refl

-- a sending that failed, and then the hub was told the end
pub turns_failed : {T : Type 0} {refused : ℕ → Kind → Type 0} (taken coming : T → Option (List ℕ)) (made : T → Option (List Call)) (a b c : Connection T) (sending : Sent) (events : List Accepted) → sending ≡ sents.Failed
    → c.dropped ≡ b.dropped → SendsOnce taken coming made a b sending → c.stage ≡ stages.Over → HandsToHub [] b c events × IsOnly (ended b.id) events → Turns taken coming made refused a c true events
turns_failed taken coming made a b c sending events failed stays first over (hands, only) = record {
  has_moved = turned_failed (is_handed a.held);
  dropped = stays ∙ first.dropped;
  id = hands.id ∙ first.id;
  kind = ap (λ (h : Held). h.kind) (hands.held ∙ first.held);
  was_open = λ still. ap is_open (sym first.stage) ∙ hands.was_open still;
  own = subst (λ (i : ℕ). AreEventsOf i events) first.id hands.own;
  are_turns = hands.are_turns;
  sent = first.sent;
  takes = subst (λ t. Appends (taken a.transport) (taken t) first.sent) (sym hands.transport) first.takes;
  put = hands.put;
  are_put = hands.are_put;
  order = ap (λ (l : List ℕ). first.sent ++ l) hands.order ∙ sym (append_assoc first.sent (waiting b.queue) hands.put) ∙ ap (λ (l : List ℕ). l ++ hands.put) first.order;
  received = [];
  gives = kept_consumes _ _ (subst (λ t. Keeps (coming a.transport) (coming t)) (sym hands.transport) first.comes);
  pieces = inr (no_pieces events hands.pieces);
  handed = λ still. absurd (let never : true ≡ false = sym still ∙ ap is_open over in cc);
  sending = sents.Failed;
  reading = receiveds.Nothing;
  within = [];
  sendings = All-nil (λ call. is_sending call ≡ true);
  calls = subst (λ (l : List Call). MakesCalls (made a.transport) (made c.transport) l) (sym (append-nil (sendings (length (waiting a.queue)) sents.Failed)))
      (subst (λ t. MakesCalls (made a.transport) (made t) (sendings (length (waiting a.queue)) sents.Failed)) (sym hands.transport)
      (subst (λ (s : Sent). MakesCalls (made a.transport) (made b.transport) (sendings (length (waiting a.queue)) s)) failed first.calls));
  stuck = stuck_none _ _ a.queue c.queue (hands.failures ∙ first.failures);
  lazy = λ few. refl;
  idle = λ is. sym failed ∙ first.idle is;
  unmarked = λ isnt. refl;
  leads = (subst (λ (i : ℕ). IsOnly (ended i) events) first.id only, over);
}

closed_between : (clear : Bool) (before : Stage) (told : Bool) → is_open before ≡ false → is_open (stage_between clear before told) ≡ false
closed_between false before told closed = closed
closed_between true stages.Open told closed = closed
closed_between true stages.Closing true closed = refl
closed_between true stages.Closing false closed = refl
closed_between true stages.Parting told closed = refl
closed_between true stages.Draining told closed = refl
closed_between true stages.Over told closed = refl

closed_by_count : (b : Bool) → is_open (if b then stages.Draining else stages.Over) ≡ false
closed_by_count true = refl
closed_by_count false = refl

closed_drained : (is_read : Bool) (most : ℕ) (reading : Received) (before : Stage) → is_open before ≡ false → is_open (stage_drained is_read most reading before) ≡ false
closed_drained false most reading before closed = closed
closed_drained true most receiveds.Nothing before closed = refl
closed_drained true most receiveds.Interrupted before closed = refl
closed_drained true most (receiveds.Octets count) before closed = closed_by_count (nat_le count most)
closed_drained true most receiveds.End before closed = refl
closed_drained true most receiveds.Failed before closed = refl

leads_away : {T : Type 0} (made : T → Option (List Call)) (a d : Connection T) (sending : Sent) (told : Bool) (reading : Received) → sending ≢ sents.Failed
    → LeadsOut made sending told reading a d → LeadsAway made sending told reading a d
leads_away made a d sents.Nothing told reading well leads = leads
leads_away made a d sents.Interrupted told reading well leads = leads
leads_away made a d sents.Some told reading well leads = leads
leads_away made a d sents.Failed told reading well leads = absurd (well refl)

not_both : (b : Bool) → (b ≡ true → sents.Failed ≡ sents.Nothing) → b ≡ false
not_both true idle = cc (idle refl)
not_both false idle = refl

-- a sending that failed was made
only_failed : {T : Type 0} {taken coming : T → Option (List ℕ)} (made : T → Option (List Call)) (a b : Connection T) (sending : Sent) → sending ≡ sents.Failed → SendsOnce taken coming made a b sending
    → MakesCalls (made a.transport) (made b.transport) (sends (length (waiting a.queue)) sents.Failed ∷ [])
only_failed made a b sending failed first =
    let waits : is_clear a.queue ≡ false = not_both (is_clear a.queue) (λ is. sym failed ∙ first.idle is) in
    let calls : MakesCalls (made a.transport) (made b.transport) (sendings (length (waiting a.queue)) sents.Failed)
    = subst (λ (s : Sent). MakesCalls (made a.transport) (made b.transport) (sendings (length (waiting a.queue)) s)) failed first.calls in
    rw waits at calls

-- a sending that didn't fail, and what comes after it
pub departs_whole : {T : Type 0} (taken coming : T → Option (List ℕ)) (made : T → Option (List Call)) (a b c d : Connection T) (sending : Sent) (finishing dropping moved : Bool) → sending ≢ sents.Failed
    → SendsOnce taken coming made a b sending → TellsClosedPeer taken coming made b c finishing → Drains taken coming made c d dropping → moved ≡ has_departed sending finishing dropping → Departs taken coming made a d moved
departs_whole taken coming made a b c d sending finishing dropping moved well first between last is =
    let queue : d.queue ≡ b.queue = last.queue ∙ between.queue in
    let clear : is_clear b.queue ≡ is_clear d.queue = ap is_clear (sym queue) in
    let stage : c.stage ≡ stage_between (is_clear d.queue) a.stage between.is_told
    = between.stage ∙ ap (λ (s : Stage). stage_between (is_clear b.queue) s between.is_told) first.stage ∙ ap (λ (e : Bool). stage_between e a.stage between.is_told) clear in
    let marks : c.may_receive ≡ a.may_receive = between.may_receive ∙ first.may_receive in
    let dropped : c.dropped ≡ a.dropped = between.dropped ∙ first.dropped in
    let is_read : is_dropped c.stage c.may_receive ≡ is_dropped (stage_between (is_clear d.queue) a.stage between.is_told) a.may_receive
    = ap (λ (s : Stage). is_dropped s c.may_receive) stage ∙ ap (λ (m : Bool). is_dropped (stage_between (is_clear d.queue) a.stage between.is_told) m) marks in
    let told : MakesCalls (made b.transport) (made c.transport) (endings (is_clear d.queue) a.stage between.is_told)
    = subst (λ (e : Bool). MakesCalls (made b.transport) (made c.transport) (endings e a.stage between.is_told)) clear
    (subst (λ (s : Stage). MakesCalls (made b.transport) (made c.transport) (endings (is_clear b.queue) s between.is_told)) first.stage between.calls) in
    let read : MakesCalls (made c.transport) (made d.transport) (reading_calls (is_dropped (stage_between (is_clear d.queue) a.stage between.is_told) a.may_receive) last.reading)
    = subst (λ (e : Bool). MakesCalls (made c.transport) (made d.transport) (reading_calls e last.reading)) is_read last.calls in
    record {
      has_moved = is ∙ ap (λ (e : Bool). has_departed sending e dropping) (between.has_moved ∙ ap (λ (e : Bool). e && is_finishing b.stage) clear ∙ ap (λ (s : Stage). is_clear d.queue && is_finishing s) first.stage)
          ∙ ap (λ (e : Bool). has_departed sending (is_clear d.queue && is_finishing a.stage) e) (last.has_moved ∙ ap (λ (e : Bool). e && has_come last.reading) is_read);
      id = last.id ∙ between.id ∙ first.id;
      closed = λ was. ap is_open last.stage ∙ closed_drained (is_dropped c.stage c.may_receive) (84_934_656 - c.dropped) last.reading c.stage (ap is_open stage ∙ closed_between (is_clear d.queue) a.stage between.is_told was);
      sent = first.sent;
      takes = appends_kept _ _ _ first.sent (appends_kept _ _ _ first.sent first.takes between.takes) last.takes;
      order = ap (λ q. first.sent ++ waiting q) queue ∙ first.order;
      received = last.received;
      gives = kept_then_consumes _ _ _ last.received first.comes (kept_then_consumes _ _ _ last.received between.comes last.gives);
      sending = sending;
      is_told = between.is_told;
      reading = last.reading;
      idle = first.idle;
      leads = leads_away made a d sending between.is_told last.reading well (
        makes_joined _ _ _ _ _ first.calls (makes_joined _ _ _ _ _ told read),
        last.stage ∙ ap (λ (s : Stage). stage_drained (is_dropped c.stage c.may_receive) (84_934_656 - c.dropped) last.reading s) stage
            ∙ ap (λ (e : Bool). stage_drained e (84_934_656 - c.dropped) last.reading (stage_between (is_clear d.queue) a.stage between.is_told)) is_read
            ∙ ap (λ (n : ℕ). stage_drained (is_dropped (stage_between (is_clear d.queue) a.stage between.is_told) a.may_receive) (84_934_656 - n) last.reading (stage_between (is_clear d.queue) a.stage between.is_told)) dropped,
        last.dropped ∙ ap (λ (e : Bool). dropped_after e last.reading c.dropped) is_read
            ∙ ap (λ (n : ℕ). dropped_after (is_dropped (stage_between (is_clear d.queue) a.stage between.is_told) a.may_receive) last.reading n) dropped,
        last.may_receive ∙ ap (λ (e : Bool). marked_after e last.reading c.may_receive) is_read
            ∙ ap (λ (m : Bool). marked_after (is_dropped (stage_between (is_clear d.queue) a.stage between.is_told) a.may_receive) last.reading m) marks,
      );
    }

-- a sending that failed
pub departs_failed : {T : Type 0} (taken coming : T → Option (List ℕ)) (made : T → Option (List Call)) (a b : Connection T) (sending : Sent) → sending ≡ sents.Failed
    → SendsOnce taken coming made a b sending → Departs taken coming made a (record b { stage = stages.Over }) true
departs_failed taken coming made a b sending failed first = record {
  has_moved = refl;
  id = first.id;
  closed = λ was. refl;
  sent = first.sent;
  takes = first.takes;
  order = first.order;
  received = [];
  gives = kept_consumes _ _ first.comes;
  sending = sents.Failed;
  is_told = false;
  reading = receiveds.Nothing;
  idle = λ is. sym failed ∙ first.idle is;
  leads = (only_failed made a b sending failed first, refl);
}

parted_closed : (clear : Bool) → is_open (parted clear) ≡ false
parted_closed true = refl
parted_closed false = refl

-- the hub was told the end, and what waits is still sent
pub hands_parted : {T : Type 0} (a b c : Connection T) (events : List Accepted) → c.id ≡ b.id → c.transport ≡ b.transport → c.may_receive ≡ b.may_receive → c.held ≡ b.held → c.queue ≡ b.queue → c.stage ≡ parted (is_clear b.queue)
    → HandsToHub [] a b events × IsOnly (ended a.id) events → HandsToHub [] a c events × LeadsByEnd (parted (is_clear c.queue)) a c events
hands_parted a b c events id transport marks held queue stage (hands, only) = (
  hands_closed a b c [] events id transport marks held queue (ap is_open stage ∙ parted_closed (is_clear b.queue)) hands,
  (only, stage ∙ ap (λ q. parted (is_clear q)) (sym queue)),
)

pub failed_is : (sending : Sent) → sending_failed sending ≡ true → sending ≡ sents.Failed
failed_is sents.Nothing failed = cc
failed_is sents.Interrupted failed = cc
failed_is sents.Some failed = cc
failed_is sents.Failed failed = refl

pub well_isnt : (sending : Sent) → sending_failed sending ≡ false → sending ≢ sents.Failed
well_isnt sending well is = let never : true ≡ false = ap sending_failed (sym is) ∙ well in cc

-- where nothing was done, nothing came
pub nothing_came : (sending : Sent) (reading : Received) → has_moved sending reading ≡ false → reading ≡ receiveds.Nothing
nothing_came sents.Nothing receiveds.Nothing still = refl
nothing_came sents.Nothing receiveds.Interrupted still = cc
nothing_came sents.Nothing (receiveds.Octets count) still = cc
nothing_came sents.Nothing receiveds.End still = cc
nothing_came sents.Nothing receiveds.Failed still = cc
nothing_came sents.Interrupted reading still = cc
nothing_came sents.Some reading still = cc
nothing_came sents.Failed reading still = cc
