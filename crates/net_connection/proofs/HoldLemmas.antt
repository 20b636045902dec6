-- Octets that are held back, or handed behind what a desk is asked.
use Rattle.std.proofs.Common.{◌≡◌, ℕ, true, List, [], ◌∷◌, ◌++◌, refl, sym, ap, ◌∙◌, subst, append-nil, length, inl, inr}
use Rattle.std.specs.Prelude.{Option}
use Rattle.std.specs.Io.KnownBytes.{Consumes, Keeps}
use Rattle.dict_catalogue.specs.Steps.{Catalogue}
use Rattle.net_hub.specs.Events.{is_of_editor}
use Rattle.net_hub.specs.Runs.{Accepted, State, IsAt}
use Rattle.net_hub.specs.declared.fault.HubFault.{HubFault}
use Rattle.net_hub.specs.declared.hub.Hub.{Hub}
use Rattle.net_hub.specs.declared.kind.Kind.{Kind}
use Rattle.net_outlet.specs.OutletCalls.{Call, MakesCalls, receives}
use Rattle.net_outlet.specs.Outlets.{FailsOnlyStuck, PassesOctets}
use Rattle.net_outlet.specs.Queues.{waiting}
use Rattle.net_outlet.specs.declared.calls.Received.TheVariants as receiveds
use Rattle.net_connection.proofs.PassLemmas.{passes_none}
use Rattle.net_connection.specs.Events.{AreEventsOf}
use Rattle.net_connection.specs.Handing.{held_in}
use Rattle.net_connection.specs.Leading.{HasLedOn}
use Rattle.net_connection.specs.Pieces.{next_piece}
use Rattle.net_connection.specs.Stages.{is_open}
use Rattle.net_connection.specs.Causes.{IsRefused}
use Rattle.net_connection.specs.Telling.{KeepsEach}
use Rattle.net_connection.specs.Turns.{BringAllOrNone, HandsOver, LeadsByAnswer, LeadsByPiece, ReadsOnce}
use Rattle.net_connection.specs.declared.connection.Connection.{Connection}
use Rattle.net_hub.proofs.DurableLemmas.{left_or_closed}
use Rattle.net_connection.proofs.LeadLemmas.{led_joined}
use Rattle.net_connection.proofs.StuckLemmas.{stuck_from, stuck_none}
use Rattle.net_connection.proofs.TurnLemmas.{answer_from, piece_from, reads_handed}

-- what a desk prepares leads no event
pub led_quiet : {T : Type 0} {S0 S1 : Catalogue → Type 0} {L0 L1 : List (Option Catalogue) → Type 0} {a b : Hub} {P : List Accepted → Type 0}
    → (T → (M : Catalogue) → S0 M → S1 M) → ((ms : List (Option Catalogue)) → L0 ms → L1 ms) → ((state : State) → IsAt a state → IsAt b state) → P [] → HasLedOn T S0 L0 S1 L1 a b P
led_quiet shows leaves same holds = record {
  led = λ trusted origin start at shown left. record {
    events = [];
    state = origin;
    stands = start;
    leads = (refl, refl);
    lasts = left_or_closed origin origin start start [] (refl, refl);
    is_at = same origin at;
    shows = shows trusted start.catalogue shown;
    leaves = leaves start.leaves left;
    holds = holds;
  };
}

-- and what comes behind it
pub led_behind : {T U : Type 0} {S0 S1 S2 : Catalogue → Type 0} {L0 L1 L2 : List (Option Catalogue) → Type 0} {a b c : Hub} {P Q : List Accepted → Type 0}
    → HasLedOn T S0 L0 S1 L1 a b (λ events. events ≡ []) → HasLedOn U S1 L1 S2 L2 b c P → (U → T) → ((events : List Accepted) → P events → Q events) → HasLedOn U S0 L0 S2 L2 a c Q
led_behind {Q = Q} first next trust so = led_joined first next trust (λ es fs none holds. subst Q (sym (ap (λ (front : List Accepted). front ++ fs) none)) (so fs holds))

-- and what comes before it
pub led_before : {T U : Type 0} {S0 S1 S2 : Catalogue → Type 0} {L0 L1 L2 : List (Option Catalogue) → Type 0} {a b c : Hub} {P : List Accepted → Type 0}
    → HasLedOn T S0 L0 S1 L1 a b P → HasLedOn U S1 L1 S2 L2 b c (λ events. events ≡ []) → (U → T) → HasLedOn U S0 L0 S2 L2 a c P
led_before {P = P} first next trust = led_joined first next trust (λ es fs holds none. subst P (sym (ap (λ (back : List Accepted). es ++ back) none ∙ append-nil es)) holds)

-- the hub was told nothing, and all is held still
pub hands_none : {T : Type 0} (taken coming : T → Option (List ℕ)) (made : T → Option (List Call)) (a b : Connection T) (octets : List ℕ) → b ≡ record a { held = b.held } → b.held.kind ≡ a.held.kind → held_in b.held ≡ octets
    → HandsOver taken coming made octets a b []
hands_none taken coming made a b octets same kind held = record {
  id = ap (λ it. it.id) same;
  may_receive = ap (λ it. it.may_receive) same;
  kind = kind;
  was_open = λ still. ap (λ it. is_open it.stage) (sym same) ∙ still;
  own = tt;
  are_turns = tt;
  put = [];
  are_put = refl;
  passes = passes_none taken coming made a.transport b.transport (waiting a.queue) (waiting b.queue) (ap (λ it. it.transport) same) (ap (λ it. waiting it.queue) same);
  stuck = stuck_none (made a.transport) (made b.transport) a.queue b.queue (ap (λ it. it.queue.failures) same);
  pieces = inr refl;
  handed = λ still. held;
}

-- octets that are held back for one turn more
pub back_once : {T : Type 0} (refused : ℕ → Kind → Type 0) (a b : Connection T) → b ≡ record a { held = b.held } → held_in b.held ≡ held_in a.held → is_of_editor a.held.kind ≡ true
    → LeadsByPiece refused (held_in a.held) a b []
back_once refused a b same held editor = inr (editor, refl, held, ap (λ it. it.stage) same)

-- a piece is handed of a connection that was as this one, but for the turns that were left
pub hands_from : {T : Type 0} (taken coming : T → Option (List ℕ)) (made : T → Option (List Call)) (a b c : Connection T) (octets : List ℕ) (events : List Accepted) → b ≡ record a { held = b.held } → b.held.kind ≡ a.held.kind
    → HandsOver taken coming made octets b c events → HandsOver taken coming made octets a c events
hands_from taken coming made a b c octets events same kind hands = record {
  id = hands.id ∙ ap (λ it. it.id) same;
  may_receive = hands.may_receive ∙ ap (λ it. it.may_receive) same;
  kind = hands.kind ∙ kind;
  was_open = λ still. ap (λ it. is_open it.stage) (sym same) ∙ hands.was_open still;
  own = subst (λ (i : ℕ). AreEventsOf i events) (ap (λ it. it.id) same) hands.own;
  are_turns = hands.are_turns;
  put = hands.put;
  are_put = hands.are_put;
  passes = subst (λ t. PassesOctets taken coming made t c.transport (waiting a.queue) (waiting c.queue) hands.put) (ap (λ it. it.transport) same)
      (subst (λ q. PassesOctets taken coming made b.transport c.transport (waiting q) (waiting c.queue) hands.put) (ap (λ it. it.queue) same) hands.passes);
  stuck = subst (λ t. FailsOnlyStuck (made t) (made c.transport) a.queue c.queue) (ap (λ it. it.transport) same)
      (stuck_from (made b.transport) (made c.transport) a.queue b.queue c.queue (ap (λ it. it.queue.failures) same) (ap (λ it. length it.queue.refused.octets) same) hands.stuck);
  pieces = subst (λ (k : Kind). BringAllOrNone (next_piece k octets) events) kind hands.pieces;
  handed = hands.handed;
}

-- and so it is answered
pub handed_from : {T : Type 0} (taken coming : T → Option (List ℕ)) (made : T → Option (List Call)) (refused : ℕ → Kind → Type 0) (a b c : Connection T) (events : List Accepted) → b ≡ record a { held = b.held } → b.held.kind ≡ a.held.kind
    → held_in b.held ≡ held_in a.held → HandsOver taken coming made (held_in b.held) b c events × LeadsByAnswer refused (held_in b.held) b c events
    → HandsOver taken coming made (held_in a.held) a c events × LeadsByPiece refused (held_in a.held) a c events
handed_from taken coming made refused a b c events same kind held (hands, leads) = (
  subst (λ (l : List ℕ). HandsOver taken coming made l a c events) held (hands_from taken coming made a b c (held_in b.held) events same kind hands),
  inl (answer_from refused a b c (held_in a.held) events (ap (λ it. it.id) same) (ap (λ it. it.stage) same) kind (subst (λ (l : List ℕ). LeadsByAnswer refused l b c events) held leads)),
)

-- what a hub refused was refused by one that had of each connection what it has
pub refused_over : (refuses : Hub → ℕ → Kind → Option HubFault → Type 0) (hub after : Hub) → KeepsEach hub after → (id : ℕ) (kind : Kind) → IsRefused refuses after id kind → IsRefused refuses hub id kind
refused_over refuses hub after keeps id kind (at, same, why) = (at, (λ held has. same held (keeps id held has)), why)

-- an answer where the one may be refused is one where the other may
pub answer_over : {T : Type 0} (refused since : ℕ → Kind → Type 0) (octets : List ℕ) (b c : Connection T) (events : List Accepted) → ((id : ℕ) (kind : Kind) → since id kind → refused id kind)
    → LeadsByAnswer since octets b c events → LeadsByAnswer refused octets b c events
answer_over refused since octets b c events over (inl told) = inl told
answer_over refused since octets b c events over (inr (may, ends, is)) = inr (over b.id b.held.kind may, ends, is)

-- where a piece leads of one that was as this one, but for what is held, and by a hub that had of each connection what another has
piece_over : {T : Type 0} (refused since : ℕ → Kind → Type 0) (a b c : Connection T) (octets : List ℕ) (events : List Accepted) → ((id : ℕ) (kind : Kind) → since id kind → refused id kind) → b.id ≡ a.id → b.stage ≡ a.stage
    → b.held.kind ≡ a.held.kind → LeadsByPiece since octets b c events → LeadsByPiece refused octets a c events
piece_over refused since a b c octets events over id stage kind (inl answer) = inl (answer_from refused a b c octets events id stage kind (answer_over refused since octets b c events over answer))
piece_over refused since a b c octets events over id stage kind (inr (editor, none, held, same)) = inr (ap is_of_editor (sym kind) ∙ editor, none, held, same ∙ stage)

-- a piece is handed of a connection that was as this one, but for what else is held of it, and over such a hub
pub handed_over : {T : Type 0} (taken coming : T → Option (List ℕ)) (made : T → Option (List Call)) (refused since : ℕ → Kind → Type 0) (a b c : Connection T) (events : List Accepted) → b ≡ record a { held = b.held } → b.held.kind
    ≡ a.held.kind
    → held_in b.held ≡ held_in a.held → ((id : ℕ) (kind : Kind) → since id kind → refused id kind) → HandsOver taken coming made (held_in b.held) b c events × LeadsByPiece since (held_in b.held) b c events
    → HandsOver taken coming made (held_in a.held) a c events × LeadsByPiece refused (held_in a.held) a c events
handed_over taken coming made refused since a b c events same kind held over (hands, leads) = (
  subst (λ (l : List ℕ). HandsOver taken coming made l a c events) held (hands_from taken coming made a b c (held_in b.held) events same kind hands),
  piece_over refused since a b c (held_in a.held) events over (ap (λ it. it.id) same) (ap (λ it. it.stage) same) kind (subst (λ (l : List ℕ). LeadsByPiece since l b c events) held leads),
)

-- octets came, which are held then, and the hub was told the first piece of them, or they are held back
pub reads_octets : {T : Type 0} {refused : ℕ → Kind → Type 0} (taken coming : T → Option (List ℕ)) (made : T → Option (List Call)) (a b s c : Connection T) (count : ℕ) (octets : List ℕ) (events : List Accepted)
    → b ≡ record a { transport = b.transport } → s ≡ record b { held = s.held } → a.may_receive ≡ true → s.held.kind ≡ b.held.kind → held_in s.held ≡ octets
    → Keeps (taken a.transport) (taken b.transport) → Consumes (coming a.transport) (coming b.transport) octets → MakesCalls (made a.transport) (made b.transport) (receives 65536 (receiveds.Octets count) ∷ [])
    → HandsOver taken coming made (held_in s.held) s c events × LeadsByPiece refused (held_in s.held) s c events → ReadsOnce taken coming made refused a c (receiveds.Octets count) events
reads_octets {refused = refused} taken coming made a b s c count octets events same filled marked kind is took comes calls (hands, leads) =
    let id : s.id ≡ a.id = ap (λ it. it.id) filled ∙ ap (λ it. it.id) same in
    let stage : s.stage ≡ a.stage = ap (λ it. it.stage) filled ∙ ap (λ it. it.stage) same in
    let marks : s.may_receive ≡ a.may_receive = ap (λ it. it.may_receive) filled ∙ ap (λ it. it.may_receive) same in
    let queue : s.queue ≡ a.queue = ap (λ it. it.queue) filled ∙ ap (λ it. it.queue) same in
    let kinds : s.held.kind ≡ a.held.kind = kind ∙ ap (λ it. it.held.kind) same in
    let back : b.transport ≡ s.transport = sym (ap (λ it. it.transport) filled) in
    reads_handed taken coming made a s c (receiveds.Octets count) octets events id stage queue kinds marked
    (subst (λ t. Keeps (taken a.transport) (taken t)) back took)
    (subst (λ t. Consumes (coming a.transport) (coming t) octets) back comes)
    (subst (λ t. MakesCalls (made a.transport) (made t) (receives 65536 (receiveds.Octets count) ∷ [])) back calls)
    (subst (λ (l : List ℕ). HandsOver taken coming made l s c events) is hands) (
      piece_from refused a s c octets events id stage kinds (subst (λ (l : List ℕ). LeadsByPiece refused l s c events) is leads),
      hands.may_receive ∙ marks,
    )
