-- What one event puts in its connection's queue.
use Rattle.std.proofs.Common.{◌≡◌, ◌+◌, ◌<◌, ℕ, Bool, true, List, [], ◌∷◌, ◌++◌, refl, sym, ap, ◌∙◌, subst, append-nil, length, length-append, take, inl, inr, arith}
use Rattle.std.proofs.Math.Dec.{ltb}
use Rattle.std.proofs.lemmas.Bool.{eq-eqb, ltb-true, lt-ltb}
use Rattle.std.specs.Prelude.{Option, Some, None, Result, Ok, Err, IfErr, if◌then◌else◌}
use Rattle.std.specs.Io.KnownBytes.{Appends}
use Rattle.std.proofs.KnownBytes.{Appends-nil}
use Rattle.dict_proto.specs.Streams.{StreamChange, Stream, AppendsFront}
use Rattle.dict_catalogue.specs.Steps.{Catalogue}
use Rattle.net_hub.specs.Holding.{Holding, left_by}
use Rattle.net_hub.specs.Given.{Greets, Replies, Gets}
use Rattle.net_hub.specs.Events.{Happening, opened, came, ended, id_of, admitted, takes_memory, Serves}
use Rattle.net_hub.specs.Hubs.{HasHolding, connection_count, greatest_of}
use Rattle.net_hub.specs.declared.fault.HubFault.{HubFault}
use Rattle.net_hub.specs.declared.fault.HubFault.TheVariants.{Memory}
use Rattle.net_hub.specs.Runs.{State, Standing, Accepted, IsAt, IsServedEvent, Leads, LeadsOn, state_after}
use Rattle.net_hub.proofs.DurableLemmas.{left_or_closed}
use Rattle.net_hub.specs.declared.kind.Kind.{Kind}
use Rattle.net_hub.specs.declared.kind.Kind.TheVariants.{Dict, Http}
use Rattle.net_hub.specs.declared.incoming.Out.{Out}
use Rattle.net_hub.specs.declared.incoming.Out.TheVariants.{More, Close}
use Rattle.net_hub.specs.declared.hub.Hub.{Hub}
use Rattle.dict_proto.specs.Meaning.{Meaning}
use Rattle.dict_session.specs.Answers.{answer_to}
use Rattle.dict_session.specs.Desks.{Condition}
use Rattle.dict_session.specs.Lines.{cut}
use Rattle.net_outlet.specs.Queues.{waiting, queue_stream}
use Rattle.net_connection.specs.Events.{AreEventsOf, piece_of, pieces_of}
use Rattle.net_connection.specs.Ordering.{IsOnly}
use Rattle.net_connection.specs.Leading.{HasLedOn}
use Rattle.net_connection.specs.Telling.{CountsNone, IsAnswered, IsTold, IsToldThrough, MayRefuse}
use Rattle.net_outlet.specs.OutletCalls.{Call}
use Rattle.net_outlet.specs.Outlets.{FailsOnlyStuck, HasTakenOctets, MakesSendings, PassesOctets, carried, stream_through}
use Rattle.net_outlet.specs.declared.trail.Trail.{Trail}
use Rattle.net_connection.proofs.PassLemmas.{kept_as, passes_none, sendings_of, taken_as}
use Rattle.net_outlet.specs.declared.queue.Queue.{Queue}
use Rattle.net_connection.proofs.StuckLemmas.{stuck_none}

-- known octets have grown at their end
abbrev Grows : Option (List ℕ) → Option (List ℕ) → Type 0
Grows old new = (octets : List ℕ) × Appends old new octets

grows_front : (old new : Option (List ℕ)) (octets : List ℕ) → AppendsFront old new octets → Grows old new
grows_front old new octets front = (take front.0 octets, front.2)

grows_same : (old new : Stream) → new ≡ old → Grows old.octets new.octets
grows_same old new same = ([], subst (λ (s : Stream). Appends old.octets s.octets []) (sym same) (Appends-nil old.octets))

replies_grow : (answer : Meaning → List ℕ) (desk : Condition) (lines : List (List ℕ)) (out : Out) (old new : Stream) → Replies answer desk lines out old new → Grows old.octets new.octets
replies_grow answer desk lines More old new (octets, speaks, puts) = (octets, puts.octets)
replies_grow answer desk lines Close old new (inl (octets, speaks, puts)) = (octets, puts.octets)
replies_grow answer desk lines Close old new (inr (inl (octets, has_ended, speaks, puts))) = grows_front old.octets new.octets octets puts.octets
replies_grow answer desk lines Close old new (inr (inr (failed, (octets, breaks, puts)))) = (octets, puts.octets)

gets_grow : (host : List ℕ) (desk : Condition) (S : Catalogue → Type 0) (B A : List (Option Catalogue) → Type 0) (M : Catalogue) (kind : Kind) (octets : List ℕ) (out : Out) (old new : Stream)
    → Gets host desk S B A M kind octets out old new → Grows old.octets new.octets
gets_grow host desk S B A M Dict octets out old new gets = replies_grow (answer_to M host) desk (cut octets).lines out old new gets.0
gets_grow host desk S B A M Http octets More old new gets = grows_same old new gets.1
gets_grow host desk S B A M Http octets Close old new gets = elim gets.puts [
  | inl puts ↦ (gets.answer, puts.octets)
  | inr puts ↦ grows_front old.octets new.octets gets.answer puts.octets
]

greets_grow : (host : List ℕ) (id : ℕ) (kind : Kind) (out : Out) (old new : Stream) → Greets host id kind out old new → Grows old.octets new.octets
greets_grow host id Dict More old new puts = (_, puts.octets)
greets_grow host id Dict Close old new puts = grows_front old.octets new.octets _ puts.octets
greets_grow host id Http More old new same = grows_same old new same
greets_grow host id Http Close old new never = absurd never

-- an event puts octets behind those that were put before
serves_grow : (host : List ℕ) (desk : Condition) (S : Catalogue → Type 0) (B A : List (Option Catalogue) → Type 0) (M : Catalogue) (held : Option Holding) (what : Happening) (out : Out) (old new : Stream)
    → Serves host desk S B A M held what out old new → Grows old.octets new.octets
serves_grow host desk S B A M held (opened id kind) out old new serves = greets_grow host id kind out old new serves.0
serves_grow host desk S B A M None (came id piece) out old new serves = absurd serves
serves_grow host desk S B A M (Some held) (came id piece) out old new serves = gets_grow host desk S B A M held.kind (held.octets ++ piece) out old new serves
serves_grow host desk S B A M held (ended id) out old new serves = grows_same old new serves.nothing

-- an end puts nothing
serves_ends : (host : List ℕ) (desk : Condition) (S : Catalogue → Type 0) (B A : List (Option Catalogue) → Type 0) (M : Catalogue) (held : Option Holding) (what : Happening) (out : Out) (old new : Stream)
    → Serves host desk S B A M held what out old new → CountsNone what old.failures new.failures
serves_ends host desk S B A M held (opened id kind) out old new serves = tt
serves_ends host desk S B A M held (came id piece) out old new serves = tt
serves_ends host desk S B A M held (ended id) out old new serves = ap (λ (s : Stream). s.failures) serves.nothing

-- an event that was accepted
pub led_accepted : (T : Type 0) (S0 S1 : Catalogue → Type 0) (L0 L1 : List (Option Catalogue) → Type 0) (a b : Hub) (what : Happening) (out : Out) (desk : Condition) (old new : Stream) (P : List Accepted → Type 0)
    → (T → (origin : State) (start : Standing) (events : List Accepted) (state : State) (stands : Standing) → Leads origin start events state stands → IsAt a state → S0 stands.catalogue → L0 stands.leaves
    → LeadsOn S1 L1 origin start events state stands what out desk (record { old = old; new = new }) b)
    → ((one : Accepted) → one.what ≡ what → one.out ≡ out → one.put ≡ record { old = old; new = new } → one.desk ≡ desk → Grows old.octets new.octets
    → CountsNone what old.failures new.failures → T → S0 one.before.catalogue → P (one ∷ []))
    → HasLedOn T S0 L0 S1 L1 a b P
led_accepted T S0 S1 L0 L1 a b what out desk old new P leads holds = record {
  led = λ trusted origin start at shown left.
      let on = leads trusted origin start [] origin start (refl, refl) at shown left in
      let one : Accepted = record { what = what; out = out; desk = desk; put = record { old = old; new = new }; before = start; after = on.after } in
      let step : IsServedEvent origin one = on.leads.1 in
      record {
        events = one ∷ [];
        state = state_after origin what out;
        stands = on.after;
        leads = on.leads;
        lasts = left_or_closed origin (state_after origin what out) start on.after (one ∷ []) on.leads;
        is_at = on.is_at;
        shows = on.shows;
        leaves = on.leaves;
        holds = holds one refl refl refl refl (serves_grow _ _ _ _ _ _ _ _ _ _ _ step.serves) (serves_ends _ _ _ _ _ _ _ _ _ _ _ step.serves) trusted shown;
      };
}

-- an opening that was accepted
pub led_greeted : (T : Type 0) (S0 S1 : Catalogue → Type 0) (L0 L1 : List (Option Catalogue) → Type 0) (a b : Hub) (id : ℕ) (kind : Kind) (out : Out) (desk : Condition) (old new : Stream) (P : List Accepted → Type 0)
    → (T → (origin : State) (start : Standing) (events : List Accepted) (state : State) (stands : Standing) → Leads origin start events state stands → IsAt a state → S0 stands.catalogue → L0 stands.leaves
    → LeadsOn S1 L1 origin start events state stands (opened id kind) out desk (record { old = old; new = new }) b)
    → ((one : Accepted) → one.what ≡ opened id kind → one.out ≡ out → one.put ≡ record { old = old; new = new } → one.desk ≡ desk → Grows old.octets new.octets → HasHolding b id (left_by kind [] out) → P (one ∷ []))
    → HasLedOn T S0 L0 S1 L1 a b P
led_greeted T S0 S1 L0 L1 a b id kind out desk old new P leads holds = record {
  led = λ trusted origin start at shown left.
      let on = leads trusted origin start [] origin start (refl, refl) at shown left in
      let one : Accepted = record { what = opened id kind; out = out; desk = desk; put = record { old = old; new = new }; before = start; after = on.after } in
      let step : IsServedEvent origin one = on.leads.1 in
      let is_at : IsAt b (state_after origin (opened id kind) out) = on.is_at in
      let own : HasHolding b id (left_by kind [] out) = subst (λ (t : Bool). HasHolding b id (if t then left_by kind [] out else origin.held id)) (eq-eqb id id refl) (is_at.held id) in
      record {
        events = one ∷ [];
        state = state_after origin (opened id kind) out;
        stands = on.after;
        leads = on.leads;
        lasts = left_or_closed origin (state_after origin (opened id kind) out) start on.after (one ∷ []) on.leads;
        is_at = on.is_at;
        shows = on.shows;
        leaves = on.leaves;
        holds = holds one refl refl refl refl (greets_grow origin.host id kind out old new step.serves.0) own;
      };
}

pub told_one : (what : Happening) (out : Out) (old new : Queue) (one : Accepted) → one.what ≡ what → one.out ≡ out → one.put ≡ record { old = queue_stream old; new = queue_stream new }
    → Grows (queue_stream old).octets (queue_stream new).octets → CountsNone what old.failures new.failures → IsTold what (Some out) old new (one ∷ [])
told_one what out old new one same answer put (octets, grows) ends = record {
  answered = (one, refl, same, answer);
  put = octets;
  are_put = (octets, [], (waiting old, ap (λ (c : StreamChange). c.old.octets) put, ap (λ (c : StreamChange). c.new.octets) put ∙ ap Some grows), refl, sym (append-nil octets));
  order = grows;
  ends = ends;
}

-- what facts of an outlet tell of an event that put these octets
passed : {T : Type 0} (taken coming : T → Option (List ℕ)) (made : T → Option (List Call)) (at_first gives : Option (List ℕ)) (calls : Option (List Call)) (from to : T) (trail before after put : List ℕ)
    → at_first ≡ taken from → gives ≡ coming from → calls ≡ made from
    → HasTakenOctets at_first (taken to) trail → HasTakenOctets gives (coming to) [] → MakesSendings calls (made to)
    → (length trail + length after < 1048576 → (trail ≡ []) × (made to ≡ calls)) → trail ++ after ≡ before ++ put
    → PassesOctets taken coming made from to before after put
passed taken coming made at_first gives calls from to trail before after put was will did takes keeps makes lazy order =
    let few = ltb (length before + length put) 1048576 in
    let same : length trail + length after ≡ length before + length put = omega (arith, ap length order, length-append trail after, length-append before put) in
    let less : few ≡ true → length trail + length after < 1048576 = λ is. omega (arith, same, ltb-true (length before + length put) 1048576 is) in
    let all = sendings_of (made from) (made to) few (subst (λ (o : Option (List Call)). MakesSendings o (made to)) did makes) (λ is. (lazy (less is)).1 ∙ did) in
    record {
      sent = trail;
      takes = taken_as (taken from) (taken to) trail (subst (λ (o : Option (List ℕ)). HasTakenOctets o (taken to) trail) was takes);
      order = order;
      comes = kept_as (coming from) (coming to) (subst (λ (o : Option (List ℕ)). HasTakenOctets o (coming to) []) will keeps);
      within = all.0;
      sendings = all.1;
      calls = all.2;
      lazy = λ is. let so = lt-ltb (length before + length put) 1048576 is in ((lazy (less so)).0, all.3 so);
    }

pub told_through : {T : Type 0} (taken coming : T → Option (List ℕ)) (made : T → Option (List Call)) (at_first gives : Option (List ℕ)) (calls : Option (List Call)) (what : Happening) (out : Out) (old new : Queue)
    (from to : T) (trail : Trail) (begun : Stream) (one : Accepted) → at_first ≡ taken from → gives ≡ coming from → calls ≡ made from
    → HasTakenOctets at_first (taken to) trail.octets → HasTakenOctets gives (coming to) [] → MakesSendings calls (made to)
    → (length trail.octets + length (waiting new) < 1048576 → (trail.octets ≡ []) × (made to ≡ calls)) → begun.octets ≡ Some (waiting old)
    → one.what ≡ what → one.out ≡ out → one.put ≡ record { old = begun; new = stream_through trail new }
    → Grows begun.octets (stream_through trail new).octets → FailsOnlyStuck calls (made to) old new → IsToldThrough taken coming made what (Some out) old new from to (one ∷ [])
told_through taken coming made at_first gives calls what out old new from to trail begun one was will did takes keeps makes lazy began same answer put (octets, grows) stuck =
    let order : carried trail new ≡ waiting old ++ octets = subst (λ (o : Option (List ℕ)). Appends o (Some (carried trail new)) octets) began grows in
    record {
      answered = (one, refl, same, answer);
      put = octets;
      are_put = (
        octets,
        [],
        (waiting old, ap (λ (c : StreamChange). c.old.octets) put ∙ began, ap (λ (c : StreamChange). c.new.octets) put ∙ ap Some order),
        refl,
        sym (append-nil octets),
      );
      passes = passed taken coming made at_first gives calls from to trail.octets (waiting old) (waiting new) octets was will did takes keeps makes lazy order;
      stuck = subst (λ (o : Option (List Call)). FailsOnlyStuck o (made to) old new) did stuck;
    }

-- an event that was refused
pub told_through_none : {T : Type 0} (taken coming : T → Option (List ℕ)) (made : T → Option (List Call)) (what : Happening) (old new : Queue) (from to : T) → new ≡ old → to ≡ from
    → IsToldThrough taken coming made what None old new from to []
told_through_none taken coming made what old new from to same still = record {
  answered = refl;
  put = [];
  are_put = refl;
  passes = passes_none taken coming made from to (waiting old) (waiting new) still (ap waiting same);
  stuck = stuck_none (made from) (made to) old new (ap (λ (q : Queue). q.failures) same);
}

-- octets that the hub refused: where it held a reader's of this id, it would have taken them
pub may_refuse : (hub : Hub) (id : ℕ) (piece : List ℕ) (result : Result Out HubFault)
    → ((held : Option Holding) → HasHolding hub id held → admitted held (greatest_of hub) (connection_count hub) (came id piece) ≡ Ok tt → IfErr result (λ fault. (fault ≡ Memory) × (takes_memory held (came id piece) ≡ true)))
    → IfErr result (MayRefuse hub id)
may_refuse hub id piece (Ok out) memory = tt
may_refuse hub id piece (Err fault) memory = λ held has. memory (Some held) has refl

counts_same : (what : Happening) (old new : ℕ) → new ≡ old → CountsNone what old new
counts_same (opened id kind) old new same = tt
counts_same (came id piece) old new same = tt
counts_same (ended id) old new same = same

pub told_none : (what : Happening) (old new : Queue) → new ≡ old → IsTold what None old new []
told_none what old new same = record {
  answered = refl;
  put = [];
  are_put = refl;
  order = ap waiting same ∙ sym (append-nil (waiting old));
  ends = counts_same what old.failures new.failures (ap (λ (q : Queue). q.failures) same);
}

-- the one event is of its connection
pub answered_own : (what : Happening) (answer : Option Out) (events : List Accepted) → IsAnswered what answer events → AreEventsOf (id_of what) events
answered_own what None events none = rw none tt
answered_own what (Some out) events (one, is, same, told) = rw is (ap id_of same, tt)

pub answered_only : (what : Happening) (answer : Option Out) (events : List Accepted) → IsAnswered what answer events → IsOnly what events
answered_only what None events none = rw none tt
answered_only what (Some out) events (one, is, same, told) = rw is same

-- it brings its octets, and none where it was refused
pub answered_pieces : (what : Happening) (out : Out) (events : List Accepted) → IsAnswered what (Some out) events → pieces_of events ≡ piece_of what
answered_pieces what out events (one, is, same, told) = rw is (append-nil (piece_of one.what) ∙ ap piece_of same)
