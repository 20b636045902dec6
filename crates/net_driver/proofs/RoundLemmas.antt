-- What a round does with the octets that wait.
use Rattle.std.proofs.Common.{◌≡◌, ◌≢◌, ◌<◌, ◌≤◌, ◌+◌, ℕ, Bool, true, false, ◌-◌, All, List, [], ◌∷◌, ◌++◌, length, length-set, length-append, get_or, set, take, ◌||◌, refl, sym, ap, ◌∙◌, subst, inl, inr, arith, append_assoc, append-nil}
use Rattle.dict_desk.specs.declared.fault.Fault.{Fault}
use Rattle.dict_desk.specs.Expected.{Expected}
use Rattle.std.specs.Prelude.{None, Option, Result, Some, nat_lt}
use Rattle.std.specs.List.{AllPairs, filter}
use Rattle.std.proofs.lemmas.Bool.{ne_eqb}
use Rattle.std.proofs.lemmas.Bool.Decides.{eqb_tells}
use Rattle.std.proofs.Math.Seq.{get_or-append_seam}
use Rattle.std.proofs.lemmas.List.{get_or_append_left, get_or-set_other, take-set-le, take_more_set}
use Rattle.std.proofs.lemmas.Grind.{get_or-set_at}
use Rattle.net_hub.specs.Events.{id_of}
use Rattle.net_hub.specs.Holding.{Holding}
use Rattle.net_hub.specs.Hubs.{HasHolding}
use Rattle.net_hub.specs.Runs.{Accepted, events_of}
use Rattle.net_hub.specs.declared.hub.Hub.{Hub}
use Rattle.net_outlet.specs.Queues.{waiting}
use Rattle.net_connection.specs.Stages.{is_departing, is_held, is_open}
use Rattle.net_connection.specs.Events.{AreEventsOf}
use Rattle.net_outlet.specs.OutletCalls.{Call}
use Rattle.net_connection.specs.Ordering.{AreOfTurns}
use Rattle.net_connection.specs.Quiet.{StaysForReader}
use Rattle.net_driver.specs.Ordering.{ComeById}
use Rattle.net_hub.specs.declared.kind.Kind.{Kind}
use Rattle.dict_session.specs.Desks.{Condition}
use Rattle.net_hub.specs.declared.fault.HubFault.{HubFault}
use Rattle.net_connection.specs.Causes.{AreCausedBy, IsRefused}
use Rattle.net_connection.specs.Foreseen.{HoldsBack, HoldsBackBy, KeepsOrder}
use Rattle.net_connection.specs.Handing.{are_told, held_for, held_in, is_handed}
use Rattle.net_connection.specs.Telling.{KeepsOthers}
use Rattle.net_connection.specs.Turns.{Departs, IsOpened, LeadsByAnswer, LeadsByPiece, LeadsByReading, LeadsByTurn, LeadsFurther, Turns}
use Rattle.net_driver.specs.Turning.{DepartAll, KeepsAllBut, MarkAll, TurnAll, any, first_at, first_of, first_since, is_other}
use Rattle.net_outlet.specs.declared.calls.Received.{Received}
use Rattle.net_outlet.specs.declared.calls.Received.TheVariants as receiveds
use Rattle.net_outlet.specs.declared.calls.Sent.{Sent}
use Rattle.net_outlet.specs.declared.calls.Sent.TheVariants as sents
use Rattle.net_driver.specs.Rounds.{WaitsAmong, Waits, Flows, HasWaited, Moves, TurnEach, latest}
use Rattle.net_connection.specs.declared.connection.Connection.{Connection}
use Rattle.net_driver.specs.declared.connections.Connections.{Connections}
use Rattle.net_outlet.specs.declared.transport.Transport.{Ghosts}
use Rattle.net_connection.proofs.EventLemmas.{put_joined, events_joined, own_all, own_none}
use Rattle.net_driver.proofs.BoolLemmas.{any_more, front_move, last_move}
use Rattle.net_connection.proofs.CommandLemmas.{no_commands_over}
use Rattle.net_connection.proofs.OrderLemmas.{turns_of_joined}
use Rattle.net_connection.proofs.QuietLemmas.{stays_over}
use Rattle.net_driver.proofs.OrderLemmas.{AreBelow, below_joined, by_id_joined}
use Rattle.net_driver.proofs.ListLemmas.{default_free, among_at, place_among, among_append, among_drop, among_filter, among_fitting, HaveSameIds, all_among, marked_among}

pub flows_none : (octets : List ℕ) → Flows octets [] octets
flows_none octets = record { sent = []; put = []; are_put = refl; order = sym (append-nil octets) }

pub flows_joined : (before : List ℕ) (es : List Accepted) (between : List ℕ) (fs : List Accepted) (after : List ℕ) → Flows before es between → Flows between fs after → Flows before (es ++ fs) after
flows_joined before es between fs after first then = record {
  sent = first.sent ++ then.sent;
  put = first.put ++ then.put;
  are_put = put_joined es fs first.put then.put first.are_put then.are_put;
  order = append_assoc first.sent then.sent after ∙ ap (λ (l : List ℕ). first.sent ++ l) then.order ∙ sym (append_assoc first.sent between then.put)
      ∙ ap (λ (l : List ℕ). l ++ then.put) first.order ∙ append_assoc before first.put then.put;
}

pub flows_turn : {T : Type 0} {refused : ℕ → Kind → Type 0} {moved : Bool} (taken coming : T → Option (List ℕ)) (made : T → Option (List Call)) (a b : Connection T) (events : List Accepted) → Turns taken coming made refused a b moved events
    → Flows (waiting a.queue) events (waiting b.queue)
flows_turn taken coming made a b events turns = record { sent = turns.sent; put = turns.put; are_put = turns.are_put; order = turns.order }

flows_depart : {T : Type 0} {moved : Bool} (taken coming : T → Option (List ℕ)) (made : T → Option (List Call)) (a b : Connection T) → Departs taken coming made a b moved → Flows (waiting a.queue) [] (waiting b.queue)
flows_depart taken coming made a b departs = record { sent = departs.sent; put = []; are_put = refl; order = departs.order ∙ sym (append-nil (waiting a.queue)) }

-- where the events are the same and the octets are
flows_as : (a b : List ℕ) (es fs : List Accepted) (c d : List ℕ) → a ≡ b → es ≡ fs → c ≡ d → Flows a es c → Flows b fs d
flows_as a b es fs c d p q r flows = subst (λ (l : List ℕ). Flows l fs d) p (subst (λ (l : List Accepted). Flows a l d) q (subst (λ (l : List ℕ). Flows a es l) r flows))

-- each event is of a lesser id than those of the connections from this place on
abbrev pub AreBelowFrom : {T : Type 0} → List (Connection T) → ℕ → List Accepted → Type 0
AreBelowFrom {T} all i events = (k : ℕ) (d : Connection T) → i ≤ k → k < length all → AreBelow (get_or all k d).id events

pub below_from_more : {T : Type 0} (all : List (Connection T)) (i own : ℕ) (es fs : List Accepted) → AllPairs (λ a b. a.id < b.id) all → i < length all → ((d : Connection T) → (get_or all i d).id ≡ own)
    → AreBelowFrom all i es → AreEventsOf own fs → AreBelowFrom all (i + 1) (es ++ fs)
below_from_more all i own es fs rising within is below of k d from in_all =
    let lt = rising i k d (omega (arith, from)) in_all in
    let same = is d in
    below_joined (get_or all k d).id own es fs (omega (arith, lt, same)) (below k d (omega (arith, from)) in_all) of

-- no event is of an id that is above them all
below_none : (id : ℕ) (events : List Accepted) → AreBelow id events → events_of id events ≡ []
below_none id [] below = refl
below_none id (one ∷ events) (under, below) =
    let differs = ne_eqb id (id_of one.what) (λ same. absurd (omega (arith, under, same))) in
    rw differs (below_none id events below)

-- where octets may be refused by the one, if they may by the other, what is said of a turn by that is so by the one
answer_kept : {T : Type 0} (from to : ℕ → Kind → Type 0) (octets : List ℕ) (old new : Connection T) (events : List Accepted) → (from old.id old.held.kind → to old.id old.held.kind)
    → LeadsByAnswer from octets old new events → LeadsByAnswer to octets old new events
answer_kept from to octets old new events keeps (inl told) = inl told
answer_kept from to octets old new events keeps (inr (may, ends, over)) = inr (keeps may, ends, over)

piece_kept : {T : Type 0} (from to : ℕ → Kind → Type 0) (octets : List ℕ) (old new : Connection T) (events : List Accepted) → (from old.id old.held.kind → to old.id old.held.kind)
    → LeadsByPiece from octets old new events → LeadsByPiece to octets old new events
piece_kept from to octets old new events keeps (inl answer) = inl (answer_kept from to octets old new events keeps answer)
piece_kept from to octets old new events keeps (inr back) = inr back

reading_kept : {T : Type 0} (from to : ℕ → Kind → Type 0) (reading : Received) (octets : List ℕ) (old new : Connection T) (events : List Accepted) → (from old.id old.held.kind → to old.id old.held.kind)
    → LeadsByReading from reading octets old new events → LeadsByReading to reading octets old new events
reading_kept from to receiveds.Nothing octets old new events keeps leads = leads
reading_kept from to receiveds.Interrupted octets old new events keeps leads = leads
reading_kept from to (receiveds.Octets count) octets old new events keeps (leads, same) = (piece_kept from to octets old new events keeps leads, same)
reading_kept from to receiveds.End octets old new events keeps leads = leads
reading_kept from to receiveds.Failed octets old new events keeps leads = leads

further_kept : {T : Type 0} (whole : Bool) (from to : ℕ → Kind → Type 0) (reading : Received) (octets : List ℕ) (old new : Connection T) (events : List Accepted) → (from old.id old.held.kind → to old.id old.held.kind)
    → LeadsFurther whole from reading octets old new events → LeadsFurther whole to reading octets old new events
further_kept true from to reading octets old new events keeps leads = reading_kept from to reading octets old new events keeps leads
further_kept false from to reading octets old new events keeps (leads, none, same) = (piece_kept from to (held_in old.held) old new events keeps leads, none, same)

leads_kept : {T : Type 0} (from to : ℕ → Kind → Type 0) (sending : Sent) (reading : Received) (octets : List ℕ) (old new : Connection T) (events : List Accepted) → (from old.id old.held.kind → to old.id old.held.kind)
    → LeadsByTurn from sending reading octets old new events → LeadsByTurn to sending reading octets old new events
leads_kept from to sents.Failed reading octets old new events keeps leads = leads
leads_kept from to sents.Nothing reading octets old new events keeps leads = further_kept (is_handed old.held) from to reading octets old new events keeps leads
leads_kept from to sents.Interrupted reading octets old new events keeps leads = further_kept (is_handed old.held) from to reading octets old new events keeps leads
leads_kept from to sents.Some reading octets old new events keeps leads = further_kept (is_handed old.held) from to reading octets old new events keeps leads

turn_kept : {T : Type 0} (taken coming : T → Option (List ℕ)) (made : T → Option (List Call)) (from to : ℕ → Kind → Type 0) (old new : Connection T) (moved : Bool) (events : List Accepted)
    → (from old.id old.held.kind → to old.id old.held.kind)
    → Turns taken coming made from old new moved events → Turns taken coming made to old new moved events
turn_kept taken coming made from to old new moved events keeps turns = record {
  id = turns.id;
  kind = turns.kind;
  was_open = turns.was_open;
  own = turns.own;
  are_turns = turns.are_turns;
  sent = turns.sent;
  takes = turns.takes;
  put = turns.put;
  are_put = turns.are_put;
  order = turns.order;
  received = turns.received;
  gives = turns.gives;
  pieces = turns.pieces;
  handed = turns.handed;
  sending = turns.sending;
  reading = turns.reading;
  within = turns.within;
  sendings = turns.sendings;
  calls = turns.calls;
  stuck = turns.stuck;
  lazy = turns.lazy;
  idle = turns.idle;
  unmarked = turns.unmarked;
  leads = leads_kept from to turns.sending turns.reading turns.received old new events keeps turns.leads;
  has_moved = turns.has_moved;
  dropped = turns.dropped;
}

-- and so is why octets are held back, where one hub has all of the connection that another has
holds_by_kept : {K : Type 0} (foresees : K → Expected → K → Type 0) (prepares : K → Result Bool Fault → K → Type 0) (behind told : Bool) (between hub : Hub) (from to : K) (id : ℕ) (octets : List ℕ)
    → ((held : Option Holding) → HasHolding hub id held → HasHolding between id held)
    → HoldsBackBy foresees prepares behind told between from to id octets → HoldsBackBy foresees prepares behind told hub from to id octets
holds_by_kept foresees prepares true told between hub from to id octets keeps (same, makes) = (same, (λ held has. makes held (keeps held has)))
holds_by_kept foresees prepares false true between hub from to id octets keeps by = by
holds_by_kept foresees prepares false false between hub from to id octets keeps (told, are, prepared) = (told, (λ held has. are held (keeps held has)), prepared)

holds_kept : {K T : Type 0} (foresees : K → Expected → K → Type 0) (prepares : K → Result Bool Fault → K → Type 0) (behind : Bool) (between hub : Hub) (from to : K) (old new : Connection T)
    → ((held : Option Holding) → HasHolding hub old.id held → HasHolding between old.id held)
    → HoldsBack foresees prepares behind between from to old new → HoldsBack foresees prepares behind hub from to old new
holds_kept foresees prepares behind between hub from to old new keeps back still is =
    let holds = back still is in
    record {
      by = holds_by_kept foresees prepares behind (are_told old.held) between hub from to old.id (held_in new.held) keeps holds.by;
      left_over = holds.left_over;
      counted = holds.counted;
    }

-- what a hub has of each connection but those before this place another has
abbrev pub KeepsFrom : {T : Type 0} → List (Connection T) → ℕ → Hub → Hub → Type 0
KeepsFrom {T} all i old new = (other : ℕ) (held : Option Holding) → ((k : ℕ) (d : Connection T) → k < i → k < length all → (get_or all k d).id ≢ other) → HasHolding old other held → HasHolding new other held

pub keeps_more : {T : Type 0} (all : List (Connection T)) (i : ℕ) (one : Connection T) (a b c : Hub) → i < length all → ((d : Connection T) → (get_or all i d).id ≡ one.id) → KeepsFrom all i a b
    → KeepsOthers one.id b c → KeepsFrom all (i + 1) a c
keeps_more all i one a b c within is before here other held apart has =
    here other held (λ same. apart i one (omega arith) within (is one ∙ sym same)) (before other held (λ k d under below. apart k d (omega (arith, under)) below) has)

pub keeps_whole : {T : Type 0} (all : List (Connection T)) (i : ℕ) (a b : Hub) → length all ≤ i → KeepsFrom all i a b → KeepsAllBut all a b
keeps_whole all i a b whole keeps other held apart has = keeps other held (λ k d under within. apart k d within) has

-- a connection from this place on isn't among those before it
keeps_own : {T : Type 0} (all : List (Connection T)) (i own : ℕ) (a b : Hub) → AllPairs (λ a b. a.id < b.id) all → i < length all → ((d : Connection T) → (get_or all i d).id ≡ own) → KeepsFrom all i a b
    → (held : Option Holding) → HasHolding a own held → HasHolding b own held
keeps_own all i own a b rising within is keeps held has =
    keeps own held (λ k d under below same. (let lt = rising k i d under within in let e = is d in absurd (omega (arith, lt, e, same)))) has

-- whose command comes first, one connection on
since_more : {T : Type 0} (first : Option ℕ) (all : List (Connection T)) (one : Connection T) → first_since first (all ++ one ∷ []) ≡ first_since (first_since first all) (one ∷ [])
since_more (Some id) all one = refl
since_more None [] one = refl
since_more None (other ∷ all) one = by (since_more None all one) (nat_lt 0 (held_for other)) refl
  where
    by : first_since None (all ++ one ∷ []) ≡ first_since (first_since None all) (one ∷ []) → (b : Bool) → nat_lt 0 (held_for other) ≡ b → first_since None ((other ∷ all) ++ one ∷ [])
        ≡ first_since (first_since None (other ∷ all)) (one ∷ [])
    by rest true is = rw is refl
    by rest false is = rw is rest

since_none : (T : Type 0) (first : Option ℕ) → first_since {T = T} first [] ≡ first
since_none T (Some id) = refl
since_none T None = refl

-- and one turn on
first_more : {T : Type 0} (old now : List (Connection T)) (i : ℕ) (after : Connection T) (first later : Option ℕ) → i < length now → first ≡ first_at old now i → later ≡ first_since first (after ∷ [])
    → later ≡ first_at old (set now i after) (i + 1)
first_more old now i after first later in_now is more =
    more ∙ ap (λ f. first_since f (after ∷ [])) is ∙ sym (since_more (first_of old) (take i now) after) ∙ ap (λ l. first_since (first_of old) l) (sym (take_more_set now i after in_now))

-- the connections before this place had their turns, and the others are as they were; the command of one comes first
pub record TurnUpTo {K T : Type 0} (stands : K → Condition) (foresees : K → Expected → K → Type 0) (prepares : K → Result Bool Fault → K → Type 0) (taken coming : T → Option (List ℕ)) (made : T → Option (List Call))
    (refuses : Hub → ℕ → Kind → Option HubFault → Type 0) (hub : Hub) (from to : K) (old now : List (Connection T)) (i : ℕ) (first : Option ℕ) (moved : Bool) (events : List Accepted) : Type 0 where
  pub len : length now ≡ length old
  pub moves : List Bool
  pub count : length moves ≡ i
  pub left : List K
  pub desks : length left ≡ i
  pub last : to ≡ get_or (from ∷ left) i from
  pub closed : (k : ℕ) → k < i → (stands (get_or (from ∷ left) k from)).closed ≡ true → (stands (get_or left k from)).closed ≡ true
  pub within : i ≤ length old
  pub has_moved : moved ≡ any moves
  pub is_now : first ≡ first_at old now i
  pub turns : (k : ℕ) (d : Connection T) → k < i → k < length old
      → Turns taken coming made (IsRefused refuses hub) (get_or old k d) (get_or now k d) (get_or moves k false) (events_of (get_or old k d).id events)
  pub caused : (k : ℕ) (d : Connection T) → k < i → k < length old → AreCausedBy (stands (get_or left k from)) (get_or old k d) (get_or now k d) (events_of (get_or old k d).id events)
  pub stays : (k : ℕ) (d : Connection T) → k < i → k < length old → StaysForReader (get_or old k d).held.kind hub (get_or (from ∷ left) k from) (get_or left k from) (events_of (get_or old k d).id events)
  pub prepared : (k : ℕ) (d : Connection T) → k < i → k < length old → HoldsBack foresees prepares (is_other (first_at old now k) (get_or old k d).id) hub (get_or (from ∷ left) k from) (get_or left k from) (get_or old k d) (get_or now k d)
  pub orders : (k : ℕ) (d : Connection T) → k < i → k < length old → KeepsOrder (is_other (first_at old now k) (get_or old k d).id) (get_or old k d).held.kind hub (events_of (get_or old k d).id events)
  pub rest : (k : ℕ) (d : Connection T) → i ≤ k → k < length old → get_or now k d ≡ get_or old k d
  pub below : AreBelowFrom old i events
  pub no_other : (id : ℕ) → ((k : ℕ) (d : Connection T) → k < length old → (get_or old k d).id ≢ id) → events_of id events ≡ []
  pub are_turns : AreOfTurns events
  pub by_id : ComeById events

pub turn_none : {K T : Type 0} (stands : K → Condition) (foresees : K → Expected → K → Type 0) (prepares : K → Result Bool Fault → K → Type 0) (taken coming : T → Option (List ℕ)) (made : T → Option (List Call))
    (refuses : Hub → ℕ → Kind → Option HubFault → Type 0) (hub : Hub) (from : K) (all : List (Connection T)) (first : Option ℕ) → first ≡ first_of all
    → TurnUpTo stands foresees prepares taken coming made refuses hub from from all all 0 first false []
turn_none stands foresees prepares taken coming made refuses hub from all first is = record {
  is_now = is ∙ sym (since_none _ (first_of all));
  len = refl;
  moves = [];
  count = refl;
  within = omega arith;
  has_moved = refl;
  left = [];
  desks = refl;
  last = refl;
  closed = λ k before. absurd (omega (arith, before));
  turns = λ k d before within. absurd (omega (arith, before));
  caused = λ k d before within. absurd (omega (arith, before));
  stays = λ k d before within. absurd (omega (arith, before));
  prepared = λ k d before within. absurd (omega (arith, before));
  orders = λ k d before within. absurd (omega (arith, before));
  rest = λ k d from within. refl;
  below = λ k d from within. tt;
  no_other = λ id apart. refl;
  are_turns = tt;
  by_id = tt;
}

-- one desk more
last_desk : {K : Type 0} (left : List K) (i : ℕ) (to d : K) → i ≡ length left → get_or (left ++ to ∷ []) i d ≡ to
last_desk left i to d is = ap (λ (k : ℕ). get_or (left ++ to ∷ []) k d) is ∙ get_or-append_seam left to [] d

front_desk : {K : Type 0} (left : List K) (to : K) (k : ℕ) (d : K) → k < length left → get_or (left ++ to ∷ []) k d ≡ get_or left k d
front_desk left to k d under = get_or_append_left left (to ∷ []) d k under

-- one more connection had its turn
pub turn_more : {K T : Type 0} (stands : K → Condition) (foresees : K → Expected → K → Type 0) (prepares : K → Result Bool Fault → K → Type 0) (taken coming : T → Option (List ℕ)) (made : T → Option (List Call))
    (refuses : Hub → ℕ → Kind → Option HubFault → Type 0) (hub between : Hub) (from mid to : K) (old now : List (Connection T)) (i : ℕ) (one after : Connection T) (first later : Option ℕ) (before here both : Bool)
    (es fs : List Accepted)
    → AllPairs (λ a b. a.id < b.id) old → i < length old → get_or now i one ≡ one → later ≡ first_since first (after ∷ []) → both ≡ before || here → KeepsFrom old i hub between
    → Turns taken coming made (IsRefused refuses between) one after here fs → AreCausedBy (stands to) one after fs → StaysForReader one.held.kind between mid to fs → KeepsOrder (is_other first one.id) one.held.kind between fs
    → HoldsBack foresees prepares (is_other first one.id) between mid to one after → ((stands mid).closed ≡ true → (stands to).closed ≡ true)
    → TurnUpTo stands foresees prepares taken coming made refuses hub from mid old now i first before es → TurnUpTo stands foresees prepares taken coming made refuses hub from to old (set now i after) (i + 1) later both (es ++ fs)
turn_more {K} {T} stands foresees prepares taken coming made refuses hub between from mid to old now i one after first later before here both es fs rising within is holds moved keeps over cause same_desk ordered back shuts all =
    let len = all.len in
    let count = all.count in
    let in_now : i < length now = omega arith in
    let was : (d : Connection T) → get_or old i d ≡ one = λ d. sym (all.rest i d (omega arith) within) ∙ default_free now i d one in_now ∙ is in
    let own_id : (d : Connection T) → (get_or old i d).id ≡ one.id = λ d. ap (λ it. it.id) (was d) in
    let own = keeps_own old i one.id hub between rising within own_id keeps in
    let turns : Turns taken coming made (IsRefused refuses hub) one after here fs
    = turn_kept taken coming made (IsRefused refuses between) (IsRefused refuses hub) one after here fs (λ (at, same, why). (at, (λ held has. same held (own held has)), why)) over in
    let backs : HoldsBack foresees prepares (is_other first one.id) hub mid to one after = holds_kept foresees prepares (is_other first one.id) between hub mid to one after own back in
    let orders : KeepsOrder (is_other first one.id) one.held.kind hub fs = λ behind editor. no_commands_over hub between one.id own fs turns.own (ordered behind editor) in
    let same_still = stays_over one.held.kind one.id hub between mid to fs turns.own own same_desk in
    let desks = all.desks in
    let left = all.left ++ to ∷ [] in
    let at_now : get_or left i from ≡ to = last_desk all.left i to from (sym desks) in
    let at_mid : get_or (from ∷ left) i from ≡ mid = front_desk (from ∷ all.left) to i from (omega (arith, desks)) ∙ sym all.last in
    let as_before : (k : ℕ) → k ≤ i → first_at old (set now i after) k ≡ first_at old now k = λ k under. ap (λ l. first_since (first_of old) l) (take-set-le k now i after under) in
    let at_first : (k : ℕ) → k ≡ i → first_at old (set now i after) k ≡ first = λ k same. as_before k (omega (arith, same)) ∙ ap (λ (j : ℕ). first_at old now j) same ∙ sym all.is_now in
    let front : (k : ℕ) → k < i → get_or left k from ≡ get_or all.left k from = λ k under. front_desk all.left to k from (omega (arith, desks, under)) in
    let front_from : (k : ℕ) → k < i → get_or (from ∷ left) k from ≡ get_or (from ∷ all.left) k from = λ k under. front_desk (from ∷ all.left) to k from (omega (arith, desks, under)) in
    record {
      len = length-set now i after ∙ len;
      moves = all.moves ++ here ∷ [];
      count = length-append all.moves (here ∷ []) ∙ ap (λ n. n + 1) count;
      within = omega (arith, within);
      has_moved = moved ∙ ap (λ b. b || here) all.has_moved ∙ sym (any_more all.moves here);
      is_now = first_more old now i after first later in_now all.is_now holds;
      turns = λ k d under below. elim (eqb_tells k i) [
        | inl same ↦
            let at : get_or old k d ≡ one = ap (λ (j : ℕ). get_or old j d) same.1 ∙ was d in
            let less : AreBelow one.id es = subst (λ it. AreBelow it.id es) (was d) (all.below i d (omega arith) within) in
            let events : events_of one.id (es ++ fs) ≡ fs
            = events_joined one.id es fs ∙ ap (λ l. l ++ events_of one.id fs) (below_none one.id es less) ∙ own_all one.id fs turns.own in
            let last : get_or (all.moves ++ here ∷ []) k false ≡ here = last_move all.moves k here (same.1 ∙ sym count) in
            rw (get_or-set_at now i k after d same.1 in_now, at, events, last) turns
        | inr other ↦
            let earlier : k < i = omega (arith, under, other.1) in
            let moves : get_or (all.moves ++ here ∷ []) k false ≡ get_or all.moves k false = front_move all.moves here k (omega (arith, earlier, count)) in
            let apart : one.id ≢ (get_or old k d).id = λ same. (let lt = rising k i d earlier within in let e = own_id d in absurd (omega (arith, lt, e, same))) in
            let events : events_of (get_or old k d).id (es ++ fs) ≡ events_of (get_or old k d).id es
            = events_joined (get_or old k d).id es fs ∙ ap (λ l. events_of (get_or old k d).id es ++ l) (own_none one.id (get_or old k d).id fs turns.own apart) ∙ append-nil (events_of (get_or old k d).id es) in
            rw (get_or-set_other now i k after d other.1, events, moves) (all.turns k d earlier below)
      ];
      left = left;
      desks = length-append all.left (to ∷ []) ∙ ap (λ n. n + 1) desks;
      last = sym (last_desk (from ∷ all.left) (i + 1) to from (omega (arith, desks)));
      closed = λ k under. elim (eqb_tells k i) [
        | inl same ↦ subst (λ (j : ℕ). (stands (get_or (from ∷ left) j from)).closed ≡ true → (stands (get_or left j from)).closed ≡ true) (sym same.1) (rw (at_mid, at_now) shuts)
        | inr other ↦ let earlier : k < i = omega (arith, under, other.1) in rw (front k earlier, front_from k earlier) (all.closed k earlier)
      ];
      caused = λ k d under below. elim (eqb_tells k i) [
        | inl same ↦
            let at : get_or old k d ≡ one = ap (λ (j : ℕ). get_or old j d) same.1 ∙ was d in
            let less : AreBelow one.id es = subst (λ it. AreBelow it.id es) (was d) (all.below i d (omega arith) within) in
            let events : events_of one.id (es ++ fs) ≡ fs
            = events_joined one.id es fs ∙ ap (λ l. l ++ events_of one.id fs) (below_none one.id es less) ∙ own_all one.id fs turns.own in
            let desk : get_or left k from ≡ to = ap (λ (j : ℕ). get_or left j from) same.1 ∙ at_now in
            rw (get_or-set_at now i k after d same.1 in_now, at, events, desk) cause
        | inr other ↦
            let earlier : k < i = omega (arith, under, other.1) in
            let apart : one.id ≢ (get_or old k d).id = λ same. (let lt = rising k i d earlier within in let e = own_id d in absurd (omega (arith, lt, e, same))) in
            let events : events_of (get_or old k d).id (es ++ fs) ≡ events_of (get_or old k d).id es
            = events_joined (get_or old k d).id es fs ∙ ap (λ l. events_of (get_or old k d).id es ++ l) (own_none one.id (get_or old k d).id fs turns.own apart) ∙ append-nil (events_of (get_or old k d).id es) in
            rw (get_or-set_other now i k after d other.1, events, front k earlier) (all.caused k d earlier below)
      ];
      stays = λ k d under below. elim (eqb_tells k i) [
        | inl same ↦
            let at : get_or old k d ≡ one = ap (λ (j : ℕ). get_or old j d) same.1 ∙ was d in
            let less : AreBelow one.id es = subst (λ it. AreBelow it.id es) (was d) (all.below i d (omega arith) within) in
            let events : events_of one.id (es ++ fs) ≡ fs
            = events_joined one.id es fs ∙ ap (λ l. l ++ events_of one.id fs) (below_none one.id es less) ∙ own_all one.id fs turns.own in
            let before_it : get_or (from ∷ left) k from ≡ mid = ap (λ (j : ℕ). get_or (from ∷ left) j from) same.1 ∙ at_mid in
            let behind_it : get_or left k from ≡ to = ap (λ (j : ℕ). get_or left j from) same.1 ∙ at_now in
            rw (at, events, before_it, behind_it) same_still
        | inr other ↦
            let earlier : k < i = omega (arith, under, other.1) in
            let apart : one.id ≢ (get_or old k d).id = λ same. (let lt = rising k i d earlier within in let e = own_id d in absurd (omega (arith, lt, e, same))) in
            let events : events_of (get_or old k d).id (es ++ fs) ≡ events_of (get_or old k d).id es
            = events_joined (get_or old k d).id es fs ∙ ap (λ l. events_of (get_or old k d).id es ++ l) (own_none one.id (get_or old k d).id fs turns.own apart) ∙ append-nil (events_of (get_or old k d).id es) in
            rw (events, front k earlier, front_from k earlier) (all.stays k d earlier below)
      ];
      prepared = λ k d under below. elim (eqb_tells k i) [
        | inl same ↦
            let at : get_or old k d ≡ one = ap (λ (j : ℕ). get_or old j d) same.1 ∙ was d in
            let before_it : get_or (from ∷ left) k from ≡ mid = ap (λ (j : ℕ). get_or (from ∷ left) j from) same.1 ∙ at_mid in
            let behind_it : get_or left k from ≡ to = ap (λ (j : ℕ). get_or left j from) same.1 ∙ at_now in
            rw (at_first k same.1, get_or-set_at now i k after d same.1 in_now, at, before_it, behind_it) backs
        | inr other ↦
            let earlier : k < i = omega (arith, under, other.1) in
            rw (as_before k (omega (arith, earlier)), get_or-set_other now i k after d other.1, front k earlier, front_from k earlier) (all.prepared k d earlier below)
      ];
      orders = λ k d under below. elim (eqb_tells k i) [
        | inl same ↦
            let at : get_or old k d ≡ one = ap (λ (j : ℕ). get_or old j d) same.1 ∙ was d in
            let less : AreBelow one.id es = subst (λ it. AreBelow it.id es) (was d) (all.below i d (omega arith) within) in
            let events : events_of one.id (es ++ fs) ≡ fs
            = events_joined one.id es fs ∙ ap (λ l. l ++ events_of one.id fs) (below_none one.id es less) ∙ own_all one.id fs turns.own in
            rw (at_first k same.1, at, events) orders
        | inr other ↦
            let earlier : k < i = omega (arith, under, other.1) in
            let apart : one.id ≢ (get_or old k d).id = λ same. (let lt = rising k i d earlier within in let e = own_id d in absurd (omega (arith, lt, e, same))) in
            let events : events_of (get_or old k d).id (es ++ fs) ≡ events_of (get_or old k d).id es
            = events_joined (get_or old k d).id es fs ∙ ap (λ l. events_of (get_or old k d).id es ++ l) (own_none one.id (get_or old k d).id fs turns.own apart) ∙ append-nil (events_of (get_or old k d).id es) in
            rw (as_before k (omega (arith, earlier)), events) (all.orders k d earlier below)
      ];
      rest = λ k d from below. rw (get_or-set_other now i k after d (λ same. absurd (omega (arith, from, same)))) (all.rest k d (omega (arith, from)) below);
      below = below_from_more old i one.id es fs rising within own_id all.below turns.own;
      no_other = λ id apart.
          let here : one.id ≢ id = λ same. apart i one within (own_id one ∙ same) in
          events_joined id es fs ∙ ap (λ l. l ++ events_of id fs) (all.no_other id apart) ∙ own_none one.id id fs turns.own here;
      are_turns = turns_of_joined es fs all.are_turns turns.are_turns;
      by_id = by_id_joined one.id es fs all.by_id (subst (λ it. AreBelow it.id es) (was one) (all.below i one (omega arith) within)) turns.own;
    }

-- each had its turn
pub turn_whole : {K T : Type 0} (stands : K → Condition) (foresees : K → Expected → K → Type 0) (prepares : K → Result Bool Fault → K → Type 0) (taken coming : T → Option (List ℕ)) (made : T → Option (List Call))
    (refuses : Hub → ℕ → Kind → Option HubFault → Type 0) (hub : Hub) (from to : K) (old now : List (Connection T)) (i : ℕ) (first : Option ℕ) (moved : Bool) (events : List Accepted) → length old ≤ i
    → TurnUpTo stands foresees prepares taken coming made refuses hub from to old now i first moved events → TurnAll stands foresees prepares taken coming made refuses hub from to old now moved events
turn_whole stands foresees prepares taken coming made refuses hub from to old now i first moved events whole all =
    let at : i ≡ length old = let in_all = all.within in omega (arith, whole, in_all) in
    record {
      len = all.len;
      moves = all.moves;
      count = let in_all = all.within in let count = all.count in omega (arith, whole, in_all, count);
      has_moved = all.has_moved;
      turns = λ k d within. all.turns k d (omega (arith, within, at)) within;
      left = all.left;
      desks = all.desks ∙ at;
      last = all.last ∙ ap (λ (k : ℕ). get_or (from ∷ all.left) k from) at;
      closed = λ k within. all.closed k (omega (arith, within, at));
      caused = λ k d within. all.caused k d (omega (arith, within, at)) within;
      stays = λ k d within. all.stays k d (omega (arith, within, at)) within;
      prepared = λ k d within. all.prepared k d (omega (arith, within, at)) within;
      orders = λ k d within. all.orders k d (omega (arith, within, at)) within;
      no_other = all.no_other;
      are_turns = all.are_turns;
      by_id = all.by_id;
    }

pub turn_ids : {K T : Type 0} {stands : K → Condition} {foresees : K → Expected → K → Type 0} {prepares : K → Result Bool Fault → K → Type 0} {moved : Bool} {taken coming : T → Option (List ℕ)} {made : T → Option (List Call)}
    {refuses : Hub → ℕ → Kind → Option HubFault → Type 0} {hub : Hub} {from to : K} (old new : List (Connection T)) (events : List Accepted)
    → TurnAll stands foresees prepares taken coming made refuses hub from to old new moved events → HaveSameIds old new
turn_ids old new events all = record { len = all.len; same = λ k d within. (all.turns k d within).id }

pub depart_ids : {T : Type 0} {moved : Bool} {taken coming : T → Option (List ℕ)} {made : T → Option (List Call)} (old new : List (Connection T)) → DepartAll taken coming made old new moved → HaveSameIds old new
depart_ids old new all = record { len = all.len; same = λ k d within. (all.departs k d within).id }

-- what waits is what waited
pub moves_same : {T : Type 0} {G : Ghosts T} (a b : Connections T G) → b.last ≡ a.last → ((id : ℕ) (octets : List ℕ) → Waits b id octets → Waits a id octets) → Moves a b []
moves_same a b last waits = record {
  last = omega (arith, last);
  given = λ id above. refl;
  waits = λ id octets now. record { before = octets; was = inl (waits id octets now); flows = flows_none octets };
}

-- the connections are the same
pub moves_as : {T : Type 0} {G : Ghosts T} (a b : Connections T G) → b ≡ a → Moves a b []
moves_as a b same = moves_same a b (ap (λ all. all.last) same) (λ id octets now. subst (λ all. Waits all id octets) same now)

pub moves_joined : {T : Type 0} {G : Ghosts T} (a b c : Connections T G) (es fs : List Accepted) → Moves a b es → Moves b c fs → Moves a c (es ++ fs)
moves_joined a b c es fs first then =
    let up = first.last in
    let on = then.last in
    record {
      last = omega arith;
      given = λ id above. events_joined id es fs ∙ ap (λ l. l ++ events_of id fs) (first.given id (omega arith)) ∙ then.given id above;
      waits = λ id octets now.
          let later = then.waits id octets now in
          elim later.was [
            | inl was ↦
                let earlier = first.waits id later.before was in
                record {
                  before = earlier.before;
                  was = earlier.was;
                  flows = subst (λ l. Flows earlier.before l octets) (sym (events_joined id es fs)) (flows_joined earlier.before (events_of id es) later.before (events_of id fs) octets earlier.flows later.flows);
                }
            | inr fresh ↦
                let above = fresh.0 in
                record {
                  before = [];
                  was = inr (omega arith, refl);
                  flows = flows_as later.before [] (events_of id fs) (events_of id (es ++ fs)) octets octets fresh.1
                      (sym (events_joined id es fs ∙ ap (λ l. l ++ events_of id fs) (first.given id above))) refl later.flows;
                }
          ];
    }

-- a connection was opened
pub moves_opened : {T : Type 0} {G : Ghosts T} (a b : Connections T G) (one : Connection T) (events : List Accepted) → b.opened.items ≡ a.opened.items ++ one ∷ [] → b.departing.items ≡ a.departing.items → b.last ≡ one.id → a.last < one.id
    → AreEventsOf one.id events → Flows [] events (waiting one.queue) → Moves a b events
moves_opened a b one events opened departing last above own flows =
    let none : (id : ℕ) → id ≤ a.last → events_of id events ≡ [] = λ id under. own_none one.id id events own (λ same. absurd (omega arith)) in
    record {
      last = omega arith;
      given = λ id over. own_none one.id id events own (λ same. absurd (omega arith));
      waits = λ id octets now. elim now [
        | inl is ↦ elim (among_append a.opened.items (one ∷ []) id octets (subst (λ l. WaitsAmong l id octets) opened is)) [
          | inl was ↦ record { before = octets; was = inl (inl was); flows = subst (λ l. Flows octets l octets) (sym (none id (all_among (λ i. i ≤ a.last) a.opened.items id octets a.given_open was))) (flows_none octets) }
          | inr fresh ↦ elim fresh [
            | inl here ↦
                let same : one.id ≡ id = here.0 in
                record {
                  before = [];
                  was = inr (omega arith, refl);
                  flows = flows_as [] [] events (events_of id events) (waiting one.queue) octets refl (sym (own_all id events (subst (λ (i : ℕ). AreEventsOf i events) same own))) here.1 flows;
                }
            | inr never ↦ absurd never
          ]
        ]
        | inr is ↦
            let was = subst (λ l. WaitsAmong l id octets) departing is in
            record { before = octets; was = inl (inr was); flows = subst (λ l. Flows octets l octets) (sym (none id (all_among (λ i. i ≤ a.last) a.departing.items id octets a.given_departing was))) (flows_none octets) }
      ];
    }

-- each had its turn
pub moves_turned : {K T : Type 0} {G : Ghosts T} {stands : K → Condition} {foresees : K → Expected → K → Type 0} {prepares : K → Result Bool Fault → K → Type 0} {taken coming : T → Option (List ℕ)} {made : T → Option (List Call)}
    {refuses : Hub → ℕ → Kind → Option HubFault → Type 0} {hub : Hub} {from to : K} (a b : Connections T G) (moved : Bool) (events : List Accepted)
    → TurnEach stands foresees prepares taken coming made refuses hub from to a b moved events → Moves a b events
moves_turned {taken = taken} {coming = coming} {made = made} a b moved events each =
    let last = each.last in
    let ids = turn_ids a.opened.items each.turned events each.turns in
    let same_len = ids.len in
    let is_turned : (id : ℕ) (octets : List ℕ) → WaitsAmong each.turned id octets → HasWaited a events id octets
    = λ id octets is.
    let s = among_at each.turned id octets is in
    let within : s.place < length each.turned = s.within in
    let below : s.place < length a.opened.items = omega arith in
    let old = get_or a.opened.items s.place s.one in
    let same : old.id ≡ id = sym (ids.same s.place s.one below) ∙ ap (λ it. it.id) (s.at s.one) ∙ s.is in
    record {
      before = waiting old.queue;
      was = inl (inl (subst (λ (i : ℕ). WaitsAmong a.opened.items i (waiting old.queue)) same (place_among a.opened.items s.place s.one below)));
      flows = flows_as (waiting old.queue) (waiting old.queue) (events_of old.id events) (events_of id events) (waiting (get_or each.turned s.place s.one).queue) octets
          refl (ap (λ (i : ℕ). events_of i events) same) (ap (λ it. waiting it.queue) (s.at s.one) ∙ s.waits) (flows_turn taken coming made _ _ _ (each.turns.turns s.place s.one below));
    } in
    let has_departed : (id : ℕ) (octets : List ℕ) → WaitsAmong each.departed id octets → HasWaited a events id octets
    = λ id octets is.
    let s = among_at each.departed id octets is in
    let len = each.departs.len in
    let within : s.place < length each.departed = s.within in
    let below : s.place < length a.departing.items = omega arith in
    let old = get_or a.departing.items s.place s.one in
    let step = each.departs.departs s.place s.one below in
    let same : old.id ≡ id = sym step.id ∙ ap (λ it. it.id) (s.at s.one) ∙ s.is in
    let none : events_of id events ≡ [] = each.turns.no_other id (λ k d in_open equal. a.apart s.place s.one below k d in_open (equal ∙ sym same)) in
    record {
      before = waiting old.queue;
      was = inl (inr (subst (λ (i : ℕ). WaitsAmong a.departing.items i (waiting old.queue)) same (place_among a.departing.items s.place s.one below)));
      flows = flows_as (waiting old.queue) (waiting old.queue) [] (events_of id events) (waiting (get_or each.departed s.place s.one).queue) octets
          refl (sym none) (ap (λ it. waiting it.queue) (s.at s.one) ∙ s.waits) (flows_depart taken coming made _ _ step);
    } in
    record {
      last = omega arith;
      given = λ id above. each.turns.no_other id (λ k d within same. let under = a.given_open k d within in absurd (omega arith));
      waits = λ id octets now. elim now [
        | inl is ↦ is_turned id octets (among_filter (λ one. is_open one.stage) each.turned id octets (subst (λ l. WaitsAmong l id octets) each.opened is))
        | inr is ↦
            let all = filter (λ one. is_held one.stage) each.departed ++ filter (λ one. is_departing one.stage) each.turned in
            elim (among_append (filter (λ one. is_held one.stage) each.departed) (filter (λ one. is_departing one.stage) each.turned) id octets
            (among_drop (length all - 128) all id octets (among_fitting 33554432 (latest 128 all) id octets (subst (λ l. WaitsAmong l id octets) each.departing is)))) [
              | inl left ↦ has_departed id octets (among_filter (λ one. is_held one.stage) each.departed id octets left)
              | inr right ↦ is_turned id octets (among_filter (λ one. is_departing one.stage) each.turned id octets right)
            ]
      ];
    }

-- what is marked is as it was, but for that
pub moves_marked : {T : Type 0} {G : Ghosts T} (is_told : ℕ → Bool) (a b : Connections T G) → MarkAll is_told a.opened.items b.opened.items → MarkAll is_told a.departing.items b.departing.items
    → (id : ℕ) (octets : List ℕ) → Waits b id octets → Waits a id octets
moves_marked is_told a b opened departing id octets (inl is) = inl (marked_among is_told a.opened.items b.opened.items id octets opened is)
moves_marked is_told a b opened departing id octets (inr is) = inr (marked_among is_told a.departing.items b.departing.items id octets departing is)

-- what the opening of a connection is
pub opened_own : {T : Type 0} (id : ℕ) (kind : Kind) (hub : Hub) (one : Connection T) (events : List Accepted) → IsOpened id kind hub one events → AreEventsOf id events
opened_own id kind hub one events (accepted, are, is, stage, has, put, count) = rw are (ap id_of is, tt)

pub opened_flows : {T : Type 0} (id : ℕ) (kind : Kind) (hub : Hub) (one : Connection T) (events : List Accepted) → IsOpened id kind hub one events → Flows [] events (waiting one.queue)
opened_flows id kind hub one events (accepted, are, is, stage, has, put, count) = record { sent = []; put = waiting one.queue; are_put = put; order = refl }

-- those that are no longer open stay so
pub departed_closed : {T : Type 0} {moved : Bool} {taken coming : T → Option (List ℕ)} {made : T → Option (List Call)} (old new : List (Connection T)) → DepartAll taken coming made old new moved
    → All (λ (one : Connection T). is_open one.stage ≡ false) old → All (λ (one : Connection T). is_open one.stage ≡ false) new
departed_closed old new all closed k d within =
    let len = all.len in
    let below : k < length old = omega (arith, len, within) in
    (all.departs k d below).closed (closed k d below)
