-- Where one more event leads.
use Rattle.std.proofs.Common.{◌≡◌, ◌≢◌, ◌==◌, ◌-◌, ℕ, All, length, Bool, true, false, List, [], ◌∷◌, ◌++◌, refl, sym, ap, ◌∙◌, subst, inl, inr}
use Rattle.std.specs.Prelude.{Option, Some, None, Result, Ok, Err, IfOk, OnOk, MatchBool, if◌then◌else◌}
use Rattle.std.proofs.lemmas.Bool.{eqb-true, eq-eqb}
use Rattle.dict_proto.specs.Streams.{Stream, StreamChange}
use Rattle.dict_catalogue.specs.Steps.{Catalogue}
use Rattle.dict_desk.specs.Applying.{LeavesNoMore}
use Rattle.http_service.specs.Responding.{RespondsOrFails, Responds}
use Rattle.http_service.specs.Responding.RespondsOrFails.{answered, unchanged, done, unknown}
use Rattle.http_service.specs.Responding.Responds.{ended as responded, failed as unresponded}
use Rattle.http_service.specs.Settling.{Settled, Settles}
use Rattle.std.proofs.lemmas.List.{length_push}
use Rattle.net_hub.specs.Books.{opening, is_given}
use Rattle.net_hub.specs.Holding.{Holding, left_by}
use Rattle.net_hub.specs.Given.{Greets, CatalogueStays, Gets}
use Rattle.net_hub.specs.Hubs.{HasHolding, host_of, greatest_of, connection_count}
use Rattle.net_hub.specs.Events.{Happening, opened, came, ended, id_of, of_open, admitted, count_after, greatest_after, held_after, Serves}
use Rattle.net_hub.specs.Runs.{State, Standing, Accepted, state_after, IsAt, IsServedEvent, Leads, LeadsOn}
use Rattle.net_hub.specs.declared.kind.Kind.{Kind}
use Rattle.net_hub.specs.declared.kind.Kind.TheVariants.{Dict, Http}
use Rattle.net_hub.specs.declared.hub.Hub.{Hub}
use Rattle.net_hub.specs.declared.incoming.Out.{Out}
use Rattle.net_hub.specs.declared.incoming.Out.TheVariants.{More, Close}
use Rattle.net_hub.specs.declared.fault.HubFault.{HubFault}
use Rattle.net_hub.specs.declared.fault.HubFault.TheVariants.{UnknownConnection}
use Rattle.net_hub.proofs.HubLemmas.{new_absent}
use Rattle.dict_session.specs.Desks.{Condition}

-- one of the states that a stop may leave lists, after an answer that acted or not
pinned_leaves : (Before After : List (Option Catalogue) → Type 0) (l : List (Option Catalogue)) (acts : Bool) (M : Catalogue) → Before l
    → MatchBool acts (After (Some M ∷ [])) (LeavesNoMore Before After)
    → (k : List (Option Catalogue)) × After k × MatchBool acts ((Some M ∷ []) ≡ k) (LeavesNoMore (λ ms. ms ≡ l) (λ ms. ms ≡ k))
pinned_leaves Before After l true M here leaves = (Some M ∷ [], leaves, refl)
pinned_leaves Before After l false M here leaves = (l, leaves l here, λ ms e. e)

-- what the desk stands at after an answer, where it stood at one state before
record Pinned (Shows : Catalogue → Type 0) (After : List (Option Catalogue) → Type 0) (P : Standing → Type 0) : Type 0 where
  at : Standing
  shows : Shows at.catalogue
  leaves : After at.leaves
  holds : P at

pinned_ends : (closed : Bool) (Shows : Catalogue → Type 0) (Before After : List (Option Catalogue) → Type 0) (before : Catalogue) (l : List (Option Catalogue)) (settled : Settled) (octets : List ℕ) → Before l
    → RespondsOrFails closed Shows Before After before settled octets
    → Pinned Shows After (λ at. RespondsOrFails closed (λ M. M ≡ at.catalogue) (λ ms. ms ≡ l) (λ ms. ms ≡ at.leaves) before settled octets)
pinned_ends closed Shows Before After before l settled octets here (answered is shows leaves) =
    let k = pinned_leaves Before After l settled.acts settled.catalogue here leaves in
    record { at = record { catalogue = settled.catalogue; leaves = k.0 }; shows = shows; leaves = k.1; holds = answered is refl k.2 }
pinned_ends closed Shows Before After before l settled octets here (unchanged is shows leaves) =
    record { at = record { catalogue = before; leaves = l }; shows = shows; leaves = leaves l here; holds = unchanged is refl (λ ms e. e) }
pinned_ends closed Shows Before After before l settled octets here (done is shows leaves) =
    let k = pinned_leaves Before After l settled.acts settled.catalogue here leaves in
    record { at = record { catalogue = settled.catalogue; leaves = k.0 }; shows = shows; leaves = k.1; holds = done is refl k.2 }
pinned_ends closed Shows Before After before l settled octets here (unknown is shut (inl shows) leaves) =
    record { at = record { catalogue = before; leaves = Some settled.catalogue ∷ l }; shows = shows; leaves = leaves l here; holds = unknown is shut (inl refl) (λ ms e. ap (λ x. Some settled.catalogue ∷ x) e) }
pinned_ends closed Shows Before After before l settled octets here (unknown is shut (inr shows) leaves) =
    record { at = record { catalogue = settled.catalogue; leaves = Some settled.catalogue ∷ l }; shows = shows; leaves = leaves l here; holds = unknown is shut (inr refl) (λ ms e. ap (λ x. Some settled.catalogue ∷ x) e) }

pinned_responds : (closed : Bool) (Shows : Catalogue → Type 0) (Before After : List (Option Catalogue) → Type 0) (before : Catalogue) (l : List (Option Catalogue)) (Is : Settled → Type 0) (octets : List ℕ) → Before l
    → Responds closed Shows Before After before Is octets
    → Pinned Shows After (λ at. Responds closed (λ M. M ≡ at.catalogue) (λ ms. ms ≡ l) (λ ms. ms ≡ at.leaves) before Is octets)
pinned_responds closed Shows Before After before l Is octets here (responded settled is ends) =
    let p = pinned_ends closed Shows Before After before l settled octets here ends in
    record { at = p.at; shows = p.shows; leaves = p.leaves; holds = responded settled is p.holds }
pinned_responds closed Shows Before After before l Is octets here (unresponded is shows leaves) =
    record { at = record { catalogue = before; leaves = l }; shows = shows; leaves = leaves l here; holds = unresponded is refl (λ ms e. e) }

pinned_stays : (Shows : Catalogue → Type 0) (Before After : List (Option Catalogue) → Type 0) (before : Catalogue) (l : List (Option Catalogue)) → Before l
    → CatalogueStays Shows Before After before
    → Pinned Shows After (λ at. CatalogueStays (λ M. M ≡ at.catalogue) (λ ms. ms ≡ l) (λ ms. ms ≡ at.leaves) before)
pinned_stays Shows Before After before l here stays = record {
  at = record { catalogue = before; leaves = l };
  shows = stays.shows;
  leaves = stays.leaves l here;
  holds = record { shows = refl; leaves = λ ms e. e };
}

pinned_gets : (host : List ℕ) (desk : Condition) (Shows : Catalogue → Type 0) (Before After : List (Option Catalogue) → Type 0) (before : Catalogue) (l : List (Option Catalogue)) (kind : Kind) (octets : List ℕ) (out : Out)
    (old new : Stream)
    → Before l → Gets host desk Shows Before After before kind octets out old new
    → Pinned Shows After (λ at. Gets host desk (λ M. M ≡ at.catalogue) (λ ms. ms ≡ l) (λ ms. ms ≡ at.leaves) before kind octets out old new)
pinned_gets host desk Shows Before After before l Dict octets out old new here gets =
    let p = pinned_stays Shows Before After before l here gets.1 in
    record { at = p.at; shows = p.shows; leaves = p.leaves; holds = (gets.0, p.holds) }
pinned_gets host desk Shows Before After before l Http octets More old new here gets =
    let p = pinned_stays Shows Before After before l here gets.2 in
    record { at = p.at; shows = p.shows; leaves = p.leaves; holds = (gets.0, gets.1, p.holds) }
pinned_gets host desk Shows Before After before l Http octets Close old new here gets =
    let p = pinned_responds desk.closed Shows Before After before l (Settles before octets) gets.answer here gets.responds in
    record { at = p.at; shows = p.shows; leaves = p.leaves; holds = record { whole = gets.whole; answer = gets.answer; responds = p.holds; puts = gets.puts } }

pinned_serves : (host : List ℕ) (desk : Condition) (Shows : Catalogue → Type 0) (Before After : List (Option Catalogue) → Type 0) (before : Catalogue) (l : List (Option Catalogue)) (held : Option Holding) (what : Happening)
    (out : Out) (old new : Stream)
    → Before l → Serves host desk Shows Before After before held what out old new
    → Pinned Shows After (λ at. Serves host desk (λ M. M ≡ at.catalogue) (λ ms. ms ≡ l) (λ ms. ms ≡ at.leaves) before held what out old new)
pinned_serves host desk Shows Before After before l held (opened id kind) out old new here serves =
    let p = pinned_stays Shows Before After before l here serves.1 in
    record { at = p.at; shows = p.shows; leaves = p.leaves; holds = (serves.0, p.holds) }
pinned_serves host desk Shows Before After before l None (came id piece) out old new here serves = absurd serves
pinned_serves host desk Shows Before After before l (Some held) (came id piece) out old new here serves =
    pinned_gets host desk Shows Before After before l held.kind (held.octets ++ piece) out old new here serves
pinned_serves host desk Shows Before After before l held (ended id) out old new here serves =
    let p = pinned_stays Shows Before After before l here serves.stays in
    record { at = p.at; shows = p.shows; leaves = p.leaves; holds = record { no_close = serves.no_close; nothing = serves.nothing; stays = p.holds } }

-- one more event behind others
leads_further : (origin : State) (start : Standing) (events : List Accepted) (state : State) (stands : Standing) (one : Accepted)
    → Leads origin start events state stands → one.before ≡ stands → IsServedEvent state one
    → Leads origin start (events ++ one ∷ []) (state_after state one.what one.out) one.after
leads_further origin start [] state stands one leads is step =
    (is ∙ leads.1, subst (λ s. IsServedEvent s one) leads.0 step, (ap (λ s. state_after s one.what one.out) leads.0, refl))
leads_further origin start (first ∷ events) state stands one leads is step =
    (leads.0, leads.1, leads_further (state_after origin first.what first.out) first.after events state stands one leads.2 is step)

-- what is held of each id after an event
held_all : (hub : Hub) (state : State) (what : Happening) (out : Out)
    → HasHolding hub (id_of what) (held_after (state.held (id_of what)) what out)
    → ((other : ℕ) → other ≢ id_of what → HasHolding hub other (state.held other))
    → (id : ℕ) → HasHolding hub id ((state_after state what out).held id)
held_all hub state what out own others id =
    let told : (b : Bool) → (id == id_of what) ≡ b → HasHolding hub id (if b then held_after (state.held (id_of what)) what out else state.held id)
    = λ b. elim b as (λ v. (id == id_of what) ≡ v → HasHolding hub id (if v then held_after (state.held (id_of what)) what out else state.held id)) [
      | true ↦ λ e. subst (λ (i : ℕ). HasHolding hub i (held_after (state.held (id_of what)) what out)) (sym (eqb-true _ _ e)) own
      | false ↦ λ e. others id (λ same. let t = eq-eqb id (id_of what) same in cc (t, e))
    ] in
    told (id == id_of what) refl

-- an event that was accepted was admitted
passes_unless : (test : Result (Unit {0}) HubFault) (out : Out) → ((fault : HubFault) → test ≡ Err fault → let told : Result Out HubFault = Ok out in told ≡ Err fault) → test ≡ Ok tt
passes_unless (Ok passed) out never = refl
passes_unless (Err fault) out never = let e = never fault refl in cc e

-- an event that was served so, of a hub at a state, leads on
pub leads_on : (Shows : Catalogue → Type 0) (Before After : List (Option Catalogue) → Type 0) (origin : State) (start : Standing) (events : List Accepted) (state : State) (stands : Standing)
    (what : Happening) (desk : Condition) (put : StreamChange) (old hub : Hub) (result : Result Out HubFault)
    → Leads origin start events state stands → IsAt old state → Before stands.leaves
    → ((held : Option Holding) → HasHolding old (id_of what) held → IfOk result (λ out. Serves (host_of old) desk Shows Before After stands.catalogue held what out put.old put.new))
    → ((held : Option Holding) → HasHolding old (id_of what) held → IfOk result (λ out. HasHolding hub (id_of what) (held_after held what out)))
    → OnOk result ((other : ℕ) (held : Option Holding) → other ≢ id_of what → HasHolding old other held → HasHolding hub other held)
    → OnOk result (greatest_of hub ≡ greatest_after (greatest_of old) what)
    → host_of hub ≡ host_of old
    → ((held : Option Holding) → HasHolding old (id_of what) held → (fault : HubFault) → admitted held (greatest_of old) (connection_count old) what ≡ Err fault → result ≡ Err fault)
    → ((held : Option Holding) → HasHolding old (id_of what) held → IfOk result (λ out. connection_count hub ≡ count_after (connection_count old) held (held_after held what out)))
    → IfOk result (λ out. LeadsOn Shows After origin start events state stands what out desk put hub)
leads_on Shows Before After origin start events state stands what desk put old hub (Err fault) leads at here serves own others greatest host refused count = tt
leads_on Shows Before After origin start events state stands what desk put old hub (Ok out) leads at here serves own others greatest host refused count =
    let held = state.held (id_of what) in
    let there = at.held (id_of what) in
    let served = subst (λ (h : List ℕ). Serves h desk Shows Before After stands.catalogue held what out put.old put.new) at.host (serves held there) in
    let p = pinned_serves state.host desk Shows Before After stands.catalogue stands.leaves held what out put.old put.new here served in
    let passed : admitted held (greatest_of old) (connection_count old) what ≡ Ok tt = passes_unless (admitted held (greatest_of old) (connection_count old) what) out (refused held there) in
    let passes : admitted held state.greatest state.count what ≡ Ok tt
    = subst (λ (g : Option ℕ). admitted held g state.count what ≡ Ok tt) at.greatest (subst (λ (n : ℕ). admitted held (greatest_of old) n what ≡ Ok tt) at.count passed) in
    record {
      after = p.at;
      leads = leads_further origin start events state stands (record { what = what; out = out; desk = desk; put = put; before = stands; after = p.at }) leads refl (record { passes = passes; serves = p.holds });
      is_at = record {
        host = host ∙ at.host;
        greatest = greatest ∙ ap (λ g. greatest_after g what) at.greatest;
        count = count held there ∙ ap (λ n. count_after n held (held_after held what out)) at.count;
        held = held_all hub state what out (own held there) (λ other ne. others other (state.held other) ne (at.held other));
      };
      shows = p.shows;
      leaves = p.leaves;
    }

-- an opening is served by its greeting
pub serves_opened : (host : List ℕ) (desk : Condition) (Shows : Catalogue → Type 0) (Before After : List (Option Catalogue) → Type 0) (before : Catalogue) (held : Option Holding) (id : ℕ) (kind : Kind) (old new : Stream)
    (result : Result Out HubFault)
    → CatalogueStays Shows Before After before → IfOk result (λ out. Greets host id kind out old new)
    → IfOk result (λ out. Serves host desk Shows Before After before held (opened id kind) out old new)
serves_opened host desk Shows Before After before held id kind old new (Ok out) stays greets = (greets, stays)
serves_opened host desk Shows Before After before held id kind old new (Err fault) stays greets = tt

-- an end is served by nothing
pub serves_ended : (host : List ℕ) (desk : Condition) (Shows : Catalogue → Type 0) (Before After : List (Option Catalogue) → Type 0) (before : Catalogue) (held : Option Holding) (id : ℕ) (stream : Stream) (fault : HubFault)
    (result : Result Out HubFault)
    → CatalogueStays Shows Before After before → (held ≡ None → result ≡ Err fault) → ((one : Holding) → held ≡ Some one → result ≡ Ok More)
    → IfOk result (λ out. Serves host desk Shows Before After before held (ended id) out stream stream)
serves_ended host desk Shows Before After before None id stream fault result stays absent known =
    subst (λ r. IfOk r (λ out. Serves host desk Shows Before After before None (ended id) out stream stream)) (sym (absent refl)) tt
serves_ended host desk Shows Before After before (Some one) id stream fault result stays absent known =
    subst (λ r. IfOk r (λ out. Serves host desk Shows Before After before (Some one) (ended id) out stream stream)) (sym (known one refl))
    (record { no_close = refl; nothing = refl; stays = stays })

pub own_ended : (hub : Hub) (held : Option Holding) (id : ℕ) (fault : HubFault) (result : Result Out HubFault)
    → (held ≡ None → result ≡ Err fault) → ((one : Holding) → held ≡ Some one → HasHolding hub id None)
    → IfOk result (λ out. HasHolding hub id (held_after held (ended id) out))
own_ended hub None id fault result absent known = subst (λ r. IfOk r (λ out. HasHolding hub id (held_after None (ended id) out))) (sym (absent refl)) tt
own_ended hub (Some one) id fault (Ok out) absent known = known one refl
own_ended hub (Some one) id fault (Err other) absent known = tt

pub on_ok : {T E : Type 0} {P : Type 0} (result : Result T E) → P → OnOk result P
on_ok (Ok value) p = p
on_ok (Err fault) p = tt

-- what is refused of octets or an end
pub refused_unless : (held : Option Holding) (result : Result Out HubFault) → (held ≡ None → result ≡ Err UnknownConnection) → (fault : HubFault) → of_open held ≡ Err fault → result ≡ Err fault
refused_unless None result absent fault is = let e = absent refl in cc (e, is)
refused_unless (Some one) result absent fault is = cc is

-- how many are open then
pub count_piece : (before : ℕ) (now : ℕ) (held : Option Holding) (piece : List ℕ) (result : Result Out HubFault) → (held ≡ None → result ≡ Err UnknownConnection)
    → ((one : Holding) → held ≡ Some one → IfOk result (λ out. now ≡ count_after before (Some one) (left_by one.kind (one.octets ++ piece) out)))
    → (id : ℕ) → IfOk result (λ out. now ≡ count_after before held (held_after held (came id piece) out))
count_piece before now None piece result absent known id = subst (λ r. IfOk r (λ out. now ≡ before)) (sym (absent refl)) tt
count_piece before now (Some one) piece result absent known id = known one refl

pub count_ended : (before : ℕ) (now : ℕ) (held : Option Holding) (result : Result Out HubFault) → (held ≡ None → result ≡ Err UnknownConnection) → OnOk result (now ≡ before - 1)
    → (id : ℕ) → IfOk result (λ out. now ≡ count_after before held (held_after held (ended id) out))
count_ended before now None result absent count id = subst (λ r. IfOk r (λ out. now ≡ before)) (sym (absent refl)) tt
count_ended before now (Some one) (Ok out) absent count id = count
count_ended before now (Some one) (Err fault) absent count id = tt

-- an opening that is accepted is of an id that stood nowhere
pub count_opened : (hub : Hub) (now : ℕ) (id : ℕ) (kind : Kind) (held : Option Holding) (result : Result Out HubFault) → All (λ one. is_given hub.book.greatest one ≡ true) hub.book.ids.items → HasHolding hub id held
    → ((fault : HubFault) → opening id (greatest_of hub) (connection_count hub) ≡ Err fault → result ≡ Err fault)
    → IfOk result (λ out. now ≡ count_after (connection_count hub) None (left_by kind [] out)) → IfOk result (λ out. now ≡ count_after (connection_count hub) held (left_by kind [] out))
count_opened hub now id kind held (Err fault) given has tests count = tt
count_opened hub now id kind None (Ok out) given has tests count = count
count_opened hub now id kind (Some one) (Ok out) given has tests count =
    absurd (new_absent hub.book.ids.items id hub.book.greatest (connection_count hub) (passes_unless (opening id (greatest_of hub) (connection_count hub)) out tests) given has.place has.within has.is)

-- how many are open once one was greeted, and is kept or only its id is given
pub count_kept : (ids ids' : List ℕ) (id : ℕ) (kind : Kind) (out : Out) (P Q : Type 0) → (out ≡ More → (ids' ≡ ids ++ id ∷ []) × P) → (out ≡ Close → (ids' ≡ ids) × Q)
    → length ids' ≡ count_after (length ids) None (left_by kind [] out)
count_kept ids ids' id kind More P Q more close = ap length (more refl).0 ∙ length_push ids id
count_kept ids ids' id kind Close P Q more close = ap length (close refl).0
