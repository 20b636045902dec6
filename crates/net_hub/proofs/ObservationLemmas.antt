-- The commands of a run, and what one connection sees of it.
use Rattle.std.proofs.Common.{◌≡◌, ◌≢◌, ◌==◌, ℕ, Bool, true, false, List, [], ◌∷◌, ◌++◌, refl, sym, ap, ◌∙◌, subst, inl, inr}
use Rattle.std.specs.Prelude.{Option, Some, None, MatchOption, map, if◌then◌else◌}
use Rattle.std.proofs.lemmas.Bool.{eqb-true, eq-eqb}
use Rattle.dict_proto.specs.Streams.{Stream}
use Rattle.dict_catalogue.specs.Steps.{Catalogue, CommandRequest, after, step, kept_under}
use Rattle.dict_catalogue.specs.Effects.{KeptReply}
use Rattle.http_request.specs.Requests.{EditorRequest as WholeRequest}
use Rattle.http_service.specs.Answers.{Response}
use Rattle.http_service.specs.Actions.{BodyMeaning, command as said_command, no_edition, unformed, action_of}
use Rattle.http_service.specs.Responding.RespondsOrFails.{answered, unchanged, done, unknown}
use Rattle.http_service.specs.Responding.Responds.{ended as responded, failed as unresponded}
use Rattle.http_service.specs.Responding.{Responds}
use Rattle.http_service.specs.Settling.{Settled, Settles, SettlesAction, SettlesIds, SettlesNew, SettlesRequest, stays, settled_by}
use Rattle.http_service.specs.declared.actions.Action.{Action}
use Rattle.http_service.specs.declared.actions.Action.TheVariants.{List as Listing, Install, Retire, Rollback, Place, PutVirtual}
use Rattle.net_hub.specs.Holding.{Holding}
use Rattle.net_hub.specs.Given.{Gets}
use Rattle.net_hub.specs.Events.{Happening, opened, came, ended, id_of, held_after, Serves}
use Rattle.net_hub.specs.Undisturbed.{Served, IsServed}
use Rattle.net_hub.specs.Runs.{State, Standing, Accepted, EventAt, event_asked, state_after, Leads, GoWell, events_of}
use Rattle.net_hub.specs.Observations.{Observation, own, command, AreObservations}
use Rattle.net_hub.specs.declared.kind.Kind.{Kind}
use Rattle.net_hub.specs.declared.kind.Kind.TheVariants.{Dict, Http}
use Rattle.net_hub.specs.declared.incoming.Out.{Out}
use Rattle.net_hub.specs.declared.incoming.Out.TheVariants.{More, Close}
use Rattle.dict_session.specs.Desks.{Condition}

-- commands make this catalogue of that one
record ByCommands (before M : Catalogue) : Type 0 where
  requests : List CommandRequest
  is : M ≡ after before requests

by_none : (before M : Catalogue) → M ≡ before → ByCommands before M
by_none before M same = record { requests = []; is = same }

by_stay : (before : Catalogue) (response : Response) (settled : Settled) → settled ≡ stays before response → ByCommands before settled.catalogue
by_stay before response settled is = by_none before settled.catalogue (ap (λ s. s.catalogue) is)

by_said : (before : Catalogue) (id : List ℕ) (said : BodyMeaning) (settled : Settled) → settled ≡ settled_by before id said → ByCommands before settled.catalogue
by_said before id (said_command asks) settled is = record { requests = record { id = id; command = asks } ∷ []; is = ap (λ s. s.catalogue) is }
by_said before id (no_edition refusal line) settled is = by_stay before _ settled is
by_said before id unformed settled is = by_stay before _ settled is

by_change : (before : Catalogue) (id : List ℕ) (action : Action) (name body : List ℕ) (settled : Settled) (kept : Option KeptReply) (response : KeptReply → Response)
    → MatchOption kept (SettlesNew before id action name body settled) (λ reply. settled ≡ stays before (response reply)) → ByCommands before settled.catalogue
by_change before id action name body settled None response is = by_said before id is.0 settled is.2
by_change before id action name body settled (Some reply) response is = by_stay before (response reply) settled is

by_ids : (before : Catalogue) (ids : List (List ℕ)) (action : Action) (name body : List ℕ) (settled : Settled) → SettlesIds before ids action name body settled → ByCommands before settled.catalogue
by_ids before ids action name body settled (inl one) = by_change before one.0 action name body settled (kept_under before.kept one.0) _ one.2
by_ids before ids action name body settled (inr none) = by_stay before _ settled none.1

by_action : (before : Catalogue) (request : WholeRequest) (action : Action) (name : List ℕ) (settled : Settled) → SettlesAction before request action name settled → ByCommands before settled.catalogue
by_action before request Listing name settled is = by_stay before _ settled is
by_action before request Install name settled is = by_ids before request.ids Install name request.body settled is
by_action before request Retire name settled is = by_ids before request.ids Retire name request.body settled is
by_action before request Rollback name settled is = by_ids before request.ids Rollback name request.body settled is
by_action before request Place name settled is = by_ids before request.ids Place name request.body settled is
by_action before request PutVirtual name settled is = by_ids before request.ids PutVirtual name request.body settled is

by_route : (before : Catalogue) (request : WholeRequest) (name : List ℕ) (settled : Settled) (response : Response) (action : Option Action)
    → MatchOption action (settled ≡ stays before response) (λ it. SettlesAction before request it name settled) → ByCommands before settled.catalogue
by_route before request name settled response None is = by_stay before response settled is
by_route before request name settled response (Some action) is = by_action before request action name settled is

by_request : (before : Catalogue) (request : WholeRequest) (settled : Settled) → SettlesRequest before request settled → ByCommands before settled.catalogue
by_request before request settled (inl found) = by_route before request found.1 settled _ (action_of found.0 request.method) found.3
by_request before request settled (inr none) = by_stay before _ settled none.1

by_settled : (before : Catalogue) (octets : List ℕ) (settled : Settled) → Settles before octets settled → ByCommands before settled.catalogue
by_settled before octets settled (inl refused) = by_stay before _ settled refused.2
by_settled before octets settled (inr whole) = by_request before whole.0 settled whole.2

by_responds : (closed : Bool) (before M : Catalogue) (l k : List (Option Catalogue)) (octets text : List ℕ) → Responds closed (λ N. N ≡ M) (λ ms. ms ≡ l) (λ ms. ms ≡ k) before (Settles before octets) text → ByCommands before M
by_responds closed before M l k octets text (responded settled is (answered e shows leaves)) = subst (λ N. ByCommands before N) shows (by_settled before octets settled is)
by_responds closed before M l k octets text (responded settled is (unchanged e shows leaves)) = by_none before M (sym shows)
by_responds closed before M l k octets text (responded settled is (done e shows leaves)) = subst (λ N. ByCommands before N) shows (by_settled before octets settled is)
by_responds closed before M l k octets text (responded settled is (unknown e shut (inl shows) leaves)) = by_none before M (sym shows)
by_responds closed before M l k octets text (responded settled is (unknown e shut (inr shows) leaves)) = subst (λ N. ByCommands before N) shows (by_settled before octets settled is)
by_responds closed before M l k octets text (unresponded e shows leaves) = by_none before M (sym shows)

by_gets : (host : List ℕ) (desk : Condition) (before M : Catalogue) (l k : List (Option Catalogue)) (kind : Kind) (octets : List ℕ) (out : Out) (old new : Stream)
    → Gets host desk (λ N. N ≡ M) (λ ms. ms ≡ l) (λ ms. ms ≡ k) before kind octets out old new → ByCommands before M
by_gets host desk before M l k Dict octets out old new gets = by_none before M (sym gets.1.shows)
by_gets host desk before M l k Http octets More old new gets = by_none before M (sym gets.2.shows)
by_gets host desk before M l k Http octets Close old new gets = by_responds desk.closed before M l k octets gets.answer gets.responds

by_serves : (host : List ℕ) (desk : Condition) (before M : Catalogue) (l k : List (Option Catalogue)) (held : Option Holding) (what : Happening) (out : Out) (old new : Stream)
    → Serves host desk (λ N. N ≡ M) (λ ms. ms ≡ l) (λ ms. ms ≡ k) before held what out old new → ByCommands before M
by_serves host desk before M l k held (opened id kind) out old new serves = by_none before M (sym serves.1.shows)
by_serves host desk before M l k None (came id piece) out old new serves = absurd serves
by_serves host desk before M l k (Some held) (came id piece) out old new serves = by_gets host desk before M l k held.kind (held.octets ++ piece) out old new serves
by_serves host desk before M l k held (ended id) out old new serves = by_none before M (sym serves.stays.shows)

-- each run is some turns of a connection
pub some_turns : (id : ℕ) (a a' : State) (p p' : Standing) (events : List Accepted) → Leads a p events a' p' → (turns : List Observation) × AreObservations id events turns
some_turns id a a' p p' [] leads = ([], refl)
some_turns id a a' p p' (one ∷ events) leads =
    let rest = some_turns id (state_after a one.what one.out) a' one.after p' events leads.2 in
    let by = by_serves a.host one.desk one.before.catalogue one.after.catalogue one.before.leaves one.after.leaves (a.held (id_of one.what)) one.what one.out one.put.old one.put.new leads.1.serves in
    let told : (b : Bool) → (id_of one.what == id) ≡ b → (turns : List Observation) × AreObservations id (one ∷ events) turns
    = λ b. elim b as (λ v. (id_of one.what == id) ≡ v → (turns : List Observation) × AreObservations id (one ∷ events) turns) [
      | true ↦ λ e. (own one.what ∷ rest.0, inl (eqb-true _ _ e, (rest.0, refl, rest.1)))
      | false ↦ λ e. (map command by.requests ++ rest.0, inr (λ same. let t = eq-eqb (id_of one.what) id same in cc (t, e), (by.requests, rest.0, refl, by.is, rest.1)))
    ] in
    told (id_of one.what == id) refl

-- what a connection is asked at its turns, over this catalogue and with this held of it
Plays : List ℕ → Catalogue → Option Holding → List Observation → List EventAt → Type 0
Plays host M held [] questions = questions ≡ []
Plays host M held (own what ∷ turns) questions =
    (served : Served) × IsServed host M held what served × ((rest : List EventAt) × (questions ≡ record { what = what; catalogue = M } ∷ rest) × Plays host served.catalogue (held_after held what served.out) turns rest)
Plays host M held (command request ∷ turns) questions = Plays host (step M request.id request.command).catalogue held turns questions

plays_behind : (host : List ℕ) (M : Catalogue) (held : Option Holding) (requests : List CommandRequest) (turns : List Observation) (questions : List EventAt)
    → Plays host (after M requests) held turns questions → Plays host M held (map command requests ++ turns) questions
unfolding Plays
plays_behind host M held [] turns questions plays = plays
plays_behind host M held (request ∷ requests) turns questions plays = plays_behind host (step M request.id request.command).catalogue held requests turns questions plays

-- of the questions of a run with one more event, where that is the connection's own, or isn't
own_first : (id : ℕ) (one : Accepted) (events : List Accepted) → id_of one.what ≡ id → map event_asked (events_of id (one ∷ events)) ≡ event_asked one ∷ map event_asked (events_of id events)
own_first id one events same = ap (λ (b : Bool). map event_asked (if b then one ∷ events_of id events else events_of id events)) (eq-eqb id (id_of one.what) (sym same))

other_first : (id : ℕ) (one : Accepted) (events : List Accepted) (b : Bool) → (id == id_of one.what) ≡ b → id_of one.what ≢ id → map event_asked (events_of id (one ∷ events)) ≡ map event_asked (events_of id events)
other_first id one events true e ne = absurd (ne (sym (eqb-true id (id_of one.what) e)))
other_first id one events false e ne = ap (λ (b : Bool). map event_asked (if b then one ∷ events_of id events else events_of id events)) e

held_own : (id : ℕ) (state : State) (what : Happening) (out : Out) → id_of what ≡ id → (state_after state what out).held id ≡ held_after (state.held id) what out
held_own id state what out same =
    ap (λ (b : Bool). if b then held_after (state.held (id_of what)) what out else state.held id) (eq-eqb id (id_of what) (sym same))
    ∙ ap (λ (i : ℕ). held_after (state.held i) what out) same

held_other : (id : ℕ) (state : State) (what : Happening) (out : Out) (b : Bool) → (id == id_of what) ≡ b → id_of what ≢ id → (state_after state what out).held id ≡ state.held id
held_other id state what out true e ne = absurd (ne (sym (eqb-true id (id_of what) e)))
held_other id state what out false e ne = ap (λ (b : Bool). if b then held_after (state.held (id_of what)) what out else state.held id) e

plays : (id : ℕ) (a a' : State) (p p' : Standing) (events : List Accepted) (turns : List Observation) → Leads a p events a' p' → GoWell id a events → AreObservations id events turns
    → Plays a.host p.catalogue (a.held id) turns (map event_asked (events_of id events))
unfolding Plays
plays id a a' p p' [] turns leads well are = subst (λ (t : List Observation). Plays a.host p.catalogue (a.held id) t []) (sym are) refl
plays id a a' p p' (one ∷ events) turns leads well (inl (same, (rest, is, are))) =
    let here : one.before.catalogue ≡ p.catalogue = ap (λ s. s.catalogue) leads.0 in
    let gave = well.0 same in
    let served : Served = record { out = one.out; octets = gave.0; catalogue = one.after.catalogue } in
    let so = subst (λ (i : ℕ). IsServed a.host one.before.catalogue (a.held i) one.what served) same gave.1 in
    let later = subst (λ (h : Option Holding). Plays a.host one.after.catalogue h rest (map event_asked (events_of id events))) (held_own id a one.what one.out same)
    (plays id (state_after a one.what one.out) a' one.after p' events rest leads.2 well.1 are) in
    subst (λ (M : Catalogue). Plays a.host M (a.held id) turns (map event_asked (events_of id (one ∷ events)))) here
    (subst (λ (t : List Observation). Plays a.host one.before.catalogue (a.held id) t (map event_asked (events_of id (one ∷ events)))) (sym is)
    (served, so, (map event_asked (events_of id events), own_first id one events same, later)))
plays id a a' p p' (one ∷ events) turns leads well (inr (ne, (requests, rest, is, by, are))) =
    let here : one.before.catalogue ≡ p.catalogue = ap (λ s. s.catalogue) leads.0 in
    let later = subst (λ (h : Option Holding). Plays a.host one.after.catalogue h rest (map event_asked (events_of id events))) (held_other id a one.what one.out (id == id_of one.what) refl ne)
    (plays id (state_after a one.what one.out) a' one.after p' events rest leads.2 well.1 are) in
    let behind = plays_behind a.host one.before.catalogue (a.held id) requests rest (map event_asked (events_of id events))
    (subst (λ (M : Catalogue). Plays a.host M (a.held id) rest (map event_asked (events_of id events))) by later) in
    subst (λ (M : Catalogue). Plays a.host M (a.held id) turns (map event_asked (events_of id (one ∷ events)))) here
    (subst (λ (t : List Observation). Plays a.host one.before.catalogue (a.held id) t (map event_asked (events_of id (one ∷ events)))) (sym is)
    (subst (λ (q : List EventAt). Plays a.host one.before.catalogue (a.held id) (map command requests ++ rest) q) (sym (other_first id one events (id == id_of one.what) refl ne)) behind))

one_play : ((host : List ℕ) (M : Catalogue) (held : Option Holding) (what : Happening) (a b : Served) → IsServed host M held what a → IsServed host M held what b → a ≡ b)
    → (host : List ℕ) (M : Catalogue) (held : Option Holding) (turns : List Observation) (x y : List EventAt) → Plays host M held turns x → Plays host M held turns y → x ≡ y
unfolding Plays
one_play one host M held [] x y plays_x plays_y = plays_x ∙ sym plays_y
one_play one host M held (own what ∷ turns) x y plays_x plays_y =
    let same = one host M held what plays_x.0 plays_y.0 plays_x.1 plays_y.1 in
    let later = subst (λ (s : Served). Plays host s.catalogue (held_after held what s.out) turns plays_y.2.0) (sym same) plays_y.2.2 in
    let rest = one_play one host plays_x.0.catalogue (held_after held what plays_x.0.out) turns plays_x.2.0 plays_y.2.0 plays_x.2.2 later in
    plays_x.2.1 ∙ (ap (λ (r : List EventAt). let q : EventAt = record { what = what; catalogue = M } in q ∷ r) rest ∙ sym plays_y.2.1)
one_play one host M held (command request ∷ turns) x y plays_x plays_y = one_play one host (step M request.id request.command).catalogue held turns x y plays_x plays_y

-- the same turns ask the same
pub same_questions : ((host : List ℕ) (M : Catalogue) (held : Option Holding) (what : Happening) (a b : Served) → IsServed host M held what a → IsServed host M held what b → a ≡ b)
    → (id : ℕ) (a b a' b' : State) (p q p' q' : Standing) (events others : List Accepted) (turns : List Observation) → Leads a p events a' p' → Leads b q others b' q'
    → a.host ≡ b.host → a.held id ≡ b.held id → p.catalogue ≡ q.catalogue → GoWell id a events → GoWell id b others → AreObservations id events turns → AreObservations id others turns
    → map event_asked (events_of id events) ≡ map event_asked (events_of id others)
same_questions one id a b a' b' p q p' q' events others turns leads leads' host held M well well' are are' =
    one_play one a.host p.catalogue (a.held id) turns (map event_asked (events_of id events)) (map event_asked (events_of id others))
    (plays id a a' p p' events turns leads well are)
    (subst (λ (h : List ℕ). Plays h p.catalogue (a.held id) turns (map event_asked (events_of id others))) (sym host)
    (subst (λ (o : Option Holding). Plays b.host p.catalogue o turns (map event_asked (events_of id others))) (sym held)
    (subst (λ (N : Catalogue). Plays b.host N (b.held id) turns (map event_asked (events_of id others))) (sym M)
    (plays id b b' q q' others turns leads' well' are'))))
