-- One answer, and one catalogue after it.
use Rattle.std.proofs.Common.{◌≡◌, ◌≢◌, ◌⊎◌, inl, inr, ◌+◌, ℕ, Bool, true, false, List, [], ◌++◌, length, take, get_or, decimal, refl, sym, ap, ◌∙◌, subst, arith}
use Rattle.std.specs.Prelude.{Option, Some, None, MatchOption, if◌then◌else◌}
use Rattle.std.proofs.lemmas.Bool.{cases_lt}
use Rattle.std.proofs.lemmas.Fmt.{decimal_injective}
use Rattle.std.proofs.lemmas.List.{append_cancel_left}
use Rattle.std.proofs.Math.Seq.{take-append_seam}
use Rattle.httparse.specs.Grammar.{RequestHead, print_request}
use Rattle.dict_index.specs.Edition.{Edition, edition_of}
use Rattle.dict_index.proofs.CutLemmas.{one_cut}
use Rattle.dict_index.proofs.LawLemmas as editions
use Rattle.dict_index.proofs.ChoiceLemmas as choice
use Rattle.dict_text.specs.Names.{is_request_id}
use Rattle.dict_catalogue.specs.Commands.{Command, install, place, put_virtual, retire, rollback}
use Rattle.dict_catalogue.specs.Effects.{KeptReply}
use Rattle.dict_catalogue.specs.Steps.{Catalogue, kept_under, summary_of, holdings, Outcome, refused, decided, answered, step}
use Rattle.dict_catalogue.specs.Tests.{refusal_of}
use Rattle.dict_catalogue.specs.declared.fault.CommandRefusal.{CommandRefusal}
use Rattle.dict_catalogue.specs.declared.fault.CommandRefusal.TheVariants.{BadRequestId}
use Rattle.http_request.specs.Fields.{framing_of}
use Rattle.http_request.specs.Heads.{HasHead, headers_of, front_of, IsClosed, Needs, NeedsBody}
use Rattle.http_request.specs.Requests.{EditorRequest, IsRequest, request_of}
use Rattle.http_request.specs.declared.kinds.Framing.{Framing}
use Rattle.http_request.specs.declared.kinds.Framing.TheVariants.{Body, Refused as NoBody}
use Rattle.http_request.specs.declared.kinds.Need.TheVariants.{More, Whole, Refused}
use Rattle.http_request.specs.declared.statuses.Status.{Status}
use Rattle.http_request.specs.declared.statuses.Status.TheVariants.{Ok, BadRequest, NotFound}
use Rattle.http_request.proofs.LawLemmas as heads
use Rattle.http_service.specs.Bodies.{IsPlace, IsVirtual}
use Rattle.http_service.specs.Texts.{kept_text, list_text}
use Rattle.http_service.proofs.BodyLemmas.{one_place, one_title, one_members}
use Rattle.http_request.specs.Paths.{IsPath}
use Rattle.http_request.specs.declared.route_kinds.Route.{Route}
use Rattle.http_request.proofs.RouteLawLemmas.{one_route, one_name}
use Rattle.http_service.specs.Answers.{Response, plain, with_body, not_allowed}
use Rattle.http_service.specs.Actions.{action_of, IsInstallBody, BodyMeaning, command, no_edition, unformed, SaysEdition, Says, IsId}
use Rattle.http_service.specs.Settling.{Settled, stays, is_accepted, settled_by, SettlesNew, SettlesChange, SettlesIds, SettlesAction, SettlesRoute, SettlesRequest, Settles}
use Rattle.http_service.specs.declared.actions.Action.{Action}
use Rattle.http_service.specs.declared.actions.Action.TheVariants.{List as Listing, Install, Retire, Rollback, Place, PutVirtual}
use Rattle.http_service.proofs.PartLemmas.{no_line_feed}

-- the parts of a body

parts_one : (body index text other rest : List ℕ) → IsInstallBody body index text → IsInstallBody body other rest → (index ≡ other) × (text ≡ rest)
parts_one body index text other rest p q =
    let few = p.few in
    let less = q.few in
    let cut = one_cut 10 (decimal (length index)) (index ++ text) (decimal (length other)) (other ++ rest)
    (no_line_feed (length index) (omega (arith, few))) (no_line_feed (length other) (omega (arith, less))) (sym p.is ∙ q.is) in
    let size : length index ≡ length other = decimal_injective (length index) (length other) (omega (arith, few)) (omega (arith, less)) cut.0 in
    let same : index ≡ other = sym (take-append_seam index text) ∙ (λ i. take (size i) (cut.1 i)) ∙ take-append_seam other rest in
    (same, append_cancel_left other text rest (ap (λ l. l ++ text) (sym same) ∙ cut.1))

-- what a body says

edition_one : (name index text : List ℕ) (a b : BodyMeaning) → SaysEdition name index text a → SaysEdition name index text b → a ≡ b
edition_one name index text a b (inl p) (inl q) =
    let same : p.0 ≡ q.0 = p.1.2 ∙ ap edition_of (editions.one_reading index text p.1.0 q.1.0 p.1.1 q.1.1) ∙ sym q.1.2 in
    p.2 ∙ ap (λ e. command (install name e)) same ∙ sym q.2
edition_one name index text a b (inr p) (inr q) =
    let same = editions.one_fault index text p.0 q.0 p.1 q.1 p.2 q.2 in
    p.3 ∙ (λ i. no_edition (same.0 i) (same.1 i)) ∙ sym q.3
edition_one name index text a b (inl p) (inr q) = absurd (editions.not_both index text p.1.0 q.0 q.1 p.1.1 q.2)
edition_one name index text a b (inr p) (inl q) = absurd (editions.not_both index text q.1.0 p.0 p.1 q.1.1 p.2)

says_one : (action : Action) (name body : List ℕ) (a b : BodyMeaning) → Says action name body a → Says action name body b → a ≡ b
says_one Listing name body a b p q = absurd p
says_one Install name body a b (inl p) (inl q) =
    let same = parts_one body p.0 p.1 q.0 q.1 p.2 q.2 in
    edition_one name q.0 q.1 a b (subst (λ t. SaysEdition name q.0 t a) same.1 (subst (λ i. SaysEdition name i p.1 a) same.0 p.3)) q.3
says_one Install name body a b (inr p) (inr q) = p.1 ∙ sym q.1
says_one Install name body a b (inl p) (inr q) = absurd (q.0 p.0 p.1 p.2)
says_one Install name body a b (inr p) (inl q) = absurd (p.0 q.0 q.1 q.2)
says_one Retire name body a b p q = p ∙ sym q
says_one Rollback name body a b p q = p ∙ sym q
says_one Place name body a b (inl p) (inl q) = p.2 ∙ ap (λ n. command (place name n)) (one_place body p.0 q.0 p.1 q.1) ∙ sym q.2
says_one Place name body a b (inr p) (inr q) = p.1 ∙ sym q.1
says_one Place name body a b (inl p) (inr q) = absurd (q.0 p.0 p.1)
says_one Place name body a b (inr p) (inl q) = absurd (p.0 q.0 q.1)
says_one PutVirtual name body a b (inl p) (inl q) =
    let title = one_title body p.0 q.0 p.1 q.1 p.2 q.2 in
    let members = one_members body p.0 q.0 p.1 q.1 p.2 q.2 in
    p.3 ∙ (λ i. command (put_virtual name (title i) (members i))) ∙ sym q.3
says_one PutVirtual name body a b (inr p) (inr q) = p.1 ∙ sym q.1
says_one PutVirtual name body a b (inl p) (inr q) = absurd (q.0 p.0 p.1 p.2)
says_one PutVirtual name body a b (inr p) (inl q) = absurd (p.0 q.0 q.1 q.2)

-- what is settled, test by test

new_one : (M : Catalogue) (id : List ℕ) (action : Action) (name body : List ℕ) (a b : Settled) → SettlesNew M id action name body a → SettlesNew M id action name body b → a ≡ b
new_one M id action name body a b p q = p.2 ∙ ap (settled_by M id) (says_one action name body p.0 q.0 p.1 q.1) ∙ sym q.2

change_one : (M : Catalogue) (id : List ℕ) (action : Action) (name body : List ℕ) (kept : Option KeptReply) (a b : Settled)
    → MatchOption kept (SettlesNew M id action name body a) (λ reply. a ≡ stays M (with_body Ok (kept_text reply)))
    → MatchOption kept (SettlesNew M id action name body b) (λ reply. b ≡ stays M (with_body Ok (kept_text reply))) → a ≡ b
change_one M id action name body None a b p q = new_one M id action name body a b p q
change_one M id action name body (Some reply) a b p q = p ∙ sym q

ids_one : (M : Catalogue) (ids : List (List ℕ)) (action : Action) (name body : List ℕ) (a b : Settled) → SettlesIds M ids action name body a → SettlesIds M ids action name body b → a ≡ b
ids_one M ids action name body a b (inl p) (inl q) =
    let same : p.0 ≡ q.0 = ap (λ l. get_or l 0 []) (sym p.1.one ∙ q.1.one) in
    change_one M q.0 action name body (kept_under M.kept q.0) a b (subst (λ id. SettlesChange M id action name body a) same p.2) q.2
ids_one M ids action name body a b (inr p) (inr q) = p.1 ∙ sym q.1
ids_one M ids action name body a b (inl p) (inr q) = absurd (q.0 p.0 p.1)
ids_one M ids action name body a b (inr p) (inl q) = absurd (p.0 q.0 q.1)

action_one : (M : Catalogue) (asked : EditorRequest) (action : Action) (name : List ℕ) (a b : Settled) → SettlesAction M asked action name a → SettlesAction M asked action name b → a ≡ b
action_one M asked Listing name a b p q = p ∙ sym q
action_one M asked Install name a b p q = ids_one M asked.ids Install name asked.body a b p q
action_one M asked Retire name a b p q = ids_one M asked.ids Retire name asked.body a b p q
action_one M asked Rollback name a b p q = ids_one M asked.ids Rollback name asked.body a b p q
action_one M asked Place name a b p q = ids_one M asked.ids Place name asked.body a b p q
action_one M asked PutVirtual name a b p q = ids_one M asked.ids PutVirtual name asked.body a b p q

route_one : (M : Catalogue) (asked : EditorRequest) (route : Route) (name : List ℕ) (action : Option Action) (a b : Settled)
    → MatchOption action (a ≡ stays M (not_allowed route)) (λ does. SettlesAction M asked does name a)
    → MatchOption action (b ≡ stays M (not_allowed route)) (λ does. SettlesAction M asked does name b) → a ≡ b
route_one M asked route name None a b p q = p ∙ sym q
route_one M asked route name (Some action) a b p q = action_one M asked action name a b p q

request_one : (M : Catalogue) (asked : EditorRequest) (a b : Settled) → SettlesRequest M asked a → SettlesRequest M asked b → a ≡ b
request_one M asked a b (inl p) (inl q) =
    let route = one_route asked.target p.0 q.0 p.1 q.1 p.2 q.2 in
    let name = one_name asked.target p.0 q.0 p.1 q.1 p.2 q.2 in
    route_one M asked q.0 q.1 (action_of q.0 asked.method) a b
    (subst (λ n. SettlesRoute M asked q.0 n a) name (subst (λ r. SettlesRoute M asked r p.1 a) route p.3)) q.3
request_one M asked a b (inr p) (inr q) = p.1 ∙ sym q.1
request_one M asked a b (inl p) (inr q) = absurd (q.0 p.0 p.1 p.2)
request_one M asked a b (inr p) (inl q) = absurd (p.0 q.0 q.1 q.2)

-- a whole request is whole
whole : (x : List ℕ) (asked : EditorRequest) (h : IsRequest x asked) → Needs x (Whole (length (print_request h.head) + h.size))
whole x asked h = inl (h.head, h.has, subst (λ f. NeedsBody x (length (print_request h.head)) f (Whole (length (print_request h.head) + h.size))) (sym h.framed) (inr (h.fits, refl)))

refused_same : (s t : Status) → Refused s ≡ Refused t → s ≡ t
refused_same s t e = cc e

refused_whole : (s : Status) (n : ℕ) → Refused s ≡ Whole n → ⊥
refused_whole s n e = cc e

more_whole : (n : ℕ) → More ≡ Whole n → ⊥
more_whole n e = cc e

more_refused : (s : Status) → More ≡ Refused s → ⊥
more_refused s e = cc e

pub settled_one : (M : Catalogue) (x : List ℕ) (a b : Settled) → Settles M x a → Settles M x b → a ≡ b
settled_one M x a b (inl p) (inl q) = p.2 ∙ ap (λ s. stays M (plain s)) (refused_same p.0 q.0 (heads.one x (Refused p.0) (Refused q.0) p.1 q.1)) ∙ sym q.2
settled_one M x a b (inr p) (inr q) = request_one M q.0 a b (subst (λ r. SettlesRequest M r a) (heads.one_request x p.0 q.0 p.1 q.1) p.2) q.2
settled_one M x a b (inl p) (inr q) = absurd (refused_whole p.0 (length (print_request q.1.head) + q.1.size) (heads.one x (Refused p.0) (Whole (length (print_request q.1.head) + q.1.size)) p.1 (whole x q.0 q.1)))
settled_one M x a b (inr p) (inl q) = absurd (refused_whole q.0 (length (print_request p.1.head) + p.1.size) (heads.one x (Refused q.0) (Whole (length (print_request p.1.head) + p.1.size)) q.1 (whole x p.0 p.1)))

pub settled_none : (M : Catalogue) (x : List ℕ) (a : Settled) → Needs x More → Settles M x a → ⊥
settled_none M x a more (inl p) = more_refused p.0 (heads.one x More (Refused p.0) more p.1)
settled_none M x a more (inr p) = more_whole (length (print_request p.1.head) + p.1.size) (heads.one x More (Whole (length (print_request p.1.head) + p.1.size)) more (whole x p.0 p.1))

-- There is an answer: that there is none can't be. Each test passes or fails, whichever of the two it is.

abbrev Some' : {X : Type 0} → (X → Type 0) → Type 0
Some' {X} P = ((x : X) → P x → ⊥) → ⊥

either : (X : Type 0) → (X ⊎ (X → ⊥) → ⊥) → ⊥
either X k = k (inr (λ x. k (inl x)))

edition_some : (name index text : List ℕ) → (said : BodyMeaning) × SaysEdition name index text said
edition_some name index text = elim (choice.some_meaning index text) [
  | inl p ↦ (command (install name (edition_of p.0)), inl (edition_of p.0, (p.0, p.1, refl), refl))
  | inr p ↦ (no_edition p.0 p.1, inr (p.0, p.1, p.2, refl))
]

says_some : (action : Action) (name body : List ℕ) → action ≢ Listing → Some' (Says action name body)
says_some Listing name body other k = other refl
says_some Install name body other k = either ((index : List ℕ) × (text : List ℕ) × IsInstallBody body index text) (λ d. elim d [
  | inl p ↦ (let said = edition_some name p.0 p.1 in k said.0 (inl (p.0, p.1, p.2, said.1)))
  | inr none ↦ k unformed (inr (λ index text h. none (index, text, h), refl))
])
says_some Retire name body other k = k (command (retire name)) refl
says_some Rollback name body other k = k (command (rollback name)) refl
says_some Place name body other k = either ((n : ℕ) × IsPlace body n) (λ d. elim d [
  | inl p ↦ k (command (place name p.0)) (inl (p.0, p.1, refl))
  | inr none ↦ k unformed (inr (λ n h. none (n, h), refl))
])
says_some PutVirtual name body other k = either ((title : List ℕ) × (members : List (List ℕ)) × IsVirtual body title members) (λ d. elim d [
  | inl p ↦ k (command (put_virtual name p.0 p.1)) (inl (p.0, p.1, p.2, refl))
  | inr none ↦ k unformed (inr (λ title members h. none (title, members, h), refl))
])

change_some : (M : Catalogue) (id : List ℕ) (action : Action) (name body : List ℕ) (kept : Option KeptReply) → action ≢ Listing
    → Some' (λ a. MatchOption kept (SettlesNew M id action name body a) (λ reply. a ≡ stays M (with_body Ok (kept_text reply))))
change_some M id action name body None other k = says_some action name body other (λ said says. k (settled_by M id said) (said, says, refl))
change_some M id action name body (Some reply) other k = k (stays M (with_body Ok (kept_text reply))) refl

ids_some : (M : Catalogue) (ids : List (List ℕ)) (action : Action) (name body : List ℕ) → action ≢ Listing → Some' (SettlesIds M ids action name body)
ids_some M ids action name body other k = either ((id : List ℕ) × IsId ids id) (λ d. elim d [
  | inl p ↦ change_some M p.0 action name body (kept_under M.kept p.0) other (λ a settles. k a (inl (p.0, p.1, settles)))
  | inr none ↦ k (stays M (plain BadRequest)) (inr (λ id h. none (id, h), refl))
])

changes : Action → Type 0
changes Listing = ⊥
changes Install = Unit {0}
changes Retire = Unit {0}
changes Rollback = Unit {0}
changes Place = Unit {0}
changes PutVirtual = Unit {0}

action_some : (M : Catalogue) (asked : EditorRequest) (action : Action) (name : List ℕ) → Some' (SettlesAction M asked action name)
unfolding changes
action_some M asked Listing name k = k (stays M (with_body Ok (list_text (summary_of M).items))) refl
action_some M asked Install name k = ids_some M asked.ids Install name asked.body (λ e. subst changes e tt) k
action_some M asked Retire name k = ids_some M asked.ids Retire name asked.body (λ e. subst changes e tt) k
action_some M asked Rollback name k = ids_some M asked.ids Rollback name asked.body (λ e. subst changes e tt) k
action_some M asked Place name k = ids_some M asked.ids Place name asked.body (λ e. subst changes e tt) k
action_some M asked PutVirtual name k = ids_some M asked.ids PutVirtual name asked.body (λ e. subst changes e tt) k

route_some : (M : Catalogue) (asked : EditorRequest) (route : Route) (name : List ℕ) (action : Option Action)
    → Some' (λ a. MatchOption action (a ≡ stays M (not_allowed route)) (λ does. SettlesAction M asked does name a))
route_some M asked route name None k = k (stays M (not_allowed route)) refl
route_some M asked route name (Some action) k = action_some M asked action name k

request_some : (M : Catalogue) (asked : EditorRequest) → Some' (SettlesRequest M asked)
request_some M asked k = either ((route : Route) × (name : List ℕ) × IsPath asked.target route name) (λ d. elim d [
  | inl p ↦ route_some M asked p.0 p.1 (action_of p.0 asked.method) (λ a settles. k a (inl (p.0, p.1, p.2, settles)))
  | inr none ↦ k (stays M (plain NotFound)) (inr (λ route name h. none (route, name, h), refl))
])

body_some : (M : Catalogue) (x : List ℕ) (head : RequestHead) (framing : Framing) → HasHead x head → framing_of (headers_of head) ≡ framing → (Needs x More → ⊥) → Some' (Settles M x)
body_some M x head (NoBody status) has is some k =
    k (stays M (plain status)) (inl (status, inl (head, has, subst (λ f. NeedsBody x (length (print_request head)) f (Refused status)) (sym is) refl), refl))
body_some M x head (Body size) has is some k = elim (cases_lt (length x) (length (print_request head) + size)) [
  | inl short ↦ some (inl (head, has, subst (λ f. NeedsBody x (length (print_request head)) f More) (sym is) (inl (short, refl))))
  | inr long ↦ (let asked = request_of x head size in
      request_some M asked (λ a settles. k a (inr (asked, record { head = head; has = has; size = size; framed = is; fits = long; says = refl }, settles))))
]

pub settled_some : (M : Catalogue) (x : List ℕ) → (Needs x More → ⊥) → Some' (Settles M x)
settled_some M x some k = either ((head : RequestHead) × HasHead x head) (λ d. elim d [
  | inl p ↦ body_some M x p.0 (framing_of (headers_of p.0)) p.1 refl some k
  | inr none ↦ either (IsClosed (front_of x)) (λ c. elim c [
    | inl shut ↦ k (stays M (plain BadRequest)) (inl (BadRequest, inr (λ head h. none (head, h), inl (shut, refl)), refl))
    | inr awaits ↦ some (inr (λ head h. none (head, h), inr (awaits, refl)))
  ])
])

-- Where no command acted, the catalogue stays.

stays_as : (M : Catalogue) (response : Response) (s : Settled) → s ≡ stays M response → s.catalogue ≡ M
stays_as M response s is = ap (λ (t : Settled). t.catalogue) is

decided_stays : (M : Catalogue) (id : List ℕ) (asked : Command Edition) (refusal : Option CommandRefusal) → is_accepted (decided M id asked refusal).reply ≡ false → (decided M id asked refusal).catalogue ≡ M
decided_stays M id asked (Some refusal) isnt = refl
decided_stays M id asked None isnt = cc isnt

answered_stays : (M : Catalogue) (id : List ℕ) (asked : Command Edition) (kept : Option KeptReply) → is_accepted (answered M id asked kept).reply ≡ false → (answered M id asked kept).catalogue ≡ M
answered_stays M id asked (Some reply) isnt = refl
answered_stays M id asked None isnt = decided_stays M id asked (refusal_of (holdings M) asked) isnt

lawful_stays : (M : Catalogue) (id : List ℕ) (asked : Command Edition) (unlawful : Outcome) (lawful : Bool) → unlawful.catalogue ≡ M
    → is_accepted (if lawful then answered M id asked (kept_under M.kept id) else unlawful).reply ≡ false → (if lawful then answered M id asked (kept_under M.kept id) else unlawful).catalogue ≡ M
lawful_stays M id asked unlawful true stays isnt = answered_stays M id asked (kept_under M.kept id) isnt
lawful_stays M id asked unlawful false stays isnt = stays

step_stays : (M : Catalogue) (id : List ℕ) (asked : Command Edition) → is_accepted (step M id asked).reply ≡ false → (step M id asked).catalogue ≡ M
step_stays M id asked isnt = lawful_stays M id asked (record { reply = refused BadRequestId; catalogue = M }) (is_request_id id) refl isnt

said_stays : (M : Catalogue) (id : List ℕ) (said : BodyMeaning) (s : Settled) → s ≡ settled_by M id said → s.acts ≡ false → s.catalogue ≡ M
said_stays M id (command asked) s is isnt =
    ap (λ (t : Settled). t.catalogue) is ∙ step_stays M id asked (sym (ap (λ (t : Settled). t.acts) is) ∙ isnt)
said_stays M id (no_edition refusal line) s is isnt = stays_as M _ s is
said_stays M id unformed s is isnt = stays_as M _ s is

change_stays : (M : Catalogue) (id : List ℕ) (action : Action) (name body : List ℕ) (kept : Option KeptReply) (s : Settled)
    → MatchOption kept (SettlesNew M id action name body s) (λ reply. s ≡ stays M (with_body Ok (kept_text reply))) → s.acts ≡ false → s.catalogue ≡ M
change_stays M id action name body None s settles isnt = said_stays M id settles.0 s settles.2 isnt
change_stays M id action name body (Some reply) s settles isnt = stays_as M _ s settles

ids_stay : (M : Catalogue) (ids : List (List ℕ)) (action : Action) (name body : List ℕ) (s : Settled) → SettlesIds M ids action name body s → s.acts ≡ false → s.catalogue ≡ M
ids_stay M ids action name body s (inl one) isnt = change_stays M one.0 action name body (kept_under M.kept one.0) s one.2 isnt
ids_stay M ids action name body s (inr none) isnt = stays_as M _ s none.1

action_stays : (M : Catalogue) (asked : EditorRequest) (action : Action) (name : List ℕ) (s : Settled) → SettlesAction M asked action name s → s.acts ≡ false → s.catalogue ≡ M
action_stays M asked Listing name s settles isnt = stays_as M _ s settles
action_stays M asked Install name s settles isnt = ids_stay M asked.ids Install name asked.body s settles isnt
action_stays M asked Retire name s settles isnt = ids_stay M asked.ids Retire name asked.body s settles isnt
action_stays M asked Rollback name s settles isnt = ids_stay M asked.ids Rollback name asked.body s settles isnt
action_stays M asked Place name s settles isnt = ids_stay M asked.ids Place name asked.body s settles isnt
action_stays M asked PutVirtual name s settles isnt = ids_stay M asked.ids PutVirtual name asked.body s settles isnt

route_stays : (M : Catalogue) (asked : EditorRequest) (route : Route) (name : List ℕ) (action : Option Action) (s : Settled)
    → MatchOption action (s ≡ stays M (not_allowed route)) (λ does. SettlesAction M asked does name s) → s.acts ≡ false → s.catalogue ≡ M
route_stays M asked route name None s settles isnt = stays_as M _ s settles
route_stays M asked route name (Some action) s settles isnt = action_stays M asked action name s settles isnt

pub settled_stays : (M : Catalogue) (x : List ℕ) (s : Settled) → Settles M x s → s.acts ≡ false → s.catalogue ≡ M
settled_stays M x s (inl fault) isnt = stays_as M _ s fault.2
settled_stays M x s (inr (asked, is, inl found)) isnt = route_stays M asked found.0 found.1 (action_of found.0 asked.method) s found.3 isnt
settled_stays M x s (inr (asked, is, inr none)) isnt = stays_as M _ s none.1
