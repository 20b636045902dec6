-- The hub has no connection but those that are open.
use Rattle.std.proofs.Common.{◌≡◌, ◌≢◌, ◌<◌, ◌+◌, ℕ, zero, suc, Bool, true, false, cond, List, [], ◌∷◌, ◌++◌, All, length, length-set, length-append, get_or, set, refl, sym, ap, ◌∙◌, subst, inl, inr, arith}
use Rattle.std.specs.List.{filter}
use Rattle.std.specs.Prelude.{Option, None, Result, Ok, Err}
use Rattle.std.specs.declared.io.Error.{Error}
use Rattle.std.proofs.lemmas.Bool.Decides.{eqb_tells}
use Rattle.std.proofs.lemmas.Grind.{get_or-set_at}
use Rattle.std.proofs.lemmas.List.{get_or-set_other, get_or_append_left, get_or_push}
use Rattle.net_connection.specs.Leaving.{KeepsOnlyOpen}
use Rattle.net_connection.specs.Stages.{is_open, stage_of_new}
use Rattle.net_connection.specs.Telling.{KeepsEach, KeepsOthers}
use Rattle.net_connection.specs.Turns.{IsOpened}
use Rattle.net_connection.specs.declared.connection.Connection.{Connection}
use Rattle.net_hub.specs.Holding.{left_by}
use Rattle.net_hub.specs.Hubs.{HasHolding}
use Rattle.net_hub.specs.Runs.{Accepted}
use Rattle.net_hub.specs.declared.fault.HubFault.{HubFault}
use Rattle.net_hub.specs.declared.hub.Hub.{Hub}
use Rattle.net_hub.specs.declared.incoming.Out.{Out}
use Rattle.net_hub.specs.declared.incoming.Out.TheVariants.{More, Close}
use Rattle.net_hub.specs.declared.kind.Kind.{Kind}
use Rattle.net_hub.specs.declared.kind.Kind.TheVariants.{Dict, Http}
use Rattle.net_outlet.specs.declared.transport.Transport as transport
use Rattle.net_driver.specs.Accepting.{Accepts, AcceptsNone, AcceptsUpTo, Takes, TakesBy}
use Rattle.net_driver.specs.Asking.{Asking}
use Rattle.net_driver.specs.Looking.{Looks, tells}
use Rattle.net_driver.specs.Rounds.{Admits}
use Rattle.net_driver.specs.Turning.{KeepsOnlyOpenOf, MarkAll}
use Rattle.net_driver.specs.declared.connections.Connections.{Connections}
use Rattle.net_driver.specs.declared.event_loop.EventLoop.{EventLoop}
use Rattle.net_driver.specs.declared.listening.Listening.{Listening}
use Rattle.net_driver.specs.declared.listening.Listening.TheVariants.{Ready, Quiet, Failed}
use Rattle.net_driver.proofs.ListLemmas.{default_free}
use Rattle.net_driver.proofs.LoopLemmas.{AreTaken}

-- none of these that is open has this id
abbrev AreApart : {T : Type 0} → ℕ → List (Connection T) → Type 0
AreApart id all = All (λ one. is_open one.stage ≡ true → one.id ≢ id) all

not_true : (b : Bool) → (b ≡ true → ⊥) → b ≡ false
not_true true never = absurd (never refl)
not_true false never = refl

-- as the one at a place was before
before_set : {T : Type 0} (now : List (Connection T)) (i : ℕ) (one after : Connection T) (id : ℕ) → i < length now → get_or now i one ≡ one → (is_open one.stage ≡ true → one.id ≢ id) → AreApart id (set now i after) → AreApart id now
before_set now i one after id within is here apart k d below = elim (eqb_tells k i) [
  | inl same ↦ subst (λ x. is_open x.stage ≡ true → x.id ≢ id) (sym (ap (λ (j : ℕ). get_or now j d) same.1 ∙ default_free now i d one within ∙ is)) here
  | inr other ↦ let len = length-set now i after in subst (λ x. is_open x.stage ≡ true → x.id ≢ id) (get_or-set_other now i k after d other.1) (apart k d (omega (arith, len, below)))
]

-- one more connection had its turn
pub only_turned : {T : Type 0} (a b : Hub) (now : List (Connection T)) (i : ℕ) (one after : Connection T) → i < length now → get_or now i one ≡ one → after.id ≡ one.id → KeepsOthers one.id a b → KeepsOnlyOpen a b one after
    → KeepsOnlyOpenOf a b now (set now i after)
only_turned a b now i one after within is id keeps turned had other apart = elim (eqb_tells other one.id) [
  | inl same ↦
      let len = length-set now i after in
      let own : AreApart one.id (set now i after) = subst (λ (j : ℕ). AreApart j (set now i after)) same.1 apart in
      let last : is_open after.stage ≡ true → after.id ≢ one.id
      = subst (λ x. is_open x.stage ≡ true → x.id ≢ one.id) (get_or-set_at now i i after one refl within) (own i one (omega (arith, len, within))) in
      let closed : is_open after.stage ≡ false = not_true (is_open after.stage) (λ opens. last opens id) in
      let was : is_open one.stage ≡ false → HasHolding a one.id None
      = λ shut. had one.id (before_set now i one after one.id within is (λ opens. absurd (let never : true ≡ false = sym opens ∙ shut in cc)) own) in
      subst (λ (j : ℕ). HasHolding b j None) (id ∙ sym same.1) (turned was closed)
  | inr differs ↦ keeps other None differs.1 (had other (before_set now i one after other within is (λ opens same. differs.1 (sym same)) apart))
]

-- those that aren't open are apart from any id
apart_of_open : {T : Type 0} (id : ℕ) (all : List (Connection T)) → AreApart id (filter (λ one. is_open one.stage) all) → AreApart id all
apart_of_open id [] apart = λ k d within. absurd (omega (arith, within))
apart_of_open {T} id (x ∷ xs) apart = by (apart_of_open id xs) (is_open x.stage) refl apart
  where
    by : (AreApart id (filter (λ one. is_open one.stage) xs) → AreApart id xs) → (b : Bool) → is_open x.stage ≡ b
        → AreApart id (cond b (x ∷ filter (λ (one : Connection T). is_open one.stage) xs) (filter (λ one. is_open one.stage) xs)) → AreApart id (x ∷ xs)
    by rest true is front zero d within = front 0 d (omega arith)
    by rest true is front (suc k) d within = rest (λ j e below. front (suc j) e (omega (arith, below))) k d (omega (arith, within))
    by rest false is front zero d within = λ opens. absurd (let never : true ≡ false = sym opens ∙ is in cc)
    by rest false is front (suc k) d within = rest front k d (omega (arith, within))

-- those that aren't open are let go
pub only_parted : {T : Type 0} (a b : Hub) (old all new : List (Connection T)) → new ≡ filter (λ one. is_open one.stage) all → KeepsOnlyOpenOf a b old all → KeepsOnlyOpenOf a b old new
only_parted a b old all new is keeps had id apart = keeps had id (apart_of_open id all (subst (λ l. AreApart id l) is apart))

-- some are marked
only_marked : {T : Type 0} (is_told : ℕ → Bool) (hub : Hub) (old new : List (Connection T)) → MarkAll is_told old new → KeepsOnlyOpenOf hub hub old new
only_marked is_told hub old new marks had id apart = had id (λ k d within. let len = marks.len in subst (λ x. is_open x.stage ≡ true → x.id ≢ id) (marks.marks k d within) (apart k d (omega (arith, len, within))))

closed_new : (hub : Hub) (id : ℕ) (kind : Kind) (out : Out) → is_open (stage_of_new out) ≡ false → HasHolding hub id (left_by kind [] out) → HasHolding hub id None
closed_new hub id kind More closed has = cc
closed_new hub id kind Close closed has = has

-- one was opened behind them
opened_one : {T : Type 0} (a b : Hub) (old : List (Connection T)) (one : Connection T) (id : ℕ) (kind : Kind) (events : List Accepted) → IsOpened id kind b one events → one.id ≡ id
    → KeepsOthers id a b → KeepsOnlyOpenOf a b old (old ++ one ∷ [])
opened_one a b old one id kind events opening is keeps had other apart =
    let len : length (old ++ one ∷ []) ≡ length old + 1 = length-append old (one ∷ []) in
    elim (eqb_tells other id) [
      | inl same ↦
          let last : is_open one.stage ≡ true → one.id ≢ other
          = subst (λ x. is_open x.stage ≡ true → x.id ≢ other) (get_or_push old one one (length old) refl) (apart (length old) one (omega (arith, len))) in
          let closed : is_open one.stage ≡ false = not_true (is_open one.stage) (λ opens. last opens (is ∙ sym same.1)) in
          subst (λ (j : ℕ). HasHolding b j None) (sym same.1) (closed_new b id kind opening.0.out (ap is_open (sym opening.3) ∙ closed) opening.4)
      | inr differs ↦ keeps other None differs.1
          (had other (λ k d within. subst (λ x. is_open x.stage ≡ true → x.id ≢ other) (get_or_append_left old (one ∷ []) d k within) (apart k d (omega (arith, len, within)))))
    ]

-- none was
same_ones : {T : Type 0} (a b : Hub) (old new : List (Connection T)) → new ≡ old → KeepsEach a b → KeepsOnlyOpenOf a b old new
same_ones a b old new same keeps had id apart = keeps id None (had id (subst (λ l. AreApart id l) same apart))

module _ {T : Type 0} {G : transport.Ghosts T} (refuses : Hub → ℕ → Kind → Option HubFault → Type 0) where
  by_admitting : (transport : T) (kind : Kind) (from to : Hub) (old new : Connections T G) (events : List Accepted) → Admits refuses transport kind from to old new events → KeepsOnlyOpenOf from to old.opened.items new.opened.items
  by_admitting transport kind from to old new events (inl (none, opened, departing, last, keeps, why)) = same_ones from to old.opened.items new.opened.items opened keeps
  by_admitting transport kind from to old new events (inr (one, opening, id, same, may, kinds, held, dropped, opened, departing, last, keeps)) =
      subst (λ l. KeepsOnlyOpenOf from to old.opened.items l) (sym opened) (opened_one from to old.opened.items one (old.last + 1) kind events opening id keeps)

  by_taking : (transport : T) (kind : Kind) (from to : Hub) (old new : Connections T G) (calls : List (Asking T)) (events : List Accepted)
      → Takes refuses transport kind from to old new calls events → KeepsOnlyOpenOf from to old.opened.items new.opened.items
  by_taking transport kind from to old new calls events (inl (full, asked, same, none, keeps)) = same_ones from to old.opened.items new.opened.items (ap (λ it. it.opened.items) same) keeps
  by_taking transport kind from to old new calls events (inr (room, inl (asked, same, none, keeps))) = same_ones from to old.opened.items new.opened.items (ap (λ it. it.opened.items) same) keeps
  by_taking transport kind from to old new calls events (inr (room, inr (asked, admits))) = by_admitting transport kind from to old new events admits

  by_call : (result : Result T Error) (kind : Kind) (after : Listening) (from to : Hub) (old new : Connections T G) (calls : List (Asking T)) (events : List Accepted)
      → TakesBy refuses result kind after from to old new calls events → KeepsOnlyOpenOf from to old.opened.items new.opened.items
  by_call (Ok transport) kind after from to old new calls events (ready, takes) = by_taking transport kind from to old new calls events takes
  by_call (Err error) kind after from to old new calls events (is, asked, same, none, keeps) = same_ones from to old.opened.items new.opened.items (ap (λ it. it.opened.items) same) keeps

  by_none : (before after : Listening) (from to : Hub) (old new : Connections T G) (calls : List (Asking T)) (events : List Accepted)
      → AcceptsNone before after from to old new calls events → KeepsOnlyOpenOf from to old.opened.items new.opened.items
  by_none before after from to old new calls events (is, asked, same, none, keeps) = same_ones from to old.opened.items new.opened.items (ap (λ it. it.opened.items) same) keeps

  by_calls : (most : ℕ) (kind : Kind) (before after : Listening) (from to : Hub) (old new : Connections T G) (calls : List (Asking T)) (events : List Accepted)
      → AcceptsUpTo refuses most kind before after from to old new calls events → KeepsOnlyOpenOf from to old.opened.items new.opened.items
  by_calls (suc most) kind Ready after from to old new calls events (between, hub, one, first, others, opening, openings, asked, whole, (result, more, is, takes), then) = λ had.
      by_calls most kind between after hub to one new others openings then (by_call result kind between from hub old one more opening takes had)
  by_calls zero kind Ready after from to old new calls events none = by_none Ready after from to old new calls events none
  by_calls zero kind Quiet after from to old new calls events none = by_none Quiet after from to old new calls events none
  by_calls zero kind Failed after from to old new calls events none = by_none Failed after from to old new calls events none
  by_calls (suc most) kind Quiet after from to old new calls events none = by_none Quiet after from to old new calls events none
  by_calls (suc most) kind Failed after from to old new calls events none = by_none Failed after from to old new calls events none

  by_accepting : (kind : Kind) (before after : Listening) (from to : Hub) (old new : Connections T G) (calls : List (Asking T)) (events : List Accepted)
      → Accepts refuses kind before after from to old new calls events → KeepsOnlyOpenOf from to old.opened.items new.opened.items
  by_accepting kind Ready after from to old new calls events taken = by_calls 16 kind Ready after from to old new calls events taken
  by_accepting kind Failed after from to old new calls events taken = by_calls 16 kind Ready after from to old new calls events taken
  by_accepting kind Quiet after from to old new calls events none = by_none Quiet after from to old new calls events none

-- the sockets were looked at
pub only_looked : {T S : Type 0} {G : transport.Ghosts T} (asked : S → Option (List (Asking T))) (most : ℕ) (told : List ℕ) (result : Result (Unit {0}) Error) (a b : EventLoop T S G) → Looks asked most told result a b
    → KeepsOnlyOpenOf a.hub b.hub a.connections.opened.items b.connections.opened.items
only_looked asked most told result a b looks = subst (λ h. KeepsOnlyOpenOf a.hub h a.connections.opened.items b.connections.opened.items) (sym looks.hub)
    (only_marked (tells told) a.hub a.connections.opened.items b.connections.opened.items looks.opened)

-- and those were taken that wait
pub only_taken : {T S : Type 0} {G : transport.Ghosts T} (refuses : Hub → ℕ → Kind → Option HubFault → Type 0) (asked : S → Option (List (Asking T))) (b c d : EventLoop T S G) (events : List Accepted)
    → AreTaken refuses asked b c d events → KeepsOnlyOpenOf b.hub d.hub b.connections.opened.items d.connections.opened.items
only_taken refuses asked b c d events two had =
    by_accepting refuses Http c.http_listening d.http_listening c.hub d.hub c.connections d.connections two.by_http.0 two.editors two.by_http.2
    (by_accepting refuses Dict b.dict_listening c.dict_listening b.hub c.hub b.connections c.connections two.by_dict.0 two.readers two.by_dict.2 had)
