-- What comes of a listening socket.
use Rattle.std.proofs.Common.{◌≡◌, ◌<◌, ◌+◌, ℕ, zero, suc, Bool, true, false, List, [], ◌∷◌, ◌++◌, refl, sym, ap, ◌∙◌, subst, inl, inr, arith, append_assoc, append-nil}
use Rattle.std.specs.Prelude.{Option, Some, None, Ok, Err, option_map, vec_len}
use Rattle.std.specs.IoError.{error_kind}
use Rattle.std.specs.declared.io.Error.{Error}
use Rattle.net_hub.specs.Runs.{Accepted}
use Rattle.net_hub.specs.Hubs.{HasHolding}
use Rattle.net_hub.specs.declared.fault.HubFault.{HubFault}
use Rattle.net_hub.specs.declared.hub.Hub.{Hub}
use Rattle.net_hub.specs.declared.kind.Kind.{Kind}
use Rattle.net_hub.specs.declared.kind.Kind.TheVariants.{Dict, Http}
use Rattle.net_outlet.specs.declared.transport.Transport as transport
use Rattle.net_driver.specs.Accepting.{Accepts, AcceptsOne, AcceptsUpTo, HasAccepted, HasAsked, Takes}
use Rattle.net_driver.specs.Asking.{Asking, Asks, accepts, watches}
use Rattle.net_driver.specs.Listening.{is_ready, listening_by, may_accept}
use Rattle.net_driver.specs.Looking.{listening_of}
use Rattle.net_driver.specs.Rounds.{Admits, IsFull}
use Rattle.net_driver.specs.declared.connections.Connections.{Connections}
use Rattle.net_driver.specs.declared.event_loop.EventLoop.{EventLoop}
use Rattle.net_driver.specs.declared.listening.Listening.{Listening}
use Rattle.net_driver.specs.declared.listening.Listening.TheVariants.{Ready, Quiet, Failed}

-- nothing was asked
pub asks_none : {T : Type 0} (a : Option (List (Asking T))) → Asks a a []
asks_none None = refl
asks_none (Some before) = ap Some (sym (append-nil before))

pub asks_joined : {T : Type 0} (a b c : Option (List (Asking T))) (first then : List (Asking T)) → Asks a b first → Asks b c then → Asks a c (first ++ then)
asks_joined {T} None b c first then one two = two ∙ ap (λ (o : Option (List (Asking T))). option_map (λ before. before ++ then) o) one
asks_joined {T} (Some before) b c first then one two =
    two ∙ ap (λ (o : Option (List (Asking T))). option_map (λ l. l ++ then) o) one ∙ ap Some (append_assoc before first then)

pub not_ready : (before : Listening) → may_accept before ≡ false → is_ready before ≡ false
not_ready Ready isnt = absurd (let never : true ≡ false = isnt in cc)
not_ready Quiet isnt = refl
not_ready Failed isnt = refl

pub ready_is : (listening : Listening) → is_ready listening ≡ true → listening ≡ Ready
ready_is Ready is = refl
ready_is Quiet is = absurd (let never : false ≡ true = is in cc)
ready_is Failed is = absurd (let never : false ≡ true = is in cc)

module _ {T : Type 0} {G : transport.Ghosts T} (refuses : Hub → ℕ → Kind → Option HubFault → Type 0) where
  -- a socket that isn't asked
  pub accepts_not : (kind : Kind) (before : Listening) (hub : Hub) (all : Connections T G) → may_accept before ≡ false → Accepts refuses kind before before hub hub all all [] []
  accepts_not kind Ready hub all isnt = absurd (let never : true ≡ false = isnt in cc)
  accepts_not kind Quiet hub all isnt = (refl, refl, refl, refl, λ other held has. has)
  accepts_not kind Failed hub all isnt = absurd (let never : true ≡ false = isnt in cc)

  -- no call more, since the last one didn't leave it ready, or none is left
  pub accepts_no_more : (most : ℕ) (kind : Kind) (before : Listening) (hub : Hub) (all : Connections T G) → (is_ready before ≡ true → most ≡ 0) → AcceptsUpTo refuses most kind before before hub hub all all [] []
  accepts_no_more zero kind Ready hub all last = (refl, refl, refl, refl, λ other held has. has)
  accepts_no_more zero kind Quiet hub all last = (refl, refl, refl, refl, λ other held has. has)
  accepts_no_more zero kind Failed hub all last = (refl, refl, refl, refl, λ other held has. has)
  accepts_no_more (suc most) kind Ready hub all last = absurd (let never : suc most ≡ 0 = last refl in omega (arith, never))
  accepts_no_more (suc most) kind Quiet hub all last = (refl, refl, refl, refl, λ other held has. has)
  accepts_no_more (suc most) kind Failed hub all last = (refl, refl, refl, refl, λ other held has. has)

  pub accepts_up_to : (kind : Kind) (before after : Listening) (from to : Hub) (old new : Connections T G) (calls : List (Asking T)) (events : List Accepted) → may_accept before ≡ true
      → AcceptsUpTo refuses 16 kind Ready after from to old new calls events → Accepts refuses kind before after from to old new calls events
  accepts_up_to kind Ready after from to old new calls events may taken = taken
  accepts_up_to kind Quiet after from to old new calls events may taken = absurd (let never : true ≡ false = sym may in cc)
  accepts_up_to kind Failed after from to old new calls events may taken = taken

  -- one that was asked, and gave a connection
  pub accepted_one : (kind : Kind) (after : Listening) (transport : T) (a b c : Option (List (Asking T))) (from by to : Hub) (old between new : Connections T G) (events : List Accepted)
      → after ≡ Ready → by ≡ from → between ≡ old → Asks a b (accepts kind (Ok transport) ∷ []) → (calls : List (Asking T)) × Asks b c calls × Takes refuses transport kind by to between new calls events
      → (calls : List (Asking T)) × Asks a c calls × AcceptsOne refuses kind after from to old new calls events
  accepted_one kind after transport a b c from by to old between new events ready still same asked (calls, more, takes) = (
    accepts kind (Ok transport) ∷ calls,
    asks_joined a b c (accepts kind (Ok transport) ∷ []) calls asked more,
    (
      Ok transport,
      calls,
      refl,
      (
        ready,
        subst (λ (h : Hub). Takes refuses transport kind h to old new calls events) still
            (subst (λ (all : Connections T G). Takes refuses transport kind by to all new calls events) same takes),
      ),
    ),
  )

  -- and that gave an error
  pub accepted_none : (kind : Kind) (after : Listening) (error : Error) (a b : Option (List (Asking T))) (from to : Hub) (old new : Connections T G)
      → after ≡ listening_by (error_kind error) → to ≡ from → new ≡ old → Asks a b (accepts kind (Err error) ∷ [])
      → (calls : List (Asking T)) × Asks a b calls × AcceptsOne refuses kind after from to old new calls []
  accepted_none kind after error a b from to old new after_is still same asked = (
    accepts kind (Err error) ∷ [],
    asked,
    (Err error, [], refl, (after_is, refl, same, refl, λ other held has. subst (λ (h : Hub). HasHolding h other held) (sym still) has)),
  )

  -- there was no place for a connection
  pub taken_not : (transport : T) (kind : Kind) (a : Option (List (Asking T))) (hub : Hub) (all : Connections T G) → IsFull all → (calls : List (Asking T)) × Asks a a calls × Takes refuses transport kind hub hub all all calls []
  taken_not transport kind a hub all full = ([], asks_none a, inl (full, refl, refl, refl, λ other held has. has))

  -- looks can't tell of it
  pub taken_unwatched : (transport : T) (kind : Kind) (a b : Option (List (Asking T))) (hub : Hub) (all : Connections T G) (id : ℕ) (watched : Bool) → id ≡ all.last + 1 → vec_len all.opened < 64 → watched ≡ false
      → Asks a b (watches id watched ∷ []) → (calls : List (Asking T)) × Asks a b calls × Takes refuses transport kind hub hub all all calls []
  taken_unwatched transport kind a b hub all id watched next room isnt asked = (
    watches id watched ∷ [],
    asked,
    inr (room, inl (ap (λ (w : Bool). watches id w ∷ []) isnt ∙ ap (λ (i : ℕ). watches i false ∷ []) next, refl, refl, λ other held has. has)),
  )

  -- they do
  pub taken_watched : (transport watched_one : T) (kind : Kind) (a b : Option (List (Asking T))) (from to : Hub) (old new : Connections T G) (id : ℕ) (watched : Bool) (events : List Accepted) → id ≡ old.last + 1
      → vec_len old.opened < 64 → watched ≡ true → watched_one ≡ transport → Asks a b (watches id watched ∷ []) → Admits refuses watched_one kind from to old new events
      → (calls : List (Asking T)) × Asks a b calls × Takes refuses transport kind from to old new calls events
  taken_watched transport watched_one kind a b from to old new id watched events next room is same asked admits = (
    watches id watched ∷ [],
    asked,
    inr (room, inr (ap (λ (w : Bool). watches id w ∷ []) is ∙ ap (λ (i : ℕ). watches i true ∷ []) next, subst (λ (t : T). Admits refuses t kind from to old new events) same admits)),
  )

module _ {T S : Type 0} {G : transport.Ghosts T} where
  -- what is known of the socket for a kind
  pub same_listening : (kind : Kind) (a b : EventLoop T S G) → b.dict_listening ≡ a.dict_listening → b.http_listening ≡ a.http_listening → listening_of kind b ≡ listening_of kind a
  same_listening Dict a b dict http = dict
  same_listening Http a b dict http = http

module _ {T S : Type 0} {G : transport.Ghosts T} (refuses : Hub → ℕ → Kind → Option HubFault → Type 0) (asked : S → Option (List (Asking T))) where
  -- Some of the calls were made, of which the last left the socket so: whatever comes of those that are left, at most so many, comes of all
  -- behind what came of these
  abbrev pub HasBegun : ℕ → Kind → Listening → EventLoop T S G → EventLoop T S G → List Accepted → Type 0
  HasBegun left kind last old now events =
      (calls : List (Asking T)) × Asks (asked old.sockets) (asked now.sockets) calls
      × ((after : Listening) (hub : Hub) (new : Connections T G) (more : List (Asking T)) (openings : List Accepted)
      → AcceptsUpTo refuses left kind last after now.hub hub now.connections new more openings
      → AcceptsUpTo refuses 16 kind Ready after old.hub hub old.connections new (calls ++ more) (events ++ openings))

  pub begun_none : (kind : Kind) (a : EventLoop T S G) → HasBegun 16 kind Ready a a []
  begun_none kind a = ([], asks_none (asked a.sockets), λ after hub new more openings then. then)

  -- one call more
  pub begun_more : (n left : ℕ) (kind : Kind) (a b c : EventLoop T S G) (es fs : List Accepted) → n ≡ suc left → HasBegun n kind Ready a b es → HasAsked refuses asked kind b c fs
      → HasBegun left kind (listening_of kind c) a c (es ++ fs)
  begun_more n left kind a b c es fs is (calls, so, goes) (first, then, one) = (
    calls ++ first,
    asks_joined (asked a.sockets) (asked b.sockets) (asked c.sockets) calls first so then,
    λ after hub new more openings rest.
        subst (λ (l : List (Asking T)). AcceptsUpTo refuses 16 kind Ready after a.hub hub a.connections new l ((es ++ fs) ++ openings)) (sym (append_assoc calls first more))
        (subst (λ (l : List Accepted). AcceptsUpTo refuses 16 kind Ready after a.hub hub a.connections new (calls ++ (first ++ more)) l) (sym (append_assoc es fs openings))
        (goes after hub new (first ++ more) (fs ++ openings)
        (subst (λ (m : ℕ). AcceptsUpTo refuses m kind Ready after b.hub hub b.connections new (first ++ more) (fs ++ openings)) (sym is)
        (listening_of kind c, c.hub, c.connections, first, more, fs, openings, refl, refl, one, rest)))),
  )

  -- and none more
  pub begun_whole : (left : ℕ) (kind : Kind) (last : Listening) (a b : EventLoop T S G) (es : List Accepted) → listening_of kind b ≡ last → (is_ready last ≡ true → left ≡ 0) → may_accept (listening_of kind a) ≡ true
      → HasBegun left kind last a b es → HasAccepted refuses asked kind a b es
  begun_whole left kind last a b es same none may (calls, so, goes) = (
    calls,
    so,
    accepts_up_to refuses kind (listening_of kind a) (listening_of kind b) a.hub b.hub a.connections b.connections calls es may
        (subst (λ (l : Listening). AcceptsUpTo refuses 16 kind Ready l a.hub b.hub a.connections b.connections calls es) (sym same)
        (subst (λ (l : List (Asking T)). AcceptsUpTo refuses 16 kind Ready last a.hub b.hub a.connections b.connections l es) (append-nil calls)
        (subst (λ (l : List Accepted). AcceptsUpTo refuses 16 kind Ready last a.hub b.hub a.connections b.connections (calls ++ []) l) (append-nil es)
        (goes last b.hub b.connections [] [] (accepts_no_more refuses left kind last b.hub b.connections none))))),
  )
