-- By which ids connections are opened in a round.
use Rattle.std.proofs.Common.{ℕ, zero, suc, List, ◌++◌, sym, ap, subst, inl, inr, arith}
use Rattle.std.specs.Prelude.{Option, Result, Ok, Err}
use Rattle.std.specs.declared.io.Error.{Error}
use Rattle.net_hub.specs.Runs.{Accepted}
use Rattle.net_hub.specs.declared.fault.HubFault.{HubFault}
use Rattle.net_hub.specs.declared.hub.Hub.{Hub}
use Rattle.net_hub.specs.declared.kind.Kind.{Kind}
use Rattle.net_outlet.specs.declared.transport.Transport as transport
use Rattle.net_driver.specs.Accepting.{Accepts, AcceptsNone, AcceptsOne, AcceptsUpTo, Takes, TakesBy}
use Rattle.net_driver.specs.Asking.{Asking}
use Rattle.net_driver.specs.Rounds.{Admits}
use Rattle.net_driver.specs.declared.connections.Connections.{Connections}
use Rattle.net_driver.specs.declared.listening.Listening.{Listening}
use Rattle.net_driver.specs.declared.listening.Listening.TheVariants.{Ready, Quiet, Failed}
use Rattle.net_driver.proofs.OrderLemmas.{Openings, openings_joined, openings_none, openings_one}

module _ {T : Type 0} {G : transport.Ghosts T} (refuses : Hub → ℕ → Kind → Option HubFault → Type 0) where
  by_admitting : (transport : T) (kind : Kind) (from to : Hub) (old new : Connections T G) (events : List Accepted) → Admits refuses transport kind from to old new events → Openings kind old.last new.last 1 events
  by_admitting transport kind from to old new events (inl (none, opened, departing, last, keeps, why)) = openings_none kind old.last new.last 1 events last none
  by_admitting transport kind from to old new events (inr (one, opening, id, same, may, kinds, held, dropped, opened, departing, last, keeps)) = openings_one kind old.last new.last opening.0 events opening.1 opening.2 last

  by_taking : (transport : T) (kind : Kind) (from to : Hub) (old new : Connections T G) (calls : List (Asking T)) (events : List Accepted)
      → Takes refuses transport kind from to old new calls events → Openings kind old.last new.last 1 events
  by_taking transport kind from to old new calls events (inl (full, asked, same, none, keeps)) = openings_none kind old.last new.last 1 events (ap (λ (all : Connections T G). all.last) same) none
  by_taking transport kind from to old new calls events (inr (room, inl (asked, same, none, keeps))) = openings_none kind old.last new.last 1 events (ap (λ (all : Connections T G). all.last) same) none
  by_taking transport kind from to old new calls events (inr (room, inr (asked, admits))) = by_admitting transport kind from to old new events admits

  by_call : (result : Result T Error) (kind : Kind) (after : Listening) (from to : Hub) (old new : Connections T G) (calls : List (Asking T)) (events : List Accepted)
      → TakesBy refuses result kind after from to old new calls events → Openings kind old.last new.last 1 events
  by_call (Ok transport) kind after from to old new calls events (ready, takes) = by_taking transport kind from to old new calls events takes
  by_call (Err error) kind after from to old new calls events (is, asked, same, none, keeps) = openings_none kind old.last new.last 1 events (ap (λ (all : Connections T G). all.last) same) none

  by_one : (kind : Kind) (after : Listening) (from to : Hub) (old new : Connections T G) (calls : List (Asking T)) (events : List Accepted)
      → AcceptsOne refuses kind after from to old new calls events → Openings kind old.last new.last 1 events
  by_one kind after from to old new calls events (result, more, is, takes) = by_call result kind after from to old new more events takes

  by_none : (most : ℕ) (kind : Kind) (before after : Listening) (from to : Hub) (old new : Connections T G) (calls : List (Asking T)) (events : List Accepted)
      → AcceptsNone before after from to old new calls events → Openings kind old.last new.last most events
  by_none most kind before after from to old new calls events (is, asked, same, none, keeps) = openings_none kind old.last new.last most events (ap (λ (all : Connections T G). all.last) same) none

  by_calls : (most : ℕ) (kind : Kind) (before after : Listening) (from to : Hub) (old new : Connections T G) (calls : List (Asking T)) (events : List Accepted)
      → AcceptsUpTo refuses most kind before after from to old new calls events → Openings kind old.last new.last most events
  by_calls zero kind Ready after from to old new calls events none = by_none 0 kind Ready after from to old new calls events none
  by_calls zero kind Quiet after from to old new calls events none = by_none 0 kind Quiet after from to old new calls events none
  by_calls zero kind Failed after from to old new calls events none = by_none 0 kind Failed after from to old new calls events none
  by_calls (suc most) kind Quiet after from to old new calls events none = by_none (suc most) kind Quiet after from to old new calls events none
  by_calls (suc most) kind Failed after from to old new calls events none = by_none (suc most) kind Failed after from to old new calls events none
  by_calls (suc most) kind Ready after from to old new calls events (between, hub, one, first, others, opening, openings, asked, whole, here, then) =
      subst (λ (l : List Accepted). Openings kind old.last new.last (suc most) l) (sym whole)
      (subst (λ (m : ℕ). Openings kind old.last new.last m (opening ++ openings)) (omega arith)
      (openings_joined kind old.last one.last new.last 1 most opening openings (by_one kind between from hub old one first opening here) (by_calls most kind between after hub to one new others openings then)))

  -- by all calls of one listening socket
  pub by_accepting : (kind : Kind) (before after : Listening) (from to : Hub) (old new : Connections T G) (calls : List (Asking T)) (events : List Accepted)
      → Accepts refuses kind before after from to old new calls events → Openings kind old.last new.last 16 events
  by_accepting kind Ready after from to old new calls events taken = by_calls 16 kind Ready after from to old new calls events taken
  by_accepting kind Failed after from to old new calls events taken = by_calls 16 kind Ready after from to old new calls events taken
  by_accepting kind Quiet after from to old new calls events none = by_none 16 kind Quiet after from to old new calls events none
