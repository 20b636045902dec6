-- How often a listening socket is asked in a round.
use Rattle.std.proofs.Common.{◌≡◌, ◌≤◌, ◌+◌, ℕ, zero, suc, true, false, List, [], ◌∷◌, ◌++◌, refl, sym, ap, ◌∙◌, inl, inr, arith}
use Rattle.std.specs.Prelude.{Option, Result, Ok, Err}
use Rattle.std.specs.declared.io.Error.{Error}
use Rattle.net_hub.specs.Runs.{Accepted}
use Rattle.net_hub.specs.declared.fault.HubFault.{HubFault}
use Rattle.net_hub.specs.declared.hub.Hub.{Hub}
use Rattle.net_hub.specs.declared.kind.Kind.{Kind}
use Rattle.net_outlet.specs.declared.transport.Transport as transport
use Rattle.net_driver.specs.Accepting.{Accepts, AcceptsOne, AcceptsUpTo, Takes, TakesBy}
use Rattle.net_driver.specs.Asking.{Asking, accept_count, accepts, looks, watches}
use Rattle.net_driver.specs.Listening.{is_ready}
use Rattle.net_driver.specs.declared.connections.Connections.{Connections}
use Rattle.net_driver.specs.declared.listening.Listening.{Listening}
use Rattle.net_driver.specs.declared.listening.Listening.TheVariants.{Ready, Quiet, Failed}

count_joined : {T : Type 0} (first then : List (Asking T)) → accept_count (first ++ then) ≡ accept_count first + accept_count then
count_joined [] then = omega arith
count_joined (looks most told result ∷ first) then = count_joined first then
count_joined (accepts kind result ∷ first) then = let more = count_joined first then in omega (arith, more)
count_joined (watches id result ∷ first) then = count_joined first then

-- at most so many, and so many where one may wait still
abbrev pub IsCounted : {T : Type 0} → ℕ → Listening → List (Asking T) → Type 0
IsCounted most after calls = (accept_count calls ≤ most) × (is_ready after ≡ true → accept_count calls ≡ most)

none_counted : {T : Type 0} (most : ℕ) (before after : Listening) (calls : List (Asking T)) → after ≡ before → calls ≡ [] → (is_ready before ≡ true → most ≡ 0) → IsCounted most after calls
none_counted most before after calls same none last =
    let count : accept_count calls ≡ 0 = ap accept_count none in
    (omega (arith, count), λ ready. count ∙ sym (last (sym (ap is_ready same) ∙ ready)))

one_counted : {T : Type 0} (most : ℕ) (after : Listening) (calls first others : List (Asking T)) → calls ≡ first ++ others → accept_count first ≡ 1 → IsCounted most after others → IsCounted (suc most) after calls
one_counted most after calls first others are one rest =
    let count : accept_count calls ≡ accept_count first + accept_count others = ap accept_count are ∙ count_joined first others in
    let few = rest.0 in
    (omega (arith, count, one, few), λ ready. (let all = rest.1 ready in omega (arith, count, one, all)))

module _ {T : Type 0} {G : transport.Ghosts T} (refuses : Hub → ℕ → Kind → Option HubFault → Type 0) where
  by_taking : (transport : T) (kind : Kind) (from to : Hub) (old new : Connections T G) (calls : List (Asking T)) (events : List Accepted)
      → Takes refuses transport kind from to old new calls events → accept_count calls ≡ 0
  by_taking transport kind from to old new calls events (inl (full, asked, same, none, keeps)) = ap accept_count asked
  by_taking transport kind from to old new calls events (inr (room, inl (asked, same, none, keeps))) = ap accept_count asked
  by_taking transport kind from to old new calls events (inr (room, inr (asked, admits))) = ap accept_count asked

  by_call : (result : Result T Error) (kind : Kind) (after : Listening) (from to : Hub) (old new : Connections T G) (calls : List (Asking T)) (events : List Accepted)
      → TakesBy refuses result kind after from to old new calls events → accept_count calls ≡ 0
  by_call (Ok transport) kind after from to old new calls events (ready, takes) = by_taking transport kind from to old new calls events takes
  by_call (Err error) kind after from to old new calls events (is, asked, same, none, keeps) = ap accept_count asked

  by_one : (kind : Kind) (after : Listening) (from to : Hub) (old new : Connections T G) (calls : List (Asking T)) (events : List Accepted)
      → AcceptsOne refuses kind after from to old new calls events → accept_count calls ≡ 1
  by_one kind after from to old new calls events (result, more, is, takes) = ap accept_count is ∙ ap (λ (n : ℕ). n + 1) (by_call result kind after from to old new more events takes)

  by_calls : (most : ℕ) (kind : Kind) (before after : Listening) (from to : Hub) (old new : Connections T G) (calls : List (Asking T)) (events : List Accepted)
      → AcceptsUpTo refuses most kind before after from to old new calls events → IsCounted most after calls
  by_calls zero kind Ready after from to old new calls events (same, none, all, events_none, keeps) = none_counted 0 Ready after calls same none (λ ready. refl)
  by_calls zero kind Quiet after from to old new calls events (same, none, all, events_none, keeps) = none_counted 0 Quiet after calls same none (λ ready. refl)
  by_calls zero kind Failed after from to old new calls events (same, none, all, events_none, keeps) = none_counted 0 Failed after calls same none (λ ready. refl)
  by_calls (suc most) kind Quiet after from to old new calls events (same, none, all, events_none, keeps) = none_counted (suc most) Quiet after calls same none (λ ready. absurd (let never : false ≡ true = ready in cc))
  by_calls (suc most) kind Failed after from to old new calls events (same, none, all, events_none, keeps) = none_counted (suc most) Failed after calls same none (λ ready. absurd (let never : false ≡ true = ready in cc))
  by_calls (suc most) kind Ready after from to old new calls events (between, hub, one, first, others, opening, openings, asked, whole, here, then) =
      one_counted most after calls first others asked (by_one kind between from hub old one first opening here) (by_calls most kind between after hub to one new others openings then)

  -- of one listening socket in a round
  pub by_accepting : (kind : Kind) (before after : Listening) (from to : Hub) (old new : Connections T G) (calls : List (Asking T)) (events : List Accepted)
      → Accepts refuses kind before after from to old new calls events → IsCounted 16 after calls
  by_accepting kind Ready after from to old new calls events taken = by_calls 16 kind Ready after from to old new calls events taken
  by_accepting kind Failed after from to old new calls events taken = by_calls 16 kind Ready after from to old new calls events taken
  by_accepting kind Quiet after from to old new calls events (same, none, all, events_none, keeps) = none_counted 16 Quiet after calls same none (λ ready. absurd (let never : false ≡ true = ready in cc))
