-- What a hub has of a connection that is no longer open.
use Rattle.std.proofs.Common.{◌≡◌, ℕ, Bool, true, false, List, [], ◌∷◌, refl, sym, ap, ◌∙◌, subst}
use Rattle.std.specs.Prelude.{Option, Some, None, Ok, if◌then◌else◌}
use Rattle.std.proofs.lemmas.Bool.{eq-eqb}
use Rattle.net_hub.specs.Events.{Happening, opened, came, ended, id_of, admitted, held_after, of_open, takes_memory}
use Rattle.net_hub.specs.Holding.{Holding}
use Rattle.net_hub.specs.Hubs.{HasHolding, connection_count, greatest_of}
use Rattle.net_hub.specs.Runs.{State, Standing, Accepted, IsAt, Leads, state_after}
use Rattle.net_hub.specs.declared.fault.HubFault.{HubFault}
use Rattle.net_hub.specs.declared.fault.HubFault.TheVariants.{Memory}
use Rattle.net_hub.specs.declared.hub.Hub.{Hub}
use Rattle.net_hub.specs.declared.incoming.Out.{Out}
use Rattle.net_hub.specs.declared.incoming.Out.TheVariants.{More, Close}
use Rattle.net_connection.specs.Leaving.{HasLost, KeepsOnlyOpen}
use Rattle.net_connection.specs.Stages.{is_open, stage_answered}
use Rattle.net_connection.specs.Telling.{IsAnswered, KeepsEach}
use Rattle.net_connection.specs.declared.connection.Connection.{Connection}

-- what the event leaves of its own connection
left_behind : (b : Hub) (origin : State) (what : Happening) (out : Out) → IsAt b (state_after origin what out) → HasHolding b (id_of what) (held_after (origin.held (id_of what)) what out)
left_behind b origin what out is =
    subst (λ (t : Bool). HasHolding b (id_of what) (if t then held_after (origin.held (id_of what)) what out else origin.held (id_of what))) (eq-eqb (id_of what) (id_of what) refl) (is.held (id_of what))

lost_by : (b : Hub) (origin : State) (what : Happening) (out : Out) → IsAt b (state_after origin what out) → HasLost what b
lost_by b origin (opened id kind) out is = tt
lost_by b origin (came id piece) out is = tt
lost_by b origin (ended id) out is = left_behind b origin (ended id) out is

-- the state behind the one event that was accepted
answered_at : (b : Hub) (what : Happening) (out : Out) (origin : State) (start : Standing) (es : List Accepted) (state : State) (stands : Standing) → Leads origin start es state stands → IsAt b state → IsAnswered what (Some out) es
    → IsAt b (state_after origin what out) × (admitted (origin.held (id_of what)) origin.greatest origin.count what ≡ Ok tt)
answered_at b what out origin start es state stands leads is (one, only, same, told) =
    let by : Leads origin start (one ∷ []) state stands = subst (λ (l : List Accepted). Leads origin start l state stands) only leads in (
      subst (λ (w : Happening). IsAt b (state_after origin w out)) same (subst (λ (o : Out). IsAt b (state_after origin one.what o)) told (subst (λ (s : State). IsAt b s) by.2.0 is)),
      subst (λ (w : Happening). admitted (origin.held (id_of w)) origin.greatest origin.count w ≡ Ok tt) same by.1.passes,
    )

-- an end that was accepted
pub lost_told : (b : Hub) (what : Happening) (out : Out) (origin : State) (start : Standing) (es : List Accepted) (state : State) (stands : Standing)
    → Leads origin start es state stands → IsAt b state → IsAnswered what (Some out) es → HasLost what b
lost_told b what out origin start es state stands leads is answered = lost_by b origin what out (answered_at b what out origin start es state stands leads is answered).0

none_refused : (a b : Hub) (id : ℕ) (fault : HubFault) (held : Option Holding) → HasHolding a id held → (of_open held ≡ Ok tt → (fault ≡ Memory) × (false ≡ true)) → KeepsEach a b → HasHolding b id None
none_refused a b id fault None has memory keeps = keeps id None has
none_refused a b id fault (Some held) has memory keeps = let never : false ≡ true = (memory refl).1 in cc

-- an end that was refused: the hub had none
pub lost_refused : (a b : Hub) (what : Happening) (fault : HubFault) (origin : State) → IsAt a origin
    → ((held : Option Holding) → HasHolding a (id_of what) held → admitted held (greatest_of a) (connection_count a) what ≡ Ok tt → (fault ≡ Memory) × (takes_memory held what ≡ true)) → KeepsEach a b → HasLost what b
lost_refused a b (opened id kind) fault origin at memory keeps = tt
lost_refused a b (came id piece) fault origin at memory keeps = tt
lost_refused a b (ended id) fault origin at memory keeps = none_refused a b id fault (origin.held id) (at.held id) (memory (origin.held id) (at.held id)) keeps

closed_leaves : (b : Hub) (id : ℕ) (piece : List ℕ) (held : Option Holding) → HasHolding b id (held_after held (came id piece) Close) → HasHolding b id None
closed_leaves b id piece None has = has
closed_leaves b id piece (Some held) has = has

-- it has one or none
never_both : (a : Hub) (id : ℕ) (held : Option Holding) → of_open held ≡ Ok tt → HasHolding a id held → HasHolding a id None → ⊥
never_both a id None passes has none = cc
never_both a id (Some held) passes has none = none has.place has.within has.is

module _ {T : Type 0} where
  -- octets that were accepted: what goes on was open, and what is closed the hub has no more
  pub only_answered : (a b : Hub) (old new : Connection T) (piece : List ℕ) (out : Out) (origin : State) (start : Standing) (es : List Accepted) (state : State) (stands : Standing)
      → IsAt a origin → Leads origin start es state stands → IsAt b state → IsAnswered (came old.id piece) (Some out) es → new.id ≡ old.id → new.stage ≡ stage_answered out old.stage → KeepsOnlyOpen a b old new
  only_answered a b old new piece Close origin start es state stands at leads is answered id stage = λ had closed.
      let by = answered_at b (came old.id piece) Close origin start es state stands leads is answered in
      subst (λ (i : ℕ). HasHolding b i None) (sym id) (closed_leaves b old.id piece (origin.held old.id) (left_behind b origin (came old.id piece) Close by.0))
  only_answered a b old new piece More origin start es state stands at leads is answered id stage = λ had closed.
      let by = answered_at b (came old.id piece) More origin start es state stands leads is answered in
      absurd (never_both a old.id (origin.held old.id) by.1 (at.held old.id) (had (ap is_open (sym stage) ∙ closed)))

  -- an end
  pub only_ended : (a b : Hub) (old new : Connection T) → new.id ≡ old.id → HasHolding b old.id None → KeepsOnlyOpen a b old new
  only_ended a b old new id none = λ had closed. subst (λ (i : ℕ). HasHolding b i None) (sym id) none

  -- what was so of one that was as this one
  pub only_from : (a b c : Hub) (old mid new : Connection T) → mid.id ≡ old.id → mid.stage ≡ old.stage → KeepsEach a b → KeepsOnlyOpen b c mid new → KeepsOnlyOpen a c old new
  only_from a b c old mid new id stage keeps later = λ had. later (λ closed. keeps mid.id None (subst (λ (i : ℕ). HasHolding a i None) (sym id) (had (ap is_open (sym stage) ∙ closed))))

  pub only_still : (a b : Hub) (old new : Connection T) → new.id ≡ old.id → new.stage ≡ old.stage → KeepsEach a b → KeepsOnlyOpen a b old new
  only_still a b old new id stage keeps = only_from a b b old new new id stage keeps (λ has. has)
