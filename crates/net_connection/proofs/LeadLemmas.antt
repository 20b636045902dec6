-- Where events lead, one list behind the other.
use Rattle.std.proofs.Common.{List, [], ◌∷◌, ◌++◌, refl, subst}
use Rattle.std.specs.Prelude.{Option}
use Rattle.dict_catalogue.specs.Steps.{Catalogue}
use Rattle.net_hub.specs.Runs.{State, Standing, Accepted, IsAt, Leads, state_after}
use Rattle.net_hub.specs.declared.hub.Hub.{Hub}
use Rattle.net_hub.proofs.DurableLemmas.{left_or_closed}
use Rattle.net_connection.specs.Leading.{HasLedOn}

leads_joined : (a : State) (p : Standing) (es : List Accepted) (b : State) (q : Standing) (fs : List Accepted) (c : State) (r : Standing)
    → Leads a p es b q → Leads b q fs c r → Leads a p (es ++ fs) c r
leads_joined a p [] b q fs c r first then =
    subst (λ (s : State). Leads s p fs c r) first.0 (subst (λ (s : Standing). Leads b s fs c r) first.1 then)
leads_joined a p (one ∷ es) b q fs c r first then =
    (first.0, first.1, leads_joined (state_after a one.what one.out) one.after es b q fs c r first.2 then)

pub led_joined : {T U : Type 0} {S0 S1 S2 : Catalogue → Type 0} {L0 L1 L2 : List (Option Catalogue) → Type 0} {a b c : Hub} {P Q R : List Accepted → Type 0}
    → HasLedOn T S0 L0 S1 L1 a b P → HasLedOn U S1 L1 S2 L2 b c Q → (U → T) → ((es fs : List Accepted) → P es → Q fs → R (es ++ fs)) → HasLedOn U S0 L0 S2 L2 a c R
led_joined first then trust join = record {
  led = λ trusted origin start at shown left.
      let one = first.led (trust trusted) origin start at shown left in
      let two = then.led trusted one.state one.stands one.is_at one.shows one.leaves in
      let joined = leads_joined origin start one.events one.state one.stands two.events two.state two.stands one.leads two.leads in
      record {
        events = one.events ++ two.events;
        state = two.state;
        stands = two.stands;
        leads = joined;
        lasts = left_or_closed origin two.state start two.stands (one.events ++ two.events) joined;
        is_at = two.is_at;
        shows = two.shows;
        leaves = two.leaves;
        holds = join one.events two.events one.holds two.holds;
      };
}

-- no event was handed out
pub led_none : {T : Type 0} {S : Catalogue → Type 0} {L : List (Option Catalogue) → Type 0} {a b : Hub} {P : List Accepted → Type 0}
    → ((state : State) → IsAt a state → IsAt b state) → P [] → HasLedOn T S L S L a b P
led_none same holds = record {
  led = λ trusted origin start at shown left. record {
    events = [];
    state = origin;
    stands = start;
    leads = (refl, refl);
    lasts = left_or_closed origin origin start start [] (refl, refl);
    is_at = same origin at;
    shows = shown;
    leaves = left;
    holds = holds;
  };
}

-- and of the same hub
pub led_still : {T : Type 0} {S : Catalogue → Type 0} {L : List (Option Catalogue) → Type 0} {a : Hub} {P : List Accepted → Type 0} → P [] → HasLedOn T S L S L a a P
led_still holds = led_none (λ state at. at) holds

-- by where they lead
pub led_at : {T : Type 0} {S0 S1 : Catalogue → Type 0} {L0 L1 : List (Option Catalogue) → Type 0} {a b : Hub} {P Q : List Accepted → Type 0} → HasLedOn T S0 L0 S1 L1 a b P
    → ((es : List Accepted) (origin : State) (start : Standing) (state : State) (stands : Standing) → IsAt a origin → Leads origin start es state stands → IsAt b state → P es → Q es) → HasLedOn T S0 L0 S1 L1 a b Q
led_at led so = record {
  led = λ trusted origin start at shown left.
      let one = led.led trusted origin start at shown left in
      record {
        events = one.events;
        state = one.state;
        stands = one.stands;
        leads = one.leads;
        lasts = one.lasts;
        is_at = one.is_at;
        shows = one.shows;
        leaves = one.leaves;
        holds = so one.events origin start one.state one.stands at one.leads one.is_at one.holds;
      };
}

pub led_as : {T : Type 0} {S0 S1 : Catalogue → Type 0} {L0 L1 : List (Option Catalogue) → Type 0} {a b : Hub} {P Q : List Accepted → Type 0}
    → HasLedOn T S0 L0 S1 L1 a b P → ((es : List Accepted) → P es → Q es) → HasLedOn T S0 L0 S1 L1 a b Q
led_as led so = led_at led (λ es origin start state stands at leads is. so es)
