-- Runs of events: where a list of accepted events leads, from a state of a hub and what its desk stands at.
use Rattle.std.specs.Prelude.{◌≡◌, ◌==◌, ℕ, List, [], ◌∷◌, ◌++◌, filter, Option, None, Ok, if◌then◌else◌}
use Rattle.dict_proto.specs.Streams.{StreamChange, PutsAll}
use Rattle.dict_catalogue.specs.Steps.{Catalogue}
use Rattle.dict_session.specs.Desks.{Condition}
use Rattle.net_hub.specs.Holding.{Holding}
use Rattle.net_hub.specs.Events.{Happening, id_of, admitted, count_after, greatest_after, held_after, Serves}
use Rattle.net_hub.specs.Undisturbed.{IsServed, IsDisturbed}
use Rattle.net_hub.specs.Hubs.{HasHolding, host_of, greatest_of, connection_count}
use Rattle.net_hub.specs.declared.incoming.Out.{Out}
use Rattle.net_hub.specs.declared.hub.Hub.{Hub}

-- a state of a hub: the host's name, the greatest id that was given, how many connections are open, and what is held of each id
pub record State : Type 0 where
  pub host : List ℕ
  pub greatest : Option ℕ
  pub count : ℕ
  pub held : ℕ → Option Holding

-- no connection is open, and no id was given
abbrev pub beginning : List ℕ → State
beginning host = record { host = host; greatest = None; count = 0; held = λ id. None }

-- the state after an event that was answered so: what is held of its own connection changes, and of no other
abbrev pub state_after : State → Happening → Out → State
state_after state what out = record {
  host = state.host;
  greatest = greatest_after state.greatest what;
  count = count_after state.count (state.held (id_of what)) (held_after (state.held (id_of what)) what out);
  held = λ id. if id == id_of what then held_after (state.held (id_of what)) what out else state.held id;
}

-- a hub is at a state
pub record IsAt (hub : Hub) (state : State) : Type 0 where
  pub host : host_of hub ≡ state.host
  pub greatest : greatest_of hub ≡ state.greatest
  pub count : connection_count hub ≡ state.count
  pub held : (id : ℕ) → HasHolding hub id (state.held id)

-- the catalogue that a desk shows, and a list of which a stop may leave one
pub record Standing : Type 0 where
  pub catalogue : Catalogue
  pub leaves : List (Option Catalogue)

-- an event that was accepted: how it was answered, how the desk stood after it, what its connection's sink took, and what the
-- desk stood at before and after it
pub record Accepted : Type 0 where
  pub what : Happening
  pub out : Out
  pub desk : Condition
  pub put : StreamChange
  pub before : Standing
  pub after : Standing

-- at this state the event is admitted, and served so
pub record IsServedEvent (state : State) (one : Accepted) : Type 0 where
  pub passes : admitted (state.held (id_of one.what)) state.greatest state.count one.what ≡ Ok tt
  pub serves : Serves state.host one.desk (λ M. M ≡ one.after.catalogue) (λ ms. ms ≡ one.before.leaves) (λ ms. ms ≡ one.after.leaves)
      one.before.catalogue (state.held (id_of one.what)) one.what one.out one.put.old one.put.new

-- the events lead from a state and what the desk stands at to another
abbrev pub Leads : State → Standing → List Accepted → State → Standing → Type 0
Leads state stands [] end ends = (end ≡ state) × (ends ≡ stands)
Leads state stands (one ∷ events) end ends =
    (one.before ≡ stands) × IsServedEvent state one × Leads (state_after state one.what one.out) one.after events end ends

-- The events lead to `state` and `stands`, and with this one on to where the hub and its desk are now
pub record LeadsOn (Shows : Catalogue → Type 0) (Leaves : List (Option Catalogue) → Type 0) (origin : State) (start : Standing) (events : List Accepted)
    (state : State) (stands : Standing) (what : Happening) (out : Out) (desk : Condition) (put : StreamChange) (hub : Hub) : Type 0 where
  pub after : Standing
  pub leads : Leads origin start (events ++ record { what = what; out = out; desk = desk; put = put; before = stands; after = after } ∷ []) (state_after state what out) after
  pub is_at : IsAt hub (state_after state what out)
  pub shows : Shows after.catalogue
  pub leaves : Leaves after.leaves

-- the event gave what it gives where nothing fails
abbrev pub IsUndisturbed : State → Accepted → Type 0
IsUndisturbed state one = (octets : List ℕ)
    × IsServed state.host one.before.catalogue (state.held (id_of one.what)) one.what (record { out = one.out; octets = octets; catalogue = one.after.catalogue })
    × PutsAll one.put.old one.put.new octets

-- something failed in it
abbrev pub HasDisturbance : State → Accepted → Type 0
HasDisturbance state one = IsDisturbed state.host one.desk one.before.catalogue (state.held (id_of one.what)) one.what one.out one.put.old one.put.new

-- the events of one connection gave what they give where nothing fails
abbrev pub GoWell : ℕ → State → List Accepted → Type 0
GoWell id state [] = Unit {0}
GoWell id state (one ∷ events) = (id_of one.what ≡ id → IsUndisturbed state one) × GoWell id (state_after state one.what one.out) events

-- the events of one connection
abbrev pub events_of : ℕ → List Accepted → List Accepted
events_of id events = filter (λ one. id == id_of one.what) events

-- an event, and the catalogue before it
pub record EventAt : Type 0 where
  pub what : Happening
  pub catalogue : Catalogue

abbrev pub event_asked : Accepted → EventAt
event_asked one = record { what = one.what; catalogue = one.before.catalogue }

-- one by one the events were answered alike, put the same octets, and left the same catalogue
abbrev pub GotSame : List Accepted → List Accepted → Type 0
GotSame [] [] = Unit {0}
GotSame [] (other ∷ others) = ⊥
GotSame (one ∷ events) [] = ⊥
GotSame (one ∷ events) (other ∷ others) = (one.out ≡ other.out)
    × ((octets : List ℕ) × PutsAll one.put.old one.put.new octets × PutsAll other.put.old other.put.new octets)
    × (one.after.catalogue ≡ other.after.catalogue) × GotSame events others
