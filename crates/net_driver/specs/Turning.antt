-- What is done to each connection of a list, place by place.
use Rattle.std.specs.Prelude.{◌≡◌, ◌≢◌, ◌≤◌, ◌<◌, ◌==◌, ◌&&◌, ◌||◌, All, ℕ, Bool, true, false, not, List, [], ◌∷◌, Option, None, Some, length, max, nat_le, nat_lt, slice_index_or, take, Result, if◌then◌else◌}
use Rattle.dict_desk.specs.declared.fault.Fault.{Fault}
use Rattle.dict_desk.specs.Expected.{Expected}
use Rattle.dict_session.specs.Desks.{Condition}
use Rattle.net_hub.specs.Holding.{Holding}
use Rattle.net_hub.specs.Hubs.{HasHolding}
use Rattle.net_hub.specs.Runs.{Accepted, events_of}
use Rattle.net_hub.specs.declared.fault.HubFault.{HubFault}
use Rattle.net_hub.specs.declared.hub.Hub.{Hub}
use Rattle.net_hub.specs.declared.kind.Kind.{Kind}
use Rattle.net_outlet.specs.OutletCalls.{Call}
use Rattle.net_connection.specs.Causes.{AreCausedBy, IsRefused}
use Rattle.net_connection.specs.Foreseen.{HoldsBack, KeepsOrder}
use Rattle.net_connection.specs.Handing.{held_for}
use Rattle.net_connection.specs.Ordering.{AreOfTurns}
use Rattle.net_connection.specs.Quiet.{StaysForReader}
use Rattle.net_connection.specs.Stages.{is_open}
use Rattle.net_driver.specs.Ordering.{ComeById}
use Rattle.net_connection.specs.Turns.{Departs, Turns, marked}
use Rattle.net_connection.specs.declared.connection.Connection.{Connection}

-- the same connections, where a reading of those whose ids are told of may give something now
pub record MarkAll {T : Type 0} (is_told : ℕ → Bool) (old new : List (Connection T)) : Type 0 where
  pub len : length new ≡ length old
  pub marks : (k : ℕ) (d : Connection T) → k < length old → slice_index_or new k d ≡ marked (is_told (slice_index_or old k d).id) (slice_index_or old k d)

-- what the hub has of each connection that is none of these it has still
abbrev pub KeepsAllBut : {T : Type 0} → List (Connection T) → Hub → Hub → Type 0
KeepsAllBut {T} all old new =
    (other : ℕ) (held : Option Holding) → ((k : ℕ) (d : Connection T) → k < length all → (slice_index_or all k d).id ≢ other) → HasHolding old other held → HasHolding new other held

-- the hub has no connection but those of these that are open
abbrev pub HasOnlyOpenOf : {T : Type 0} → Hub → List (Connection T) → Type 0
HasOnlyOpenOf hub all = (id : ℕ) → All (λ one. is_open one.stage ≡ true → one.id ≢ id) all → HasHolding hub id None

-- so it is after, where it was so before
abbrev pub KeepsOnlyOpenOf : {T : Type 0} → Hub → Hub → List (Connection T) → List (Connection T) → Type 0
KeepsOnlyOpenOf from to old new = HasOnlyOpenOf from old → HasOnlyOpenOf to new

-- one of these is so
abbrev pub any : List Bool → Bool
any [] = false
any (one ∷ others) = one || any others

-- for how many turns octets of one of these are held back, at most
abbrev pub longest : {T : Type 0} → List (Connection T) → ℕ
longest [] = 0
longest (one ∷ others) = max (held_for one) (longest others)

-- the id of the connection whose command comes first: octets of it are held back, for no fewer turns than of another, and it stands before
-- those of which they are for as many
abbrev pub first_of : {T : Type 0} → List (Connection T) → Option ℕ
first_of [] = None
first_of (one ∷ others) = if nat_lt 0 (held_for one) && nat_le (longest others) (held_for one) then Some one.id else first_of others

-- it is of one of these: octets of that are held back, for no fewer turns than of each, and for more than of each before it
pub record IsFirst {T : Type 0} (all : List (Connection T)) (id : ℕ) : Type 0 where
  pub place : ℕ
  pub within : place < length all
  pub is : (d : Connection T) → (slice_index_or all place d).id ≡ id
  pub some : (d : Connection T) → 0 < held_for (slice_index_or all place d)
  pub most : (k : ℕ) (d : Connection T) → k < length all → held_for (slice_index_or all k d) ≤ held_for (slice_index_or all place d)
  pub first : (k : ℕ) (d : Connection T) → k < place → held_for (slice_index_or all k d) < held_for (slice_index_or all place d)

-- it is this one, and where there was none the first of these of which octets are held back
abbrev pub first_since : {T : Type 0} → Option ℕ → List (Connection T) → Option ℕ
first_since (Some id) all = Some id
first_since None [] = None
first_since None (one ∷ others) = if nat_lt 0 (held_for one) then Some one.id else first_since None others

-- as the turn at this place begins: that as the first turn began, and where there was none the first since the turns before that place
abbrev pub first_at : {T : Type 0} → List (Connection T) → List (Connection T) → ℕ → Option ℕ
first_at old new place = first_since (first_of old) (take place new)

-- it is another than this one
abbrev pub is_other : Option ℕ → ℕ → Bool
is_other None id = false
is_other (Some first) id = not (first == id)

-- Each connection had its turn as one that is no longer open. Something happened where it did in one of them
pub record DepartAll {T : Type 0} (taken coming : T → Option (List ℕ)) (made : T → Option (List Call)) (old new : List (Connection T)) (moved : Bool) : Type 0 where
  pub len : length new ≡ length old
  pub moves : List Bool
  pub count : length moves ≡ length old
  pub departs : (k : ℕ) (d : Connection T) → k < length old → Departs taken coming made (slice_index_or old k d) (slice_index_or new k d) (slice_index_or moves k false)
  pub has_moved : moved ≡ any moves

-- Each connection had its turn, by its own events, over what the hub had of it as they began. An editor's handed the hub no command
-- where another connection's comes first. The first was over this desk, each other over the one that the turn before it left, and the last left that
-- one; a closed desk stays closed. What failed, that a reader's turn for which nothing is looked up left the desk as it was, and why octets
-- are held back, is told of the desks of its turn. Each event is of one of these connections, in the order of their ids. Something happened
-- where it did in one of the turns
pub record TurnAll {K T : Type 0} (stands : K → Condition) (foresees : K → Expected → K → Type 0) (prepares : K → Result Bool Fault → K → Type 0) (taken coming : T → Option (List ℕ)) (made : T → Option (List Call))
    (refuses : Hub → ℕ → Kind → Option HubFault → Type 0) (hub : Hub) (from to : K) (old new : List (Connection T)) (moved : Bool) (events : List Accepted) : Type 0 where
  pub len : length new ≡ length old
  pub moves : List Bool
  pub count : length moves ≡ length old
  pub left : List K
  pub desks : length left ≡ length old
  pub last : to ≡ slice_index_or (from ∷ left) (length old) from
  pub closed : (k : ℕ) → k < length old → (stands (slice_index_or (from ∷ left) k from)).closed ≡ true → (stands (slice_index_or left k from)).closed ≡ true
  pub turns : (k : ℕ) (d : Connection T) → k < length old
      → Turns taken coming made (IsRefused refuses hub) (slice_index_or old k d) (slice_index_or new k d) (slice_index_or moves k false) (events_of (slice_index_or old k d).id events)
  pub caused : (k : ℕ) (d : Connection T) → k < length old
      → AreCausedBy (stands (slice_index_or left k from)) (slice_index_or old k d) (slice_index_or new k d) (events_of (slice_index_or old k d).id events)
  pub stays : (k : ℕ) (d : Connection T) → k < length old
      → StaysForReader (slice_index_or old k d).held.kind hub (slice_index_or (from ∷ left) k from) (slice_index_or left k from) (events_of (slice_index_or old k d).id events)
  pub prepared : (k : ℕ) (d : Connection T) → k < length old
      → HoldsBack foresees prepares (is_other (first_at old new k) (slice_index_or old k d).id) hub (slice_index_or (from ∷ left) k from) (slice_index_or left k from) (slice_index_or old k d) (slice_index_or new k d)
  pub orders : (k : ℕ) (d : Connection T) → k < length old
      → KeepsOrder (is_other (first_at old new k) (slice_index_or old k d).id) (slice_index_or old k d).held.kind hub (events_of (slice_index_or old k d).id events)
  pub has_moved : moved ≡ any moves
  pub no_other : (id : ℕ) → ((k : ℕ) (d : Connection T) → k < length old → (slice_index_or old k d).id ≢ id) → events_of id events ≡ []
  pub are_turns : AreOfTurns events
  pub by_id : ComeById events
