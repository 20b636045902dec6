-- The order of what one round hands to the hub.
use Rattle.std.specs.Prelude.{◌≡◌, ◌≤◌, ◌+◌, ℕ, List, [], ◌∷◌, ◌++◌, length, ⊤}
use Rattle.net_hub.specs.Events.{opened, id_of}
use Rattle.net_hub.specs.Runs.{Accepted}
use Rattle.net_hub.specs.declared.kind.Kind.{Kind}
use Rattle.net_hub.specs.declared.kind.Kind.TheVariants.{Dict, Http}
use Rattle.net_connection.specs.Ordering.{AreOfTurns}

-- connections of this kind were opened, the first by this id, each other by the next one
abbrev pub AreOpeningsFrom : ℕ → Kind → List Accepted → Type 0
AreOpeningsFrom id kind [] = ⊤
AreOpeningsFrom id kind (one ∷ events) = (one.what ≡ opened id kind) × AreOpeningsFrom (id + 1) kind events

-- each event is of this id or of a greater one
abbrev pub AreFrom : ℕ → List Accepted → Type 0
AreFrom id [] = ⊤
AreFrom id (one ∷ events) = (id ≤ id_of one.what) × AreFrom id events

-- no event is of a lesser id than one before it
abbrev pub ComeById : List Accepted → Type 0
ComeById [] = ⊤
ComeById (one ∷ events) = AreFrom (id_of one.what) events × ComeById events

-- At most 16 connections of readers were opened, then at most 16 of editors, each by the id behind the one before, and then the open
-- connections had their turns, in the order of their ids
pub record AreOfRound (events : List Accepted) : Type 0 where
  pub first : ℕ
  pub readers : List Accepted
  pub editors : List Accepted
  pub turns : List Accepted
  pub whole : events ≡ readers ++ (editors ++ turns)
  pub dict : AreOpeningsFrom first Dict readers
  pub http : AreOpeningsFrom (first + length readers) Http editors
  pub few_readers : length readers ≤ 16
  pub few_editors : length editors ≤ 16
  pub are_turns : AreOfTurns turns
  pub by_id : ComeById turns
