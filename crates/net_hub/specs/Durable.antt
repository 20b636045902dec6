-- What a stop leaves behind a run of events.
use Rattle.std.specs.Prelude.{◌≡◌, ◌⊎◌, true, false, List, [], ◌∷◌, Some}
use Rattle.net_hub.specs.Runs.{Standing, Accepted}

-- a stop leaves the catalogue that the desk shows, and no other
abbrev pub LeavesWhatItShows : Standing → Type 0
LeavesWhatItShows stands = stands.leaves ≡ Some stands.catalogue ∷ []

-- behind each of these events the desk is open
abbrev pub StayOpen : List Accepted → Type 0
StayOpen [] = Unit {0}
StayOpen (one ∷ events) = (one.desk.closed ≡ false) × StayOpen events

-- behind one of these events the desk is closed
abbrev pub OneIsClosed : List Accepted → Type 0
OneIsClosed [] = ⊥
OneIsClosed (one ∷ events) = (one.desk.closed ≡ true) ⊎ OneIsClosed events
