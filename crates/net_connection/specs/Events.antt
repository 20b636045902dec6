-- The octets of events that a hub accepted.
use Rattle.std.specs.Prelude.{◌≡◌, ℕ, List, [], ◌++◌, ◌∷◌, Some}
use Rattle.net_hub.specs.Events.{Happening, opened, came, ended, id_of}
use Rattle.net_hub.specs.Runs.{Accepted}

-- an event put these octets on its connection's queue, behind those that waited there
abbrev pub IsPut : Accepted → List ℕ → Type 0
IsPut one octets = (before : List ℕ) × (one.put.old.octets ≡ Some before) × (one.put.new.octets ≡ Some (before ++ octets))

-- the octets that events put, one after the other
abbrev pub ArePut : List Accepted → List ℕ → Type 0
ArePut [] octets = octets ≡ []
ArePut (one ∷ events) octets = (first : List ℕ) × (rest : List ℕ) × IsPut one first × ArePut events rest × (octets ≡ first ++ rest)

-- the octets that an event brings
abbrev pub piece_of : Happening → List ℕ
piece_of (opened id kind) = []
piece_of (came id piece) = piece
piece_of (ended id) = []

-- the octets that events bring, one after the other
abbrev pub pieces_of : List Accepted → List ℕ
pieces_of [] = []
pieces_of (one ∷ events) = piece_of one.what ++ pieces_of events

-- each is an event of the connection of this id
abbrev pub AreEventsOf : ℕ → List Accepted → Type 0
AreEventsOf id [] = Unit {0}
AreEventsOf id (one ∷ events) = (id_of one.what ≡ id) × AreEventsOf id events
