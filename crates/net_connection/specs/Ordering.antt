-- What one turn hands to the hub.
use Rattle.std.specs.Prelude.{◌≡◌, List, [], ◌∷◌, ⊤}
use Rattle.net_hub.specs.Events.{Happening, opened, came, ended}
use Rattle.net_hub.specs.Runs.{Accepted}

-- it is this event alone, or none
abbrev pub IsOnly : Happening → List Accepted → Type 0
IsOnly what [] = ⊤
IsOnly what (one ∷ []) = one.what ≡ what
IsOnly what (one ∷ other ∷ events) = ⊥

-- octets came, or an end
abbrev pub IsOfTurn : Happening → Type 0
IsOfTurn (opened id kind) = ⊥
IsOfTurn (came id piece) = ⊤
IsOfTurn (ended id) = ⊤

-- so it is of each event
abbrev pub AreOfTurns : List Accepted → Type 0
AreOfTurns [] = ⊤
AreOfTurns (one ∷ events) = IsOfTurn one.what × AreOfTurns events
