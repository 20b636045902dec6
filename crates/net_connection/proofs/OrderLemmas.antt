-- What turns hand to the hub.
use Rattle.std.proofs.Common.{List, [], ◌∷◌, ◌++◌, sym, subst}
use Rattle.net_hub.specs.Events.{Happening}
use Rattle.net_hub.specs.Runs.{Accepted}
use Rattle.net_connection.specs.Ordering.{IsOnly, IsOfTurn, AreOfTurns}

pub only_turn : (what : Happening) (events : List Accepted) → IsOfTurn what → IsOnly what events → AreOfTurns events
only_turn what [] is only = tt
only_turn what (one ∷ []) is only = (subst IsOfTurn (sym only) is, tt)
only_turn what (one ∷ other ∷ events) is only = absurd only

pub turns_of_joined : (es fs : List Accepted) → AreOfTurns es → AreOfTurns fs → AreOfTurns (es ++ fs)
turns_of_joined [] fs none more = more
turns_of_joined (one ∷ es) fs (is, rest) more = (is, turns_of_joined es fs rest more)
