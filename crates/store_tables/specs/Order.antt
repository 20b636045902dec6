-- Lists in an order.
use Rattle.std.specs.Prelude.{List, [], ◌∷◌}
use Rattle.std.specs.List.{AllByRecursion}

-- each element has the relation to each later one
abbrev pub InOrder : {X : Type 0} → (X → X → Type 0) → List X → Type 0
InOrder R [] = Unit {0}
InOrder R (x ∷ xs) = AllByRecursion (R x) xs × InOrder R xs
