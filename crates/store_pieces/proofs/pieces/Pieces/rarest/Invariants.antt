use Rattle.std.proofs.Common.{◌≡◌, ℕ, List, ◌⊎◌}
use Rattle.store_derived.specs.KeptGrams.{kept_grams}
use Rattle.store_pieces.specs.Pieces.{ArePlaced}
use Rattle.store_pieces.specs.Common.{HasAllWith}
use Rattle.store_pieces.proofs.pieces.Pieces.rarest.Given as goal

abbrev pub invariant-loop-end : goal.invariant-loop-end
invariant-loop-end l = (keys : List (List ℕ)) → ArePlaced kept_grams keys l.self.texts l.self.lists → (l.rarest ≡ l.places) ⊎ HasAllWith l.query keys l.rarest
