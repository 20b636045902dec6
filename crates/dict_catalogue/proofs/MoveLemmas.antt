-- Lists that are cut and joined, seen through a function.
use Rattle.std.proofs.Common.{◌≡◌, ℕ, List, ◌++◌, length, take, drop}
use Rattle.std.specs.Prelude.{map, min}
use Rattle.std.specs.List.{take-map, drop-map}
use Rattle.std.proofs.lemmas.List.{take_min, drop_min, map-append}

-- a list with others put in at a place, which is at most its length
pub moved_shown : {X Y : Type 0} (f : X → Y) (others named final : List X) (so sn : List Y) (at : ℕ) →
    map f others ≡ so → map f named ≡ sn →
    final ≡ (take (min at (length others)) others ++ named) ++ drop (min at (length others)) others →
    map f final ≡ (take at so ++ sn) ++ drop at so
moved_shown f others named final so sn at e1 e2 e3 =
    rw (e3, ← e1, ← e2) (simp (take_min, drop_min, map-append, take-map, drop-map))
