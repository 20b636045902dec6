use Rattle.std.proofs.Common.{◌≡◌, ◌++◌, ◌-◌, map, drop}
use Rattle.store_derived.specs.KeptGrams.{kept_grams}
use Rattle.store_pieces.specs.Pieces.{placed_at}
use Rattle.store_pieces.specs.PlacedPieces.{grams_placed}
use Rattle.store_pieces.proofs.placed.add_grams.Given as goal

-- what was put behind the list, and the runs that are held from here on, are those of the key
abbrev pub invariant-loop-end : goal.invariant-loop-end
invariant-loop-end l = grams_placed l.list.items ++ map (placed_at l.place) (kept_grams (drop (l.end - 3) l.key)) ≡ grams_placed l.fn.list.items ++ map (placed_at l.place) (kept_grams l.key)
