-- A list that is sorted by runs, two of which are merged.
use Rattle.std.specs.Prelude.{◌-◌, ◌≤◌, List, ◌++◌, length, take, drop}
use Rattle.store_places.specs.declared.merging.Merging.{Merging}

-- what is merged, what is left of the one run, and the other run with what stands behind it
abbrev pub elements : {T : Type 0} → Merging T → List T
elements m = m.merged.items ++ (take (m.left_end - m.left) (drop m.left m.items.items) ++ drop m.right m.items.items)

-- the runs lie within the items
pub record AreWithin {T : Type 0} (m : Merging T) : Type 0 where
  pub left : m.left_end ≤ length m.items.items
  pub right : m.right_end ≤ length m.items.items
