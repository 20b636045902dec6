use Rattle.std.proofs.Common.{◌≡◌, List, length, map, take, refl, sym, subst}
use Rattle.store_search.specs.Entries.{Indexed, entry_of}
use Rattle.store_desk.proofs.coming.Coming.of.Goals as goal

pub invariant_of-result : goal.invariant_of-result
invariant_of-result c = (c.requires, λ reading h. subst (λ (taken : List Indexed). taken ≡ map entry_of (take (length taken) reading.lines)) (sym c.new.ensures) refl)
