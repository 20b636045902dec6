use Rattle.std.proofs.Common.{◌≡◌, ap, rules}
use Rattle.std.specs.declared.cmp.Ordering.{Ordering}
use Rattle.std.specs.Ordering.{is_lt}
use Rattle.std.proofs.lemmas.Fn.{always_returns_same}
use Rattle.std.proofs.lemmas.List.Sorted.{ranks_by}
use Rattle.store_pieces.specs.PlacedPieces.{gram_cmp}
use Rattle.store_pieces.proofs.PlacedLemmas.{gram_total}
use Rattle.store_pieces.proofs.placed.put_in_order.Goals as goal

by_cmp : {F : Type 0} (r o : Ordering) (f g : F) → (r ≡ o) × (f ≡ g) → (is_lt r ≡ is_lt o) × (f ≡ g)
by_cmp r o f g h = (ap is_lt h.0, h.1)

pub returns : goal.returns
returns c = record {
  same = c.sort_unstable_by.ensures.permutation;
  rising = c.sort_unstable_by.ensures.sorted (λ x y. is_lt (gram_cmp x y)) (ranks_by gram_total (λ x. x)) (always_returns_same _ _ _ (λ a r f called. by_cmp r (gram_cmp a.0.now a.1.0.now) f _ (search rules)));
}
