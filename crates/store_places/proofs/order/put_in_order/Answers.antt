use Rattle.std.proofs.Common.{◌≡◌, ap, rules}
use Rattle.std.specs.declared.cmp.Ordering.{Ordering}
use Rattle.std.specs.Ordering.{is_lt}
use Rattle.std.proofs.lemmas.Fn.{always_returns_same}
use Rattle.std.proofs.lemmas.List.Sorted.{IsPermutation-trans, ranks_by}
use Rattle.store_places.specs.Orders.{place_cmp}
use Rattle.store_places.proofs.PlaceLemmas.{place_total}
use Rattle.store_places.proofs.order.put_in_order.Goals as goal

by_cmp : {F : Type 0} (r o : Ordering) (f g : F) → (r ≡ o) × (f ≡ g) → (is_lt r ≡ is_lt o) × (f ≡ g)
by_cmp r o f g h = (ap is_lt h.0, h.1)

pub returns : goal.returns
returns c =
    let texts = c.args.texts.now in
    let first = c.sort_unstable_by.new.self.items in
    let last = c.sort_unstable_by-2.new.self.items in
    record {
      each = IsPermutation-trans _ first last (IsPermutation-trans _ _ first c.requires c.sort_unstable_by.ensures.permutation) c.sort_unstable_by-2.ensures.permutation;
      rising = c.sort_unstable_by-2.ensures.sorted (λ a b. is_lt (place_cmp texts a b)) (ranks_by (place_total texts) (λ a. a)) (always_returns_same _ _ _ (λ a r f called. by_cmp r (place_cmp texts a.0.now a.1.0.now) f _ (search rules)));
    }
