use Rattle.std.proofs.Common.{ap, sym, ◌∙◌, subst}
use Rattle.std.specs.List.{range_with_len}
use Rattle.std.specs.List.Sorted.{IsPermutation}
use Rattle.std.proofs.lemmas.List.Sorted.{IsPermutation-refl}
use Rattle.store_places.proofs.order.sorted_places.Goals as goal

pub put_in_order-requires : goal.put_in_order-requires
put_in_order-requires c =
    let made = c.in_ok-places.ensures ∙ ap (range_with_len 0) c.requires in
    subst (IsPermutation _) (sym made) (IsPermutation-refl _)
