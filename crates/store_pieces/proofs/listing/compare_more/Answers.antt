use Rattle.std.proofs.Common.{◌≡◌, ◌≤◌, take, length, sym, subst, arith}
use Rattle.std.specs.Ordering.{is_lt}
use Rattle.std.specs.List.Sorted.{IsSorted}
use Rattle.std.proofs.lemmas.List.Sorted.{IsPermutation-trans, IsPermutation-map}
use Rattle.store_pieces.specs.PlacedPieces.{gram_placed, gram_cmp}
use Rattle.store_places.proofs.ComparedLemmas.{all_compared}
use Rattle.store_pieces.proofs.listing.compare_more.Goals as goal

pub begin_grouping-requires : goal.begin_grouping-requires
begin_grouping-requires c = record {
  each = IsPermutation-trans _ _ _ c.requires.each (IsPermutation-map gram_placed _ _ c.put_in_order.ensures.same);
  rising = c.put_in_order.ensures.rising;
}

pub begin_grouping-requires-then-to-len : goal.begin_grouping-requires-then-to-len
begin_grouping-requires-then-to-len c =
    let runs = c.args.begun.runs.items in
    let to = c.min-to.result in
    let value : c.as_slice.result.now ≡ runs = c.as_slice.ensures.value in
    let old = subst (λ l. IsSorted gram_cmp (take c.args.begun.compared l)) (sym value) c.requires.rising in
    let new = subst (λ l. IsSorted gram_cmp (take to l)) value (c.are_in_order.ensures c.if-not-are_in_order.false old) in
    let past : length runs ≤ to = omega (arith, c.if-to-len.true) in
    record { each = c.requires.each; rising = all_compared (λ x y. is_lt (gram_cmp x y)) runs to past new }
