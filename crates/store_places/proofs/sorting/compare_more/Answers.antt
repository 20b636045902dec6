use Rattle.std.proofs.Common.{◌≡◌, ◌≤◌, take, length, sym, subst, arith}
use Rattle.std.specs.Ordering.{is_lt}
use Rattle.std.specs.List.Sorted.{IsSorted}
use Rattle.store_places.specs.Orders.{place_cmp}
use Rattle.store_places.proofs.ComparedLemmas.{all_compared}
use Rattle.store_places.proofs.sorting.compare_more.Goals as goal

pub returns-then-to-len : goal.returns-then-to-len
returns-then-to-len c =
    let texts = c.args.texts.now in
    let places = c.args.begun.places.items in
    let from = c.args.begun.compared in
    let to = c.min-to.result in
    let value : c.as_slice.result.now ≡ places = c.as_slice.ensures.value in
    let old = subst (λ l. IsSorted (place_cmp texts) (take from l)) (sym value) c.requires.rising in
    let new = subst (λ l. IsSorted (place_cmp texts) (take to l)) value (c.are_in_order.ensures c.if-not-are_in_order.false old) in
    let past : length places ≤ to = omega (arith, c.if-to-len.true) in
    record { each = c.requires.each; rising = all_compared (λ x y. is_lt (place_cmp texts x y)) places to past new }
