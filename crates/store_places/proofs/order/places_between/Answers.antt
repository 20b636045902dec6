use Rattle.std.proofs.Common.{subst, length}
use Rattle.std.specs.List.Sorted.{IsPermutation}
use Rattle.std.proofs.lemmas.List.Sorted.{IsNonDecreasingBy-from_sort}
use Rattle.store_places.specs.Places.{key_at}
use Rattle.store_places.specs.Orders.{is_between}
use Rattle.store_places.proofs.ListLemmas.{in_order}
use Rattle.store_places.proofs.order.places_between.Goals as goal

pub returns : goal.returns
returns c =
    let keys = c.args.texts.now in
    let low = c.args.low.now in
    let high = c.args.high.now in
    let all = c.args.sorted.now in
    let last = c.sort_unstable.new.self.items in
    let run = c.run_between-run.result.now in
    let sorted : IsPermutation run last = subst (λ l. IsPermutation l last) c.in_ok-places.ensures.items c.sort_unstable.ensures.permutation in
    in_order (λ place. is_between low high (key_at keys place)) (length keys) all run last c.requires.each c.run_between-run.ensures sorted (IsNonDecreasingBy-from_sort (λ x. x) last c.sort_unstable.ensures.sorted)
