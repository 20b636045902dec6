use Rattle.std.proofs.Common.{◌≡◌, ℕ, map, reverse, ◌<◌, ◌≤◌, true, false, drop, take, length, get_or, ap, sym, ◌∙◌, subst, arith, rules}
use Rattle.std.proofs.lemmas.List.{length-take-le, take-take}
use Rattle.std.proofs.lemmas.List.Sorted.{IsPartitionPoint-from_clause}
use Rattle.std.specs.List.Sorted.{IsPartitionedBy, IsPartitionPoint}
use Rattle.store_places.proofs.PlaceLemmas.{before, up_to, parted_before, parted_up_to, parted_near, near_point, run_is}
use Rattle.store_places.proofs.reversed.run_between_reversed.Goals as goal

pub returns : goal.returns
returns c =
    let keys = map reverse c.args.texts.now in
    let xs = c.args.sorted.now in
    let low = c.args.low.now in
    let high = c.args.high.now in
    let from = c.partition_point-from.result in
    let count = c.partition_point-count.result in
    let near = c.reach_reversed.result in
    let first = IsPartitionPoint-from_clause (before keys low) _ _ c.partition_point-from.ensures.partitioned (parted_before keys xs low c.requires.rising) (λ a r q k. search rules) in
    let rest : c.split_at.result.1.now ≡ drop from xs = c.split_at.ensures.back in
    let within : near ≤ length (drop from xs) = subst (λ l. near ≤ length l) rest c.reach_reversed.ensures.bound in
    let some : c.split_at-2.result.0.now ≡ take near (drop from xs) = c.split_at-2.ensures.front ∙ ap (take near) rest in
    let parted = parted_up_to keys xs from high c.requires.rising in
    let all = subst (IsPartitionedBy (up_to keys high)) (sym some) (parted_near (up_to keys high) (drop from xs) near within parted) in
    let point = IsPartitionPoint-from_clause (up_to keys high) _ _ c.partition_point-count.ensures.partitioned all (λ a r q k. search rules) in
    let there = subst (λ l. IsPartitionPoint (λ y. up_to keys high y ≡ true) (λ y. up_to keys high y ≡ false) l count) some point in
    let size : length (take near (drop from xs)) ≡ near = length-take-le near (drop from xs) within in
    let few : count ≤ near = omega (arith, subst (λ l. count ≤ length l) some c.partition_point-count.ensures.bound, size) in
    let past : (d : ℕ) → near < length (drop from xs) → up_to keys high (get_or (drop from xs) near d) ≡ false = λ d lt.
    subst (λ l. up_to keys high (get_or l near d) ≡ false) rest (c.reach_reversed.ensures.past d (subst (λ l. near < length l) (sym rest) lt)) in
    let second = near_point (up_to keys high) (drop from xs) parted near count past within few there in
    let run : c.split_at-3.result.0.now ≡ take count (drop from xs) = c.split_at-3.ensures.front ∙ ap (take count) some ∙ take-take count near (drop from xs) few in
    run ∙ run_is keys xs low high from count c.partition_point-from.ensures.bound (omega (arith, few, within)) first second
