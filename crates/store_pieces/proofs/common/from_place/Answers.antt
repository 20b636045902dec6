use Rattle.std.proofs.Common.{◌≡◌, ◌≤◌, true, false, take, length, sym, ◌∙◌, subst, arith, rules}
use Rattle.std.proofs.lemmas.List.{length-take-le}
use Rattle.std.proofs.lemmas.List.Sorted.{IsPartitionPoint-from_clause}
use Rattle.std.specs.List.Sorted.{IsPartitionedBy, IsPartitionPoint}
use Rattle.store_pieces.specs.Common.{is_below}
use Rattle.store_places.proofs.PlaceLemmas.{parted_near, near_point}
use Rattle.store_pieces.proofs.CommonLemmas.{below_first, from_is}
use Rattle.store_pieces.proofs.common.from_place.Goals as goal

pub returns : goal.returns
returns c = λ up.
    let xs = c.args.places.now in
    let place = c.args.place in
    let below = is_below place in
    let count = c.partition_point-below.result in
    let near = c.reach.result in
    let within : near ≤ length xs = c.reach.ensures.bound in
    let some : c.split_at.result.0.now ≡ take near xs = c.split_at.ensures.front in
    let parted = below_first xs place up in
    let all = subst (IsPartitionedBy below) (sym some) (parted_near below xs near within parted) in
    let point = IsPartitionPoint-from_clause below _ _ c.partition_point-below.ensures.partitioned all (λ a r q k. search rules) in
    let there = subst (λ l. IsPartitionPoint (λ y. below y ≡ true) (λ y. below y ≡ false) l count) some point in
    let size : length (take near xs) ≡ near = length-take-le near xs within in
    let few : count ≤ near = omega (arith, subst (λ l. count ≤ length l) some c.partition_point-below.ensures.bound, size) in
    let second = near_point below xs parted near count c.reach.ensures.past within few there in
    c.split_at-2.ensures.back ∙ from_is xs place count (omega (arith, few, within)) second
