use Rattle.std.proofs.Common.{◌≡◌, ℕ, ◌+◌, ◌-◌, ◌<◌, ◌≤◌, true, false, drop, take, length, get_or, ap, sym, ◌∙◌, subst, arith, rules}
use Rattle.std.proofs.lemmas.List.{get_or-take, length-drop, length-take-le}
use Rattle.std.proofs.lemmas.List.Sorted.{IsPartitionPoint-from_clause}
use Rattle.std.specs.List.Sorted.{IsPartitionedBy, IsPartitionPoint}
use Rattle.store_places.proofs.PlaceLemmas.{before, parted_before, parted_near, parted_far, near_point, far_point}
use Rattle.store_places.proofs.heads.count_before.Goals as goal

pub returns-then-not-is_within-clause-point : goal.returns-then-not-is_within-clause-point
returns-then-not-is_within-clause-point c =
    let keys = c.args.texts.now in
    let low = c.args.low.now in
    IsPartitionPoint-from_clause (before keys low) _ _ c.partition_point.ensures.partitioned (parted_before keys c.args.sorted.now low c.requires.rising) (λ a r q k. search rules)

pub returns-clause-point : goal.returns-clause-point
returns-clause-point c =
    let p = before c.args.texts.now c.args.low.now in
    let xs = c.args.sorted.now in
    let first = c.likely_run-first.result.0 in
    let last = c.likely_run-first.result.1 in
    let count = c.partition_point-2.result in
    let is = c.if-not-is_within.false in
    let parted = parted_before c.args.texts.now xs c.args.low.now c.requires.rising in
    let within : last ≤ length xs = c.is_within.ensures.bound is in
    let near : c.split_at.result.0.now ≡ take last xs = c.split_at.ensures.front in
    let rest : c.split_at-2.result.1.now ≡ drop first (take last xs) = c.split_at-2.ensures.back ∙ ap (drop first) near in
    let size : length (take last xs) ≡ last = length-take-le last xs within in
    let front_part = parted_near p xs last within parted in
    let all = subst (IsPartitionedBy p) (sym rest) (parted_far p (take last xs) first front_part) in
    let point = IsPartitionPoint-from_clause p _ _ c.partition_point-2.ensures.partitioned all (λ a r q k. search rules) in
    let there = subst (λ l. IsPartitionPoint (λ y. p y ≡ true) (λ y. p y ≡ false) l count) rest point in
    let sizes = length-drop first (take last xs) in
    let few : first + count ≤ last = omega (arith, subst (λ l. count ≤ length l) rest c.partition_point-2.ensures.bound, sizes, size, c.likely_run-first.ensures) in
    let front : (d : ℕ) → 0 < first → p (get_or (take last xs) (first - 1) d) ≡ true = λ d lt.
    subst (λ x. p x ≡ true) (sym (get_or-take last xs (first - 1) d (omega (arith, lt, c.likely_run-first.ensures)))) (c.is_within.ensures.front is d lt) in
    let inside : first ≤ length (take last xs) = omega (arith, size, c.likely_run-first.ensures) in
    near_point p xs parted last (first + count) (λ d lt. c.is_within.ensures.behind is d lt) within few (far_point p (take last xs) first count front_part front inside there)
