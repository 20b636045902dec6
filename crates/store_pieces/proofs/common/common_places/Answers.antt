use Rattle.std.proofs.Common.{filter, nat_eq, ℕ, true, false, Vec, Global, append-nil, get_or, refl, ap, sym, ◌∙◌, subst}
use Rattle.std.specs.List.{list_any}
use Rattle.std.specs.List.Sorted.{IsStrictlyIncreasing}
use Rattle.std.proofs.lemmas.List.{take_all}
use Rattle.store_pieces.proofs.PieceLemmas.{in_common, where_rises, among}
use Rattle.store_pieces.proofs.CommonLemmas.{none_gone, one_gone}
use Rattle.store_pieces.proofs.common.common_places.Goals as goal
use Rattle.store_pieces.proofs.common.common_places.Goals.{then-begins_with+in_ok-push, else-begins_with}

pub loop-place-init : goal.loop-place-init
loop-place-init c = λ up more_up. none_gone c.args.fewer.now c.args.more.now c.args.more.now c.in_ok-both.both.items more_up refl c.in_ok-both.ensures.items

pub loop-place-preserved : goal.loop-place-preserved
loop-place-preserved c = λ up more_up.
    let more = c.args.more.now in
    let fewer = c.args.fewer.now in
    let i = c.loop-place.place-index in
    let x = get_or fewer i 0 in
    let old = c.loop-place.invariant up more_up in
    let rest = c.from_place-rest.ensures old.rises in
    elim c.if-begins_with.branch [
      | then-begins_with+in_ok-push w ↦ one_gone fewer more i x c.loop-place.rest.now c.from_place-rest.result.now c.loop-place.both.items c.if-begins_with.both.items true up old c.loop-place-test.true refl rest
          (sym w.if-begins_with.true ∙ c.begins_with.ensures) (ap (λ (v : Vec ℕ Global). v.items) w.both-is ∙ w.in_ok-push.ensures.items)
      | else-begins_with w ↦ one_gone fewer more i x c.loop-place.rest.now c.from_place-rest.result.now c.loop-place.both.items c.if-begins_with.both.items false up old c.loop-place-test.true refl rest
          (sym w.if-begins_with.false ∙ c.begins_with.ensures) (ap (λ (v : Vec ℕ Global). v.items) w.both-is ∙ sym (append-nil c.loop-place.both.items))
    ]

pub returns : goal.returns
returns c = λ p q keys one other.
    let fewer = c.args.fewer.now in
    let more = c.args.more.now in
    let up : IsStrictlyIncreasing fewer = subst IsStrictlyIncreasing (sym one) (where_rises p keys) in
    let more_up : IsStrictlyIncreasing more = subst IsStrictlyIncreasing (sym other) (where_rises q keys) in
    (c.loop-place.invariant up more_up).both_are
    ∙ ap (filter (λ place. list_any (nat_eq place) more)) (take_all c.loop-place.place-index fewer c.loop-place-test.false ∙ one)
    ∙ in_common p q keys (λ place. list_any (nat_eq place) more) (λ z. among more q keys z other)
