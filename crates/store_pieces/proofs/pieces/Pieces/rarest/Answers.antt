use Rattle.std.proofs.Common.{◌≡◌, ◌+◌, ◌-◌, ◌≤◌, ◌⊎◌, true, take, drop, length, inl, inr, ap, sym, ◌∙◌, subst, arith}
use Rattle.store_places.specs.Places.{places_where}
use Rattle.store_pieces.specs.Selected.{has_gram}
use Rattle.store_derived.specs.KeptGrams.{is_kept_gram, kept_grams}
use Rattle.store_pieces.specs.Common.{HasAllWith}
use Rattle.store_pieces.proofs.KeptLemmas.{kept_where}
use Rattle.store_pieces.proofs.RarestLemmas.{has_all_with}
use Rattle.store_pieces.proofs.pieces.Pieces.rarest.Goals as goal
use Rattle.store_pieces.proofs.pieces.Pieces.rarest.Goals.{then-is_kept, else-is_kept}

pub loop-end-preserved : goal.loop-end-preserved
loop-end-preserved c = λ keys are.
    let q = c.args.query.now in
    let end = c.loop-end.end in
    let fits : end - 3 + 3 ≤ length q = omega (arith, c.loop-end.auto.end, c.loop-end-test.true) in
    let three : end - (end - 3) ≡ 3 = omega (arith, c.loop-end.auto.end) in
    elim c.if-is_kept.branch [
      | then-is_kept w ↦
          let gram = take (end - (end - 3)) (drop (end - 3) q) in
          let kept : is_kept_gram gram ≡ true = sym c.is_kept.ensures ∙ w.if-is_kept.true in
          let list : w.places.result.now ≡ places_where (has_gram (take 3 (drop (end - 3) q))) keys =
          w.places.ensures kept_grams keys are ∙ kept_where gram keys kept ∙ ap (λ n. places_where (has_gram (take n (drop (end - 3) q))) keys) three in
          elim w.shorter-rarest.ensures [
            | inl one ↦ inr (subst (λ r. HasAllWith q keys r.now) (sym w.rarest-is) (subst (HasAllWith q keys) (sym one) (has_all_with q (end - 3) keys w.places.result.now fits list)))
            | inr other ↦ subst (λ r. (r.now ≡ c.args.places.now) ⊎ HasAllWith q keys r.now) (sym w.rarest-is) (subst (λ l. (l ≡ c.args.places.now) ⊎ HasAllWith q keys l) (sym other) (c.loop-end.invariant keys are))
          ]
      | else-is_kept w ↦ subst (λ r. (r.now ≡ c.args.places.now) ⊎ HasAllWith q keys r.now) (sym w.rarest-is) (c.loop-end.invariant keys are)
    ]
