use Rattle.std.proofs.Common.{◌≡◌, ◌+◌, ◌-◌, ◌<◌, [], ◌∷◌, ◌++◌, Vec, Global, true, false, map, drop, length, get_or, refl, ap, sym, ◌∙◌, arith}
use Rattle.store_pieces.specs.Pieces.{placed_at}
use Rattle.store_pieces.specs.PlacedPieces.{gram_placed, grams_placed}
use Rattle.store_derived.specs.KeptGrams.{is_kept_gram, kept_grams}
use Rattle.store_pieces.specs.declared.placed.PlacedGram.{PlacedGram}
use Rattle.store_pieces.proofs.KeptLemmas.{kept_next, left_out_next, no_more_kept}
use Rattle.store_pieces.proofs.PlacedLemmas.{put_more, none_left}
use Rattle.store_pieces.proofs.placed.add_grams.Goals as goal
use Rattle.store_pieces.proofs.placed.add_grams.Goals.{then-is_kept+in_ok-push, else-is_kept}

pub loop-end-preserved : goal.loop-end-preserved
loop-end-preserved c =
    let key = c.args.key.now in
    let end = c.loop-end.end in
    let place = c.args.place in
    let gram = get_or key (end - 3) 0 ∷ get_or key (end - 2) 0 ∷ get_or key (end - 1) 0 ∷ [] in
    let old = c.loop-end.list.items in
    let rest = kept_grams (drop (end + 1 - 3) key) in
    elim c.if-is_kept.branch [
      | then-is_kept+in_ok-push w ↦
          let kept : is_kept_gram gram ≡ true = ap is_kept_gram (sym c.as_slice.ensures) ∙ sym c.is_kept.ensures ∙ w.if-is_kept.true in
          put_more gram_placed (placed_at place) old c.if-is_kept.list.items _ _ (kept_grams (drop (end - 3) key)) rest _
          (ap (λ (v : Vec PlacedGram Global). v.items) w.list-is ∙ w.in_ok-push.ensures.items) refl (kept_next key end c.loop-end.auto.end c.loop-end-test.true kept) c.loop-end.invariant
      | else-is_kept w ↦
          let out : is_kept_gram gram ≡ false = ap is_kept_gram (sym c.as_slice.ensures) ∙ sym c.is_kept.ensures ∙ w.if-is_kept.false in
          ap (λ (v : Vec PlacedGram Global). grams_placed v.items ++ map (placed_at place) rest) w.list-is
          ∙ ap (λ l. grams_placed old ++ map (placed_at place) l) (sym (left_out_next key end c.loop-end.auto.end c.loop-end-test.true out))
          ∙ c.loop-end.invariant
    ]

pub returns : goal.returns
returns c =
    let key = c.args.key.now in
    let end = c.loop-end.end in
    let past : length key < end - 3 + 3 = omega (arith, c.loop-end-test.false, c.loop-end.auto.end) in
    none_left gram_placed (placed_at c.args.place) c.loop-end.list.items (kept_grams (drop (end - 3) key)) _ (no_more_kept key (end - 3) past) c.loop-end.invariant
