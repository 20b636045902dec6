use Rattle.std.proofs.Common.{◌≡◌, ◌++◌, ◌<◌, ◌≤◌, map, length, ap, sym, ◌∙◌, arith, rules}
use Rattle.std.specs.declared.cmp.Ordering.{Ordering}
use Rattle.std.specs.Ordering.{is_lt}
use Rattle.std.proofs.lemmas.Fn.{always_returns_same}
use Rattle.std.proofs.lemmas.List.Sorted.{ranks_by}
use Rattle.std.proofs.lemmas.List.{take_all}
use Rattle.std.proofs.lemmas.List.Filters.{dedup_is}
use Rattle.store_derived.specs.KeptGrams.{kept_grams}
use Rattle.store_pieces.specs.Pieces.{placed_at, occurrences_from}
use Rattle.store_pieces.specs.PlacedPieces.{gram_cmp}
use Rattle.store_pieces.proofs.PlacedLemmas.{next_key, gram_total, placed_grams, pieces_tie}
use Rattle.store_pieces.proofs.placed.sorted_grams.Goals as goal

pub loop-place-preserved : goal.loop-place-preserved
loop-place-preserved c =
    let keys = c.args.keys.now in
    let place = c.loop-place.place in
    let within : place < length keys = omega (arith, c.loop-place-test.true, c.requires) in
    c.in_ok-add_grams.ensures
    ∙ ap (λ l. l ++ map (placed_at place) (kept_grams c.get.result.now)) c.loop-place.invariant
    ∙ sym (next_key kept_grams keys place c.get.result.now within c.get.ensures)

by_cmp : {F : Type 0} (r o : Ordering) (f g : F) → (r ≡ o) × (f ≡ g) → (is_lt r ≡ is_lt o) × (f ≡ g)
by_cmp r o f g h = (ap is_lt h.0, h.1)

pub returns : goal.returns
returns c =
    let keys = c.args.keys.now in
    let place = c.loop-place.place in
    let past : length keys ≤ place = omega (arith, c.loop-place-test.false, c.requires) in
    let sorted = c.sort_unstable_by.ensures.sorted (λ x y. is_lt (gram_cmp x y)) (ranks_by gram_total (λ x. x)) (always_returns_same _ _ _ (λ a r f called. by_cmp r (gram_cmp a.0.now a.1.0.now) f _ (search rules))) in
    placed_grams kept_grams keys c.loop-place.runs.items c.sort_unstable_by.new.self.items c.dedup.new.self.items _ (λ x y. pieces_tie x.gram y.gram x.place y.place)
    (c.loop-place.invariant ∙ ap (occurrences_from kept_grams 0) (take_all place keys past)) c.sort_unstable_by.ensures.permutation sorted (dedup_is _ _ _ c.dedup.ensures.filtered)
