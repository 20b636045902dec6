use Rattle.std.proofs.Common.{◌≡◌, ◌≤◌, [], ◌∷◌, ◌++◌, cond, get_or, length, ap, ◌∙◌, arith}
use Rattle.std.proofs.lemmas.List.{length-map}
use Rattle.store_derived.specs.KeptGrams.{kept_grams}
use Rattle.store_pieces.specs.declared.placed.PlacedGram.{PlacedGram}
use Rattle.store_pieces.specs.Pieces.{pairs_of, ends_with_piece}
use Rattle.store_pieces.specs.PlacedPieces.{gram_placed, grams_placed}
use Rattle.store_pieces.proofs.PieceLemmas.{goes_none, goes_on, all_grouped, row_at}
use Rattle.store_pieces.proofs.pieces.group_grams.Goals as goal

pub loop-one-init : goal.loop-one-init
loop-one-init c = goes_none (grams_placed c.args.placed.now) c.args.texts.now c.args.lists.now c.requires.texts c.requires.lists

pub loop-one-preserved : goal.loop-one-preserved
loop-one-preserved c =
    let placed = c.args.placed.now in
    let i = c.loop-one.one-index in
    let d : PlacedGram = record { gram = []; place = 0 } in
    let x : PlacedGram = get_or placed i d in
    let here = row_at gram_placed placed i d c.loop-one-test.true in
    let put = c.in_ok-put.ensures in
    let is : c.as_slice.result.now ≡ x.gram = c.as_slice.ensures in
    goes_on (grams_placed placed) i c.loop-one.texts c.loop-one.lists c.put.new.texts c.put.new.lists (x.gram, x.place) here.0 here.1 c.loop-one.invariant
    (put.pairs ∙ ap (λ g. pairs_of c.loop-one.texts c.loop-one.lists ++ (g, x.place) ∷ []) is)
    (put.texts ∙ ap (λ g. cond (ends_with_piece c.loop-one.texts g) c.loop-one.texts (c.loop-one.texts ++ g ∷ [])) is) put.same

pub returns : goal.returns
returns c = λ keys all.
    let placed = c.args.placed.now in
    let i = c.loop-one.one-index in
    let past : length (grams_placed placed) ≤ i = omega (arith, length-map placed gram_placed, c.loop-one-test.false) in
    all_grouped kept_grams keys c.loop-one.texts c.loop-one.lists (grams_placed placed) i past c.loop-one.invariant all
