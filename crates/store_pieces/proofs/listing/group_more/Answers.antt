use Rattle.std.proofs.Common.{◌≡◌, ◌<◌, ◌≤◌, [], ◌∷◌, ◌++◌, cond, get_or, length, ap, sym, subst, ◌∙◌, arith}
use Rattle.std.proofs.lemmas.List.{get_or-map, length-map}
use Rattle.store_derived.specs.KeptGrams.{kept_grams}
use Rattle.store_pieces.specs.declared.placed.PlacedGram.{PlacedGram}
use Rattle.store_pieces.specs.Grouped.{GoesOnGrouping}
use Rattle.store_pieces.specs.Pieces.{pairs_of, ends_with_piece}
use Rattle.store_pieces.specs.PlacedPieces.{gram_placed, grams_placed}
use Rattle.store_pieces.proofs.PieceLemmas.{goes_on, all_grouped}
use Rattle.store_pieces.proofs.listing.group_more.Goals as goal

pub loop-k-init : goal.loop-k-init
loop-k-init c = c.requires.first

pub loop-k-preserved : goal.loop-k-preserved
loop-k-preserved c =
    let placed = c.args.grouped.placed.items in
    let k = c.loop-k.k in
    let x : PlacedGram = c.index.result.now in
    let within : k < length placed = omega arith in
    let here : x ≡ get_or placed k x = c.index.ensures in
    let put = c.in_ok-put.ensures in
    let is : c.as_slice.result.now ≡ x.gram = c.as_slice.ensures in
    goes_on (grams_placed placed) k c.loop-k.texts c.loop-k.lists c.put.new.texts c.put.new.lists (gram_placed x) (omega (arith, within, length-map placed gram_placed))
    (ap gram_placed here ∙ sym (get_or-map gram_placed placed k x (gram_placed x) within)) c.loop-k.invariant
    (put.pairs ∙ ap (λ g. pairs_of c.loop-k.texts c.loop-k.lists ++ (g, x.place) ∷ []) is)
    (put.texts ∙ ap (λ g. cond (ends_with_piece c.loop-k.texts g) c.loop-k.texts (c.loop-k.texts ++ g ∷ [])) is) put.same

pub returns-then-at-len : goal.returns-then-at-len
returns-then-at-len c =
    let grouped = c.args.grouped in
    let placed = grouped.placed.items in
    let past : length (grams_placed placed) ≤ grouped.at = omega (arith, length-map placed gram_placed, c.if-at-len.true) in
    c.in_ok-pieces_of.ensures kept_grams c.args.keys.now (all_grouped kept_grams c.args.keys.now grouped.texts grouped.lists (grams_placed placed) grouped.at past c.requires.first c.requires.all)

pub returns : goal.returns
returns c =
    let placed = c.args.grouped.placed.items in
    let same : c.loop-k.k ≡ c.min-to.result = omega arith in
    record {
      all = c.requires.all;
      first = subst (λ n. GoesOnGrouping (grams_placed placed) n c.loop-k.texts c.loop-k.lists) same c.loop-k.invariant;
    }
