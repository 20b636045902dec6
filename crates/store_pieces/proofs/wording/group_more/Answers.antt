use Rattle.std.proofs.Common.{◌≡◌, ◌<◌, ◌≤◌, ℕ, [], ◌∷◌, ◌++◌, cond, get_or, length, map, ap, sym, subst, ◌∙◌, arith}
use Rattle.std.proofs.lemmas.List.{get_or-map, length-map}
use Rattle.dict_match.specs.Words.{words_between_blanks}
use Rattle.store_pieces.specs.Grouped.{GoesOnGrouping}
use Rattle.store_pieces.specs.Pieces.{pairs_of, ends_with_piece}
use Rattle.store_pieces.specs.Wording.{word_with_place, words_with_places}
use Rattle.store_pieces.proofs.PieceLemmas.{goes_on, all_grouped}
use Rattle.store_pieces.proofs.wording.group_more.Goals as goal

pub loop-k-init : goal.loop-k-init
loop-k-init c = c.requires.first

pub loop-k-preserved : goal.loop-k-preserved
loop-k-preserved c =
    let grouped = c.args.grouped in
    let row = word_with_place grouped.found grouped.places.items in
    let order = grouped.order.items in
    let k = c.loop-k.k in
    let x : ℕ = c.index-one.result.now in
    let texts = c.loop-k.texts in
    let within : k < length order = omega arith in
    let here : x ≡ get_or order k x = c.index-one.ensures in
    let put = c.in_ok-put.ensures in
    let word : c.get.result.now ≡ get_or grouped.found x [] = c.get.ensures in
    let place : c.place_at-place.result ≡ get_or grouped.places.items x 0 = c.place_at-place.ensures ∙ ap (λ l. get_or l x 0) c.as_slice.ensures.value in
    goes_on (map row order) k texts c.loop-k.lists c.put.new.texts c.put.new.lists (row x) (omega (arith, within, length-map order row))
    (ap row here ∙ sym (get_or-map row order k x (row x) within)) c.loop-k.invariant
    (put.pairs ∙ ap (λ w. pairs_of texts c.loop-k.lists ++ (w, c.place_at-place.result) ∷ []) word ∙ ap (λ p. pairs_of texts c.loop-k.lists ++ (get_or grouped.found x [], p) ∷ []) place)
    (put.texts ∙ ap (λ w. cond (ends_with_piece texts w) texts (texts ++ w ∷ [])) word) put.same

pub returns-then-at-len : goal.returns-then-at-len
returns-then-at-len c =
    let grouped = c.args.grouped in
    let rows = words_with_places grouped.found grouped.places.items grouped.order.items in
    let past : length rows ≤ grouped.at = omega (arith, length-map grouped.order.items (word_with_place grouped.found grouped.places.items), c.if-at-len.true) in
    c.in_ok-pieces_of.ensures words_between_blanks c.args.keys.now (all_grouped words_between_blanks c.args.keys.now grouped.texts grouped.lists rows grouped.at past c.requires.first c.requires.all)

pub returns : goal.returns
returns c =
    let grouped = c.args.grouped in
    let same : c.loop-k.k ≡ c.min-to.result = omega arith in
    record {
      all = c.requires.all;
      first = subst (λ n. GoesOnGrouping (words_with_places grouped.found grouped.places.items grouped.order.items) n c.loop-k.texts c.loop-k.lists) same c.loop-k.invariant;
    }
