use Rattle.std.proofs.Common.{◌≤◌, [], get_or, length, arith}
use Rattle.std.proofs.lemmas.List.{length-map}
use Rattle.dict_match.specs.Words.{words_between_blanks}
use Rattle.store_pieces.specs.declared.placed.PlacedWord.{PlacedWord}
use Rattle.store_pieces.specs.PlacedPieces.{word_placed, words_placed}
use Rattle.store_pieces.proofs.PieceLemmas.{goes_none, goes_on, all_grouped, row_at}
use Rattle.store_pieces.proofs.pieces.group_words.Goals as goal

pub loop-one-init : goal.loop-one-init
loop-one-init c = goes_none (words_placed c.args.placed.now) c.args.texts.now c.args.lists.now c.requires.texts c.requires.lists

pub loop-one-preserved : goal.loop-one-preserved
loop-one-preserved c =
    let placed = c.args.placed.now in
    let i = c.loop-one.one-index in
    let d : PlacedWord = record { word = record { ref_ptr = (0, 0); now = [] }; place = 0 } in
    let x : PlacedWord = get_or placed i d in
    let here = row_at word_placed placed i d c.loop-one-test.true in
    let put = c.in_ok-put.ensures in
    goes_on (words_placed placed) i c.loop-one.texts c.loop-one.lists c.put.new.texts c.put.new.lists (x.word.now, x.place) here.0 here.1 c.loop-one.invariant put.pairs put.texts put.same

pub returns : goal.returns
returns c = λ keys all.
    let placed = c.args.placed.now in
    let i = c.loop-one.one-index in
    let past : length (words_placed placed) ≤ i = omega (arith, length-map placed word_placed, c.loop-one-test.false) in
    all_grouped words_between_blanks keys c.loop-one.texts c.loop-one.lists (words_placed placed) i past c.loop-one.invariant all
