use Rattle.std.proofs.Common.{◌++◌, ◌<◌, ◌≤◌, map, length, ap, sym, ◌∙◌, arith}
use Rattle.std.proofs.lemmas.List.{take_all}
use Rattle.std.proofs.lemmas.List.Filters.{dedup_is}
use Rattle.dict_match.specs.Words.{words_between_blanks}
use Rattle.store_pieces.specs.Pieces.{placed_at, occurrences_from}
use Rattle.store_pieces.proofs.PlacedLemmas.{next_key, placed_words, pieces_tie}
use Rattle.store_pieces.proofs.placed.sorted_words.Goals as goal

pub loop-place-preserved : goal.loop-place-preserved
loop-place-preserved c =
    let keys = c.args.keys.now in
    let place = c.loop-place.place in
    let within : place < length keys = omega (arith, c.loop-place-test.true, c.requires) in
    c.in_ok-add_words.ensures
    ∙ ap (λ l. l ++ map (placed_at place) (words_between_blanks c.get.result.now)) c.loop-place.invariant
    ∙ sym (next_key words_between_blanks keys place c.get.result.now within c.get.ensures)

pub returns : goal.returns
returns c =
    let keys = c.args.keys.now in
    let place = c.loop-place.place in
    let past : length keys ≤ place = omega (arith, c.loop-place-test.false, c.requires) in
    placed_words words_between_blanks keys c.loop-place.list.items c.sort_unstable.new.self.items c.dedup.new.self.items _ (λ x y. pieces_tie x.word.now y.word.now x.place y.place)
    (c.loop-place.invariant ∙ ap (occurrences_from words_between_blanks 0) (take_all place keys past)) c.sort_unstable.ensures.permutation c.sort_unstable.ensures.sorted (dedup_is _ _ _ c.dedup.ensures.filtered)
