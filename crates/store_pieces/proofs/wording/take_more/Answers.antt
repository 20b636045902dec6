use Rattle.std.proofs.Common.{◌≡◌, ◌++◌, ◌<◌, map, length, take, ap, sym, ◌∙◌, arith}
use Rattle.std.proofs.lemmas.List.{take_all}
use Rattle.dict_match.specs.Words.{words_between_blanks}
use Rattle.store_pieces.specs.Pieces.{placed_at, occurrences_from}
use Rattle.store_pieces.proofs.PlacedLemmas.{next_key}
use Rattle.store_pieces.proofs.wording.take_more.Goals as goal

pub begin_sorting-requires : goal.begin_sorting-requires
begin_sorting-requires c = record {
  count = c.requires.count;
  same = c.requires.taken.same;
  all = c.requires.taken.are ∙ ap (occurrences_from words_between_blanks 0) (take_all c.args.taken.place c.args.keys.now (omega (arith, c.if-place-count.true, c.requires.count)));
}

pub loop-at-init : goal.loop-at-init
loop-at-init c = record { same = c.requires.taken.same; are = c.requires.taken.are }

pub loop-at-preserved : goal.loop-at-preserved
loop-at-preserved c =
    let keys = c.args.keys.now in
    let at = c.loop-at.at in
    let within : at < length keys = omega (arith, c.loop-at-test.true, c.requires.count) in
    record {
      same = c.in_ok-put_words.ensures.same;
      are = c.in_ok-put_words.ensures.put
          ∙ ap (λ l. l ++ map (placed_at at) (words_between_blanks c.get.result.now)) c.loop-at.invariant.are
          ∙ sym (next_key words_between_blanks keys at c.get.result.now within c.get.ensures);
    }

pub returns : goal.returns
returns c =
    let same : c.loop-at.at ≡ c.min-to.result = omega arith in
    record {
      same = c.loop-at.invariant.same;
      are = c.loop-at.invariant.are ∙ ap (λ n. occurrences_from words_between_blanks 0 (take n c.args.keys.now)) same;
    }
