use Rattle.std.proofs.Common.{length, ap, sym, ◌∙◌, subst}
use Rattle.std.specs.List.{zip}
use Rattle.dict_match.specs.Words.{words_between_blanks}
use Rattle.store_pieces.specs.Pieces.{AreOccurrences}
use Rattle.store_pieces.specs.Wording.{words_with_places}
use Rattle.store_pieces.proofs.PieceLemmas.{goes_none}
use Rattle.store_pieces.proofs.wording.begin_grouping.Goals as goal

pub each_once-order-requires : goal.each_once-order-requires
each_once-order-requires c =
    let value = c.as_slice.ensures.value in
    record {
      same = c.requires.same ∙ ap length (sym value);
      all = ap (zip c.args.found) value ∙ c.requires.all;
      order = c.requires.order;
    }

pub returns : goal.returns
returns c = record {
  all = subst (λ l. AreOccurrences words_between_blanks c.args.keys.now (words_with_places c.args.found l c.each_once-order.result.items)) c.as_slice.ensures.value c.each_once-order.ensures;
  first = goes_none _ _ _ c.new.ensures c.in_ok-lists.ensures;
}
