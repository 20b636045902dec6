use Rattle.std.proofs.Common.{◌+◌, ap, arith}
use Rattle.dict_catalogue.specs.Views.{item_shown}
use Rattle.dict_proto.proofs.PutLemmas.{puts_err}
use Rattle.app_words.proofs.LineLemmas.{line_front, line_more}
use Rattle.app_words.proofs.listing.put_list.Goals as goal

pub returns-in_err-put_item : goal.returns-in_err-put_item
returns-in_err-put_item g c =
    puts_err _ _ _ _ c.from_residual.ensures.0
    (line_front item_shown c.args.items.now c.loop-item.item-index c.item-item.result (omega arith) c.item-item.is _ _ _ c.loop-item.invariant.put
    (rw c.loop-item.invariant.place at c.in_err-put_item.ensures))

pub loop-item-preserved : goal.loop-item-preserved
loop-item-preserved g c = record {
  place = ap (λ n. n + 1) c.loop-item.invariant.place;
  put = line_more item_shown c.args.items.now c.loop-item.item-index c.item-item.result (omega arith) c.item-item.is _ _ _ c.loop-item.invariant.put
      (rw c.loop-item.invariant.place at c.in_ok-put_item.ensures);
}
