use Rattle.std.proofs.Common.{subst, arith}
use Rattle.std.specs.List.{AllByRecursion}
use Rattle.std.proofs.lemmas.List.{take_all}
use Rattle.dict_text.proofs.AllLemmas.{all_more}
use Rattle.store_holdings.specs.Indexes.{IsGone}
use Rattle.store_holdings.proofs.NumberLemmas.{OfNumbers, gone_still, same_itself, same_then}
use Rattle.store_holdings.proofs.numbers.let_go_of_gone.Goals as goal

pub loop-item-init : goal.loop-item-init
loop-item-init c = record { same = same_itself c.args.indexes.now c.args.after.now; gone = tt }

pub loop-item-preserved : goal.loop-item-preserved
loop-item-preserved c =
    let new = c.let_go_of_item.new.indexes in
    let after = c.args.after.now in
    record {
      same = same_then c.args.indexes.now c.loop-item.indexes new after c.loop-item.invariant.same c.let_go_of_item.ensures.same;
      gone = all_more (OfNumbers (IsGone after new)) c.args.before.now c.loop-item.item-index c.item-item.result (omega arith) (gone_still after c.loop-item.indexes new c.let_go_of_item.ensures.none _ c.loop-item.invariant.gone)
          (subst (OfNumbers (IsGone after new)) c.item-item.is c.let_go_of_item.ensures.gone);
    }

pub returns-clause-gone : goal.returns-clause-gone
returns-clause-gone c = subst (AllByRecursion (OfNumbers (IsGone c.args.after.now c.loop-item.indexes))) (take_all c.loop-item.item-index c.args.before.now (omega arith)) c.loop-item.invariant.gone
