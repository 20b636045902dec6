use Rattle.std.proofs.Common.{subst, arith}
use Rattle.std.specs.List.{AllByRecursion}
use Rattle.std.proofs.lemmas.List.{take_all}
use Rattle.dict_text.proofs.AllLemmas.{all_more}
use Rattle.store_commands.proofs.TakingLemmas.{HasNotNumber}
use Rattle.store_commands.proofs.orphans.has_number.Goals as goal

pub loop-item-preserved : goal.loop-item-preserved
loop-item-preserved c =
    all_more (HasNotNumber c.args.number) c.args.items.now c.loop-item.item-index c.item-item.result (omega arith) c.loop-item.invariant
    (subst (HasNotNumber c.args.number) c.item-item.is (c.item_has.ensures c.if-item_has.false))

pub returns : goal.returns
returns c = λ none. subst (AllByRecursion (HasNotNumber c.args.number)) (take_all c.loop-item.item-index c.args.items.now (omega arith)) c.loop-item.invariant
