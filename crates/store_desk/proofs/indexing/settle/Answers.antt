use Rattle.std.proofs.Common.{List, subst}
use Rattle.std.specs.List.{AllByRecursion}
use Rattle.dict_catalogue.specs.declared.summary.Item.{Item}
use Rattle.store_holdings.specs.Indexes.{IsGone}
use Rattle.store_holdings.proofs.NumberLemmas.{OfNumbers, Same}
use Rattle.store_desk.proofs.StandingLemmas.{gone_done, settled_done}
use Rattle.store_desk.proofs.indexing.settle.Goals as goal

pub returns-in-Ok-Done-clause-settled : goal.returns-in-Ok-Done-clause-settled
returns-in-Ok-Done-clause-settled c =
    rw c.in-Ok-Done.is (settled_done c.args.number c.in-Ok-Done.field-0 _ _ c.args.indexes.now c.let_go_of_gone.new.indexes (rw c.in-Ok-Done.is at c.in-Ok-Done.field-0-is)
    (subst (AllByRecursion (OfNumbers (Same c.args.indexes.now c.let_go_of_gone.new.indexes))) c.deref.ensures.value c.let_go_of_gone.ensures.same))

pub returns-in-Ok-Done-clause-gone : goal.returns-in-Ok-Done-clause-gone
returns-in-Ok-Done-clause-gone c =
    rw c.in-Ok-Done.is (gone_done c.args.before.now c.args.number c.in-Ok-Done.field-0 _ _ c.let_go_of_gone.new.indexes (rw c.in-Ok-Done.is at c.in-Ok-Done.field-0-is)
    (subst (λ (items : List Item). AllByRecursion (OfNumbers (IsGone items c.let_go_of_gone.new.indexes)) c.args.before.now) c.deref.ensures.value c.let_go_of_gone.ensures.gone))
