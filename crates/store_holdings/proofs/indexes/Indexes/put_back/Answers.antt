use Rattle.std.proofs.Common.{List, sym, subst}
use Rattle.store_search.specs.Entries.{Indexed}
use Rattle.store_holdings.specs.Indexes.{IsOut}
use Rattle.store_holdings.proofs.indexes.Indexes.put_back.Goals as goal

pub returns : goal.returns
returns c before out = c.put_slot.ensures before (subst (λ (index : List Indexed). IsOut c.args.number index before c.args.self.now) (sym c.made-slot.ensures) out)
