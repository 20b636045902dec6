use Rattle.std.proofs.Common.{sym, subst}
use Rattle.store_holdings.specs.Indexes.{IsOut}
use Rattle.store_holdings.proofs.UnderLemmas.{put_ends}
use Rattle.store_holdings.proofs.indexes.Indexes.put_slot.Goals as goal

pub returns : goal.returns
returns c before out =
    put_ends c.insert.result c.self.inside.by_number.entries c.insert.new.self.entries c.args.number c.args.slot before c.insert.ensures.entries c.insert.ensures.absent
    (subst (IsOut c.args.number c.args.slot before) (sym c.self.view_is) out)
