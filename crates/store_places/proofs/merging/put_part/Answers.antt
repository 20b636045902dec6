use Rattle.std.proofs.Common.{◌++◌, ap, sym, ◌∙◌, append-nil}
use Rattle.store_places.proofs.MergingLemmas.{none_left, on_ok}
use Rattle.store_places.proofs.merging.put_part.Goals as goal

pub returns-then-from-to : goal.returns-then-from-to
returns-then-from-to g c = sym (ap (λ l. c.args.merged.now.items ++ l) (none_left c.args.items.now c.args.from c.args.to c.if-from-to.true) ∙ append-nil c.args.merged.now.items)

pub returns : goal.returns
returns g c = on_ok c.extend_from_slice.result _ _ _ c.extend_from_slice.ensures.items
