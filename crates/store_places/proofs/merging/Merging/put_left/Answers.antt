use Rattle.std.proofs.Common.{◌+◌, ap, ◌∙◌, arith}
use Rattle.store_places.proofs.MergingLemmas.{parts, as_it_was, put_left}
use Rattle.store_places.proofs.merging.Merging.put_left.Goals as goal

pub returns-clause-same : goal.returns-clause-same
returns-clause-same g c =
    let m = c.args.self.now in
    as_it_was _ _ (ap (λ l. parts l m.items.items (m.left + 1) m.left_end m.right) c.in_ok-push.ensures.items
    ∙ put_left m.merged.items m.items.items m.left m.left_end m.right c.index-next.result.now (omega (arith, c.requires.within.left, c.requires.some)) c.requires.some c.index-next.ensures)
