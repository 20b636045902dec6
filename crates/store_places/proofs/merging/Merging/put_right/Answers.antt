use Rattle.std.proofs.Common.{◌+◌, sym, subst, arith}
use Rattle.std.specs.List.Sorted.{IsPermutation}
use Rattle.store_places.proofs.MergingLemmas.{parts, put_right}
use Rattle.store_places.proofs.merging.Merging.put_right.Goals as goal

pub returns-clause-same : goal.returns-clause-same
returns-clause-same g c =
    let m = c.args.self.now in
    subst (λ l. IsPermutation (parts m.merged.items m.items.items m.left m.left_end m.right) (parts l m.items.items m.left m.left_end (m.right + 1))) (sym c.in_ok-push.ensures.items)
    (put_right m.merged.items m.items.items m.left m.left_end m.right c.index-next.result.now (omega (arith, c.requires.within.right, c.requires.some)) c.index-next.ensures)
