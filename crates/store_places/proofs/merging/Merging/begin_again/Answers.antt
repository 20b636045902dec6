use Rattle.std.proofs.Common.{[], Vec, Global, ap, ◌∙◌}
use Rattle.store_places.proofs.MergingLemmas.{parts, all_again}
use Rattle.store_places.proofs.merging.Merging.begin_again.Goals as goal

pub returns-clause-same : goal.returns-clause-same
returns-clause-same g c =
    let m = c.args.self.now in
    ap (λ l. parts l c.swap.new.x.items 0 0 0) c.clear.ensures.items
    ∙ ap (λ (v : Vec _ Global). parts [] v.items 0 0 0) c.swap.ensures.x_after
    ∙ all_again m.merged.items m.items.items m.left m.left_end m.right c.requires.none c.requires.all
