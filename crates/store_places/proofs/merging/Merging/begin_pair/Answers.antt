use Rattle.std.proofs.Common.{arith}
use Rattle.store_places.proofs.MergingLemmas.{pair_begins}
use Rattle.store_places.proofs.merging.Merging.begin_pair.Goals as goal

pub returns-clause-same : goal.returns-clause-same
returns-clause-same g c =
    let m = c.args.self.now in
    pair_begins m.merged.items m.items.items m.left m.left_end m.right _ c.requires.none (omega arith)
