use Rattle.std.proofs.Common.{◌+◌, sym, ◌∙◌}
use Rattle.store_holdings.proofs.FilePlaceLemmas.{both_length}
use Rattle.store_migration.proofs.files.EditionFiles.part_count.Goals as goal

pub returns : goal.returns
returns c =
    let files = c.args.self.now in
    (λ i. c.part_count.ensures.count i + c.part_count-2.ensures.count i) ∙ sym (both_length files.number files.index.now files.text.now)
