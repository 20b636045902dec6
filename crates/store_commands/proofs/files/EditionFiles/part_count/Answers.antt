use Rattle.std.proofs.Common.{◌+◌, pos, sym, ◌∙◌}
use Rattle.store_holdings.proofs.FilePlaceLemmas.{both_length}
use Rattle.store_commands.proofs.files.EditionFiles.part_count.Goals as goal

pub returns : goal.returns
returns c =
    let files = c.args.self.now in
    (λ i. c.part_count.ensures.count i + c.part_count-2.ensures.count i) ∙ sym (both_length (pos files.number) files.index.now files.text.now)
