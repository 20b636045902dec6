use Rattle.std.proofs.Common.{◌∙◌}
use Rattle.store_holdings.proofs.FilePlaceLemmas.{part_count_is}
use Rattle.store_commands.proofs.files.part_count.Goals as goal

pub returns-clause-count : goal.returns-clause-count
returns-clause-count c = c.div_ceil.ensures ∙ part_count_is c.args.octets.now
