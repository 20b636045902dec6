use Rattle.store_commands.proofs.DecideLemmas.{summary_in_range}
use Rattle.store_commands.proofs.laws.summaries_in_range.Goals as goal

pub returns : goal.returns
returns c = summary_in_range
