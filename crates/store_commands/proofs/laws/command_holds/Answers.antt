use Rattle.store_commands.proofs.ApplyLemmas.{command_applied}
use Rattle.store_commands.proofs.laws.command_holds.Goals as goal

pub returns : goal.returns
returns c = command_applied
