use Rattle.dict_catalogue.specs.Views.{summary_shown, command_shown}
use Rattle.store_commands.proofs.DecideLemmas.{writable, in_range}
use Rattle.store_commands.proofs.deciding.decide.Goals as goal

pub returns-in-Ok-clause-writable : goal.returns-in-Ok-clause-writable
returns-in-Ok-clause-writable c = (
  writable (summary_shown c.args.summary.now) (command_shown c.args.command.now) c.in-Ok.change c.requires c.in-Ok.ensures.over_summary,
  in_range (summary_shown c.args.summary.now) (command_shown c.args.command.now)
      c.in-Ok.change c.requires c.in-Ok.ensures.over_summary,
)
