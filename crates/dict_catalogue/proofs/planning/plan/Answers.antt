use Rattle.dict_catalogue.specs.Views.{summary_shown, command_meant}
use Rattle.dict_catalogue.proofs.PlanLemmas.{plan_of}
use Rattle.dict_catalogue.proofs.planning.plan.Goals as goal

pub returns-clause-over_catalogue : goal.returns-clause-over_catalogue
returns-clause-over_catalogue c = λ M id e lawful new. plan_of M id (command_meant c.args.command.now) _ (summary_shown c.args.summary.now) e lawful new c.plan_over.ensures
