use Rattle.dict_catalogue.specs.Views.{command_meant}
use Rattle.http_service.proofs.RespondLemmas.{after_outcome}
use Rattle.http_service.proofs.changing.apply.Goals as goal

pub returns-clause-ends : goal.returns-clause-ends
returns-clause-ends g c = λ trusted M shown none.
    after_outcome _ _ _ _ _ M c.args.id.now (command_meant c.args.command.now) c.apply.result _ c.apply.ensures.closes none
    (c.apply.ensures.value trusted M shown) (c.apply.ensures.leaves trusted M shown) c.command_answer.ensures
