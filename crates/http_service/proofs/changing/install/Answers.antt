use Rattle.std.proofs.Common.{inr, refl}
use Rattle.http_request.specs.declared.statuses.Status.TheVariants.{BadRequest}
use Rattle.http_service.specs.Answers.{plain}
use Rattle.http_service.specs.Actions.{unformed}
use Rattle.http_service.specs.Settling.{stays}
use Rattle.http_service.specs.Responding.{ended, answered}
use Rattle.http_service.proofs.RespondLemmas.{responds_so, settles_files}
use Rattle.http_service.proofs.changing.install.Goals as goal

pub returns-in-Some-clause-responds : goal.returns-in-Some-clause-responds
returns-in-Some-clause-responds g c = λ trusted M shown none.
    responds_so _ _ _ _ M _ _ _ (λ s. settles_files M c.args.id.now c.args.name.now c.args.body.now c.in-Some.index.now c.in-Some.text.now s c.in-Some.ensures)
    (c.install_files.ensures.responds trusted M shown none)

pub returns-in-None-clause-responds : goal.returns-in-None-clause-responds
returns-in-None-clause-responds g c = λ trusted M shown none.
    ended (stays M (plain BadRequest)) (unformed, inr (c.in-None.ensures, refl), refl)
    (answered c.bad_request.ensures shown (λ ms left. left))
