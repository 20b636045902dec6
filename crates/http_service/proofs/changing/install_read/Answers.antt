use Rattle.std.proofs.Common.{inl, inr, refl}
use Rattle.dict_index.specs.Edition.{edition_of}
use Rattle.dict_catalogue.specs.Commands.{install}
use Rattle.http_request.specs.declared.statuses.Status.TheVariants.{UnprocessableContent}
use Rattle.http_service.specs.Texts.{refused_edition_text}
use Rattle.http_service.specs.Answers.{with_body}
use Rattle.http_service.specs.Actions.{command, no_edition}
use Rattle.http_service.specs.Settling.{applied, stays}
use Rattle.http_service.specs.Responding.{ended}
use Rattle.http_service.proofs.RespondLemmas.{stays_so}
use Rattle.http_service.proofs.changing.install_read.Goals as goal

pub returns-in-Ok-clause-responds : goal.returns-in-Ok-clause-responds
returns-in-Ok-clause-responds g c = λ trusted M shown none.
    let edition = edition_of c.in-Ok.edition in
    ended (applied M c.args.id.now (install c.args.name.now edition))
    (command (install c.args.name.now edition), inl (edition, (c.in-Ok.edition, c.in-Ok.ensures.edition, refl), refl), refl)
    (c.install_edition.ensures.ends trusted M shown none)

pub returns-in-Err-Refused-clause-responds : goal.returns-in-Err-Refused-clause-responds
returns-in-Err-Refused-clause-responds g c = λ trusted M shown none.
    let refusal = c.in-Err-Refused.refusal in
    let line = c.in-Err-Refused.line in
    let fault = rw c.in-Err-Refused.field-0-is at c.in-Err-Refused.ensures.refused in
    ended (stays M (with_body UnprocessableContent (refused_edition_text refusal line)))
    (no_edition refusal line, inr (refusal, line, fault, refl), refl)
    (stays_so _ _ _ M _ _ shown c.refused_edition.ensures)
