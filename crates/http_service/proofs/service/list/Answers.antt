use Rattle.std.proofs.Common.{◌∙◌, ap, subst, List, ℕ}
use Rattle.dict_catalogue.specs.Tests.{Holdings}
use Rattle.http_request.specs.declared.statuses.Status.TheVariants as statuses
use Rattle.http_service.specs.Texts.{list_text}
use Rattle.http_service.specs.Answers.{answer_octets, with_body}
use Rattle.http_service.specs.Responding.{IsAnswer}
use Rattle.http_service.proofs.service.list.Goals as goal

pub returns-in-Ok-list_json-clause-lists : goal.returns-in-Ok-list_json-clause-lists
returns-in-Ok-list_json-clause-lists g c = λ M shown.
    let text = c.as_bytes.ensures.value ∙ (c.in-Ok-list_json.ensures ∙ ap (λ (s : Holdings (List ℕ)). list_text s.items) (c.in-Ok.ensures.value M shown)) in
    subst (λ t. IsAnswer (answer_octets c.with_text.result) (with_body statuses.Ok t)) text c.with_text.ensures
