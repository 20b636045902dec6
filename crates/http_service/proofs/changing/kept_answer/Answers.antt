use Rattle.std.proofs.Common.{◌∙◌, List, ℕ, [], Option, Some, sym, subst}
use Rattle.std.specs.Io.KnownBytes.{Appends}
use Rattle.dict_catalogue.specs.Views.{kept_shown}
use Rattle.dict_proto.specs.Streams.{Stream}
use Rattle.http_request.specs.declared.statuses.Status.TheVariants as statuses
use Rattle.http_service.specs.Texts.{kept_text}
use Rattle.http_service.specs.Answers.{answer_octets, with_body}
use Rattle.http_service.specs.Responding.{IsAnswer}
use Rattle.http_service.proofs.changing.kept_answer.Goals as goal

pub returns-in-Ok : goal.returns-in-Ok
returns-in-Ok c =
    let text = kept_text (kept_shown c.args.kept.now) in
    let put = subst (λ (s : Stream). Appends s.octets (Some c.put_kept.new.sink.writer.items) text) (rw c.new.ensures.items at c.new-body.ensures) c.in-Ok.ensures.octets in
    let held = subst (λ (o : Option (List ℕ)). Appends (Some []) o text) (sym c.into_inner.ensures) put in
    subst (λ t. IsAnswer (answer_octets c.with_text.result) (with_body statuses.Ok t)) (c.as_slice.ensures.value ∙ held) c.with_text.ensures
