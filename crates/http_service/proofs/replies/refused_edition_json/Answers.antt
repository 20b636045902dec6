use Rattle.std.proofs.Common.{string_bytes}
use Rattle.std.proofs.lemmas.Result.{IfOk-weaker}
use Rattle.http_service.proofs.JsonTextLemmas.{edition_written}
use Rattle.http_service.proofs.replies.refused_edition_json.Goals as goal

pub returns : goal.returns
returns c = IfOk-weaker c.to_string.result _ _ (λ s h. edition_written c.args.refusal c.args.line _ (string_bytes s) c.in_ok-value.ensures h) c.to_string.ensures.text
