use Rattle.std.proofs.Common.{string_bytes}
use Rattle.std.proofs.lemmas.Result.{IfOk-weaker}
use Rattle.http_service.proofs.JsonTextLemmas.{command_written}
use Rattle.http_service.proofs.replies.refused_command_json.Goals as goal

pub returns : goal.returns
returns c = IfOk-weaker c.to_string.result _ _ (λ s h. command_written c.args.refusal _ (string_bytes s) c.in_ok-value.ensures h) c.to_string.ensures.text
