use Rattle.std.proofs.Common.{string_bytes}
use Rattle.std.proofs.lemmas.Result.{IfOk-weaker}
use Rattle.dict_catalogue.specs.Views.{item_shown}
use Rattle.http_service.proofs.JsonTextLemmas.{list_written}
use Rattle.http_service.proofs.items.list_json.Goals as goal

pub returns : goal.returns
returns c = IfOk-weaker c.to_string.result _ _ (λ s h. list_written item_shown c.args.summary.now.items.items _ (string_bytes s) (rw c.deref.ensures.value at c.in_ok-value.ensures) h) c.to_string.ensures.text
