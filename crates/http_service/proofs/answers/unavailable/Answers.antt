use Rattle.http_service.proofs.TextLemmas.{unavailable_is}
use Rattle.http_service.proofs.answers.unavailable.Goals as goal

pub returns : goal.returns
returns c = unavailable_is
