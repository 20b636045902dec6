use Rattle.http_service.proofs.TextLemmas.{not_found_is}
use Rattle.http_service.proofs.answers.not_found.Goals as goal

pub returns : goal.returns
returns c = not_found_is
