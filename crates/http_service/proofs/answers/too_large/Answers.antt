use Rattle.http_service.proofs.TextLemmas.{too_large_is}
use Rattle.http_service.proofs.answers.too_large.Goals as goal

pub returns : goal.returns
returns c = too_large_is
