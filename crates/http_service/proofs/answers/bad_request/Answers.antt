use Rattle.http_service.proofs.TextLemmas.{bad_request_is}
use Rattle.http_service.proofs.answers.bad_request.Goals as goal

pub returns : goal.returns
returns c = bad_request_is
