use Rattle.http_request.proofs.LawLemmas.{one_request, request_stays}
use Rattle.http_request.proofs.laws.one_request.Goals as goal

pub returns : goal.returns
returns c = record { one = one_request; stays = request_stays }
