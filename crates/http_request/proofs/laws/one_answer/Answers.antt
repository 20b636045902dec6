use Rattle.http_request.proofs.LawLemmas.{awaits, one, stays}
use Rattle.http_request.proofs.laws.one_answer.Goals as goal

pub returns : goal.returns
returns c = record { one = one; stays = stays; awaits = awaits }
