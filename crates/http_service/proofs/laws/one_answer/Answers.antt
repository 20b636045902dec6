use Rattle.http_service.proofs.SettledLemmas.{settled_one, settled_none, settled_some}
use Rattle.http_service.proofs.laws.one_answer.Goals as goal

pub returns : goal.returns
returns c = record { one = settled_one; some = settled_some; none = settled_none }
