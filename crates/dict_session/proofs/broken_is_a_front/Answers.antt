use Rattle.dict_session.proofs.SpokenLemmas.{broken_front}
use Rattle.dict_session.proofs.broken_is_a_front.Goals as goal

pub returns : goal.returns
returns c = broken_front
