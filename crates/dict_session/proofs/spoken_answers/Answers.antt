use Rattle.dict_session.proofs.SpokenLemmas.{speaks_answers}
use Rattle.dict_session.proofs.spoken_answers.Goals as goal

pub returns : goal.returns
returns c = speaks_answers
