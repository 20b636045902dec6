use Rattle.dict_session.proofs.SpokenLemmas.{spoken_or, session_or}
use Rattle.dict_session.proofs.spoken_or_unavailable.Goals as goal

pub returns-clause-answers : goal.returns-clause-answers
returns-clause-answers c = spoken_or

pub returns-clause-session : goal.returns-clause-session
returns-clause-session c = session_or
