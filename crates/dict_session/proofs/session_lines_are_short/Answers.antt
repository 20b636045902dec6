use Rattle.dict_session.proofs.ShortLemmas.{session-short}
use Rattle.dict_session.proofs.WrittenLemmas.{run_short}
use Rattle.dict_session.proofs.session_lines_are_short.Goals as goal

pub returns : goal.returns
returns c = record { runs = run_short; spoken = session-short }
