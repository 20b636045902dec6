use Rattle.store_desk.proofs.ReopenLemmas.{front_in}
use Rattle.store_desk.proofs.reopening.stopped_files.Goals as goal

pub returns : goal.returns
returns g c = front_in
