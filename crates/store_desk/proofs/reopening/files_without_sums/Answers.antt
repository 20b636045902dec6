use Rattle.store_desk.proofs.UnopenedLemmas.{plain_is_sealed}
use Rattle.store_desk.proofs.reopening.files_without_sums.Goals as goal

pub returns : goal.returns
returns c = plain_is_sealed
