use Rattle.store_commands.proofs.DraftLemmas.{each_some}
use Rattle.store_commands.proofs.ending.apply_files.Goals as goal

pub returns-clause-finished : goal.returns-clause-finished
returns-clause-finished g c = each_some c.apply_reading.result _ _ (λ outcome it. (c.in-Some.reading, c.in-Some.ensures, it)) c.apply_reading.ensures.finished
