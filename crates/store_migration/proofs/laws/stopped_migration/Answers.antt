use Rattle.store_migration.proofs.KitLemmas.{state}
use Rattle.store_migration.proofs.StopLemmas.{stopped}
use Rattle.store_migration.proofs.laws.stopped_migration.Goals as goal

pub returns : goal.returns
returns g c = λ old new live survives ms. stopped (state g.S.Store old) (state g.S.Store new) (λ open'. (live open').1) (g.met.S.Store.stays old.store) survives ms
