use Rattle.std.proofs.Common.{ap, subst, sym}
use Rattle.net_serving.specs.Serving.{IsOfFile}
use Rattle.store_desk.specs.Desk.{is_closed}
use Rattle.store_stop_tests.proofs.FaultLemmas.{opening_of_file}
use Rattle.store_stop_tests.proofs.disks.adopt.Goals as goal

pub returns-in-Ok-clause-answers : goal.returns-in-Ok-clause-answers
returns-in-Ok-clause-answers g c = ap is_closed c.in-Ok.ensures.adopted.fine

pub returns-in-Ok-clause-opened : goal.returns-in-Ok-clause-opened
returns-in-Ok-clause-opened g c = record {
  opened = tt;
  alone = λ clean. let it = c.in-Ok.ensures.adopted.shows clean in (it.0, it.2, c.in-Ok.ensures.adopted.only it.0 it.2);
}

pub returns-clause-opened : goal.returns-clause-opened
returns-clause-opened g c = (tt, subst IsOfFile (sym c.from.ensures) (opening_of_file c.in-Err.fault c.in-Err.ensures.rejected.kind))
