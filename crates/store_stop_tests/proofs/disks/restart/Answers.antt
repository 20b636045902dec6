use Rattle.std.proofs.Common.{ap, subst, sym, arith}
use Rattle.std.proofs.Math.Logic.{∥∥₁_elim}
use native.Mathlib.Nat.{ℕ_set}
use Rattle.sqlite.specs.Files.{file_state}
use Rattle.sqlite.specs.State.{HasCleanDisk}
use Rattle.net_serving.specs.Serving.{IsOfFile}
use Rattle.store_desk.specs.Desk.{is_closed}
use Rattle.store_desk.proofs.ReopenLemmas.{may}
use Rattle.store_stop_tests.proofs.FaultLemmas.{restart_of_file}
use Rattle.store_stop_tests.proofs.disks.restart.Goals as goal

pub returns-in-Ok-clause-opened : goal.returns-in-Ok-clause-opened
returns-in-Ok-clause-opened g c = record {
  opened = tt;
  alone = λ clean. let over = c.in-Ok.ensures.restarted.over.adopted in let it = over.shows clean in (it.0, it.2, over.only it.0 it.2);
}

pub returns-in-Ok-clause-answers : goal.returns-in-Ok-clause-answers
returns-in-Ok-clause-answers g c = ap is_closed c.in-Ok.ensures.restarted.over.adopted.fine

pub returns-in-Ok-clause-follows : goal.returns-in-Ok-clause-follows
returns-in-Ok-clause-follows g c =
    let again = c.in-Ok.ensures.restarted in
    let over = again.over in
    record {
      shows = c.in-Ok.ensures.follows;
      only = λ honest. over.adopted.only;
      trust = λ honest.
          let first : HasCleanDisk (file_state over.conn) = omega (arith, over.adopted.migrated.clean, honest) in
          ∥∥₁_elim (may {g = g.D.Disk} g.met.D.Disk.seen_may_stay c.args.desk again.files again.stopped again.let_go again.stop.crash again.stop.clean over.conn over.opened first) (ℕ_set _ _) (λ both. both.0);
      beside = c.in-Ok.ensures.beside;
    }

pub returns-in-Err-clause-opened : goal.returns-in-Err-clause-opened
returns-in-Err-clause-opened g c = (tt, subst IsOfFile (sym c.from.ensures) (restart_of_file c.args.desk c.in-Err.left c.in-Err.fault c.in-Err.ensures.unopened))
