use Rattle.std.proofs.Common.{ap, arith}
use Rattle.std.proofs.Math.Logic.{∥∥₁_elim}
use native.Mathlib.Nat.{ℕ_set}
use Rattle.sqlite.specs.Files.{file_state}
use Rattle.sqlite.specs.State.{HasCleanDisk}
use Rattle.store_desk.specs.Desk.{is_closed}
use Rattle.store_desk.proofs.ReopenLemmas.{may}
use Rattle.dictcat_lib.proofs.UnopenedLemmas.{told_of_file}
use Rattle.dictcat_lib.proofs.desks.reopen_desk.Goals as goal

pub returns-in-Ok-clause-opened : goal.returns-in-Ok-clause-opened
returns-in-Ok-clause-opened g c =
    let adopted = c.in-Ok.ensures.reopened.over.adopted in
    record { opened = c.in-Ok.ensures.reopened; alone = λ clean. let it = adopted.shows clean in (it.0, it.2, adopted.only it.0 it.2) }

pub returns-in-Ok-clause-answers : goal.returns-in-Ok-clause-answers
returns-in-Ok-clause-answers g c = ap is_closed c.in-Ok.ensures.reopened.over.adopted.fine

pub returns-in-Ok-clause-follows : goal.returns-in-Ok-clause-follows
returns-in-Ok-clause-follows g c =
    let again = c.in-Ok.ensures.reopened in
    let over = again.over in
    record {
      shows = c.in-Ok.ensures.follows;
      only = λ honest. over.adopted.only;
      trust = λ honest.
          let first : HasCleanDisk (file_state over.conn) = omega (arith, over.adopted.migrated.clean, honest) in
          ∥∥₁_elim (may {g = g.D.Disk} g.met.D.Disk.seen_may_stay c.args.desk again.files again.files again.let_go (λ image out. out) (λ clean. clean) over.conn over.opened first) (ℕ_set _ _) (λ both. both.0);
      beside = c.in-Ok.ensures.beside;
    }

pub returns-in-Err-clause-opened : goal.returns-in-Err-clause-opened
returns-in-Err-clause-opened g c =
    let why = c.in-Err.ensures.unopened in
    (rw c.hold.ensures (c.in-Err.fault, why, c.told_unopened-told.ensures), told_of_file _ c.in-Err.left c.in-Err.fault _ why.kind c.told_unopened-told.ensures)

pub returns-in-Err-clause-leaves : goal.returns-in-Err-clause-leaves
returns-in-Err-clause-leaves g c = λ ms leaves. let why = c.in-Err.ensures.unopened in rw c.hold.ensures (why.files, why.let_go, why.leaves ms leaves)

pub returns-in-Err-clause-beside : goal.returns-in-Err-clause-beside
returns-in-Err-clause-beside g c = λ db keeps. let why = c.in-Err.ensures.unopened in rw c.hold.ensures (why.files, why.let_go, why.beside db keeps)
