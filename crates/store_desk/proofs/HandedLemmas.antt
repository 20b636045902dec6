-- A database that no desk adopted, and that is handed back.
use Rattle.std.proofs.Common.{subst, sym, arith}
use Rattle.sqlite.specs.Files.{IsOpened, Finds, file_state}
use Rattle.sqlite.specs.Held.{Held}
use Rattle.sqlite.specs.Recovery.{Image}
use Rattle.sqlite.specs.Start.{FindsIn}
use Rattle.sqlite.specs.State.{HasCleanDisk}
use Rattle.sqlite_wal.proofs.LogLemmas.{SeenMayStay}
use Rattle.sqlite_disk.specs.declared.Disk.{Ghosts}
use Rattle.sqlite_disk.specs.declared.Files.{Files as Pair}
use Rattle.sqlite_store.specs.declared.store.FileStore.{FileStore}
use Rattle.dict_desk.specs.declared.fault.Fault.{Fault}
use Rattle.store_holdings.specs.Holds.{IsLeft}
use Rattle.store_desk.specs.Desk.{StandsFor}
use Rattle.store_desk.specs.declared.reopening.Unopened.{Unopened}
use Rattle.store_desk.specs.declared.reopening.Unopened.TheVariants.{Files, Spent, Database}
use Rattle.store_desk.specs.Unopened.{IsHandedBack, IsUnopened, IsUnopenedOver}
use Rattle.store_desk.proofs.ReopenLemmas.{stands_after}

module _ {D : Type 0} {d : Ghosts D} (conn : Held (FileStore D d)) where
  pub handed_over : (files : Pair D) → (HasCleanDisk (file_state conn) → IsOpened conn × Finds files conn) → (left : Unopened D d) (fault : Fault) → IsHandedBack conn left fault → IsUnopenedOver files left fault
  handed_over files opened (Files now) fault it = absurd it
  handed_over files opened (Spent spent) fault it = it
  handed_over files opened (Database now) fault it = record { conn = conn; opened = opened; adopted = it.adopted; failed = it.failed; autocommit = it.autocommit; not_left = it.not_left }

  pub handed_from : SeenMayStay d → (image : Image) → (HasCleanDisk (file_state conn) → IsOpened conn × FindsIn image (file_state conn)) → (left : Unopened D d) (fault : Fault) → IsHandedBack conn left fault → IsUnopened image left fault
  handed_from stays image opened (Files now) fault it = absurd it
  handed_from stays image opened (Spent spent) fault it = it
  handed_from stays image opened (Database now) fault it = record {
    conn = conn;
    opened = opened;
    adopted = it.adopted;
    failed = it.failed;
    autocommit = it.autocommit;
    of_store = λ M held clean.
        let early : HasCleanDisk (file_state conn) = omega (arith, it.adopted.crash.clean, clean) in
        let was = (opened early).0.0 in
        let found = (opened early).1 in
        it.not_left clean was.is_open M (subst (λ db. IsLeft M db.trees) (sym was.clean) (subst (IsLeft M) (sym (found.holds held.0 held.1)) held.2));
    leaves = λ m stands clean trees stop.
        let early : HasCleanDisk (file_state conn) = omega (arith, it.adopted.crash.clean, clean) in
        let found = (opened early).1 in
        stands_after stays conn now (opened early).0 it.adopted.crash clean m (subst (StandsFor m) (sym (found.holds stands.0 stands.1)) stands.2) trees stop;
  }
