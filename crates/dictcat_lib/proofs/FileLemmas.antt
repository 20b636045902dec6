-- What closes and audits leave of a desk over a file.
use Rattle.std.proofs.Common.{◌≡◌, List, Option, IsTrue, false, inl, inr, refl, sym, subst, arith}
use Rattle.std.specs.Prelude.{Result, Ok, Err, None}
use Rattle.sqlite.specs.State.{HasCleanDisk, Survives}
use Rattle.sqlite.specs.Held.{state}
use Rattle.sqlite_trees.specs.declared.store.Store.{Ghosts}
use Rattle.dict_catalogue.specs.Steps.{Catalogue}
use Rattle.app_words.specs.Writing.{IsUntouched}
use Rattle.app_words.specs.declared.fault.ProgramFault.{ProgramFault}
use Rattle.app_words.specs.declared.fault.ProgramFault.TheVariants.{Line, Edition, Refused, Store, CannotRead, SessionEnded, CannotWrite, CannotBind, CannotWait}
use Rattle.app_words.specs.declared.fault.ProgramFault.TheVariants as told
use Rattle.dict_proto.specs.Streams.{StreamChange}
use Rattle.app_commands.specs.Catalogues.{IsSpared, StaysTrusted}
use Rattle.sqlite.specs.Files.{file_state, over_files}
use Rattle.sqlite.specs.Held.{Held}
use Rattle.sqlite.specs.Recovery.{Image}
use Rattle.sqlite_disk.specs.declared.Disk as disk
use Rattle.sqlite_store.specs.Laws.{settled_at}
use Rattle.sqlite_store.specs.declared.store.FileStore.{FileStore}
use Rattle.sqlite_wal.proofs.LogLemmas.{SeenMayStay}
use Rattle.dict_desk.specs.declared.fault.Fault.{Fault as DeskFault}
use Rattle.dict_desk.specs.declared.fault.Fault.TheVariants.{Disk}
use Rattle.store_holdings.specs.Holds.{IsLeft}
use Rattle.store_desk.specs.Adopted.{FailsToOpen, IsNotAdopted}
use Rattle.store_migration.proofs.OtherLemmas.{others_same}
use Rattle.store_desk.specs.Desk.{DeskState, KeepsBeside, LeavesOneOf, Shows, StandsFor}
use Rattle.store_desk.specs.Opened.{IsNotLeft}
use Rattle.store_desk.specs.Over.{ConnectionKeepsBeside}
use Rattle.store_desk.specs.Unopened.{IsRejectedFrom}
use Rattle.store_desk.proofs.BesideLemmas.{beside_on}
use Rattle.store_desk.proofs.ReopenLemmas.{stands_after}
use Rattle.dict_session.specs.declared.session.run.SessionEnd.{SessionEnd}
use Rattle.dict_session.specs.declared.session.run.SessionFault.{SessionFault}
use Rattle.dict_session.specs.declared.session.run.SessionFault.TheVariants as session_faults
use Rattle.dictcat_lib.specs.Opening.{over_told}
use Rattle.dictcat_lib.specs.Files.{IsOpenedFrom}

-- where nothing was read or written, whatever was told
pub spared_all : (result : Result (Unit {0}) ProgramFault) (reader writer : StreamChange) → IsUntouched reader → IsUntouched writer → IsSpared result reader writer
spared_all (Ok done) reader writer r w = tt
spared_all (Err (Line refusal line)) reader writer r w = (r, w)
spared_all (Err (Edition refusal)) reader writer r w = (r, w)
spared_all (Err (Refused refusal)) reader writer r w = (r, w)
spared_all (Err (Store fault)) reader writer r w = (r, w)
spared_all (Err (CannotRead path)) reader writer r w = (r, w)
spared_all (Err SessionEnded) reader writer r w = tt
spared_all (Err CannotWrite) reader writer r w = (r, w)
spared_all (Err (CannotBind address)) reader writer r w = (r, w)
spared_all (Err CannotWait) reader writer r w = (r, w)
spared_all (Err told.Memory) reader writer r w = (r, w)

-- and of a session that ended so, where for want of memory nothing was read or written
pub spoken_spared : (end : Result SessionEnd SessionFault) (result : Result (Unit {0}) ProgramFault) (reader writer : StreamChange) → result ≡ over_told end
    → (end ≡ Err session_faults.Memory → IsUntouched reader × IsUntouched writer) → IsSpared result reader writer
spoken_spared (Ok end) result reader writer is memory = subst (λ (r : Result (Unit {0}) ProgramFault). IsSpared r reader writer) (sym is) tt
spoken_spared (Err session_faults.Memory) result reader writer is memory = subst (λ (r : Result (Unit {0}) ProgramFault). IsSpared r reader writer) (sym is) (memory refl)
spoken_spared (Err session_faults.Read) result reader writer is memory = subst (λ (r : Result (Unit {0}) ProgramFault). IsSpared r reader writer) (sym is) tt
spoken_spared (Err session_faults.Write) result reader writer is memory = subst (λ (r : Result (Unit {0}) ProgramFault). IsSpared r reader writer) (sym is) tt
spoken_spared (Err session_faults.Broken) result reader writer is memory = subst (λ (r : Result (Unit {0}) ProgramFault). IsSpared r reader writer) (sym is) tt

module _ {S : Type 0} (g : Ghosts S) (old new : DeskState S) (survives : Survives (state g old.conn) (state g new.conn) (λ _. ⊥)) where
  clean_first : HasCleanDisk (state g new.conn) → HasCleanDisk (state g old.conn)
  clean_first clean = omega (arith, survives.clean, clean)

  -- what only read leaves nothing else
  leaves_after : (ms : List (Option Catalogue)) → LeavesOneOf g old ms → LeavesOneOf g new ms
  leaves_after ms leaves clean trees may = elim (survives.crash clean trees may) [
    | inl before ↦ leaves (clean_first clean) trees before
    | inr none ↦ absurd none
  ]

  pub read_stays : (HasCleanDisk (state g new.conn) → (M : Catalogue) → Shows g old M → Shows g new M) → StaysTrusted (Shows g) (LeavesOneOf g) (KeepsBeside g) (λ desk. HasCleanDisk (state g desk.conn)) old new
  read_stays shows = record { trust = clean_first; shows = shows; leaves = leaves_after; beside = beside_on g old new survives }

-- of a file that was opened a stop leaves what it holds, so the tables of others as they are there
pub opened_beside : {D : Type 0} {d : disk.Ghosts D} → SeenMayStay d → (image : Image) (conn : Held (FileStore D d)) → IsOpenedFrom image conn → ConnectionKeepsBeside over_files conn (file_state conn).committed
opened_beside stays image conn opened clean trees could =
    let whole = (opened.live clean).0 in
    ∣ ((file_state conn).committed, settled_at conn.store stays trees whole.0.is_open could, (whole.1 whole.0.is_open).1, others_same (file_state conn).committed (file_state conn).committed refl) ∣₁

-- Of files with these octets, what no desk adopted leaves what they hold, and where that is a catalogue, no fault tells of it.
pub rejected_from : {D : Type 0} {d : disk.Ghosts D} → SeenMayStay d → (image : Image) (conn refused : Held (FileStore D d)) (why : DeskFault) → IsOpenedFrom image conn → IsNotAdopted over_files conn refused why
    → (HasCleanDisk (file_state refused) → why ≡ Disk → FailsToOpen over_files (record conn { step_limit = None }) refused) → refused.in_transaction ≡ false
    → (HasCleanDisk (file_state refused) → IsTrue (file_state conn).is_open → IsNotLeft (file_state conn).now.trees why) → IsRejectedFrom image refused why
rejected_from stays image conn refused why opened adopted failed autocommit not_left = record {
  conn = conn;
  opened = opened.live;
  adopted = adopted;
  failed = failed;
  autocommit = autocommit;
  of_store = λ M held clean.
      let early : HasCleanDisk (file_state conn) = omega (arith, adopted.crash.clean, clean) in
      let live = (opened.live early).0.0 in
      let found = (opened.live early).1 in
      not_left clean live.is_open M (subst (λ db. IsLeft M db.trees) (sym live.clean) (subst (IsLeft M) (sym (found.holds held.0 held.1)) held.2));
  leaves = λ m stands clean trees stop.
      let early : HasCleanDisk (file_state conn) = omega (arith, adopted.crash.clean, clean) in
      let found = (opened.live early).1 in
      stands_after stays conn refused (opened.live early).0 adopted.crash clean m (subst (StandsFor m) (sym (found.holds stands.0 stands.1)) stands.2) trees stop;
}
