-- What a close leaves.
use Rattle.std.proofs.Common.{◌≡◌, false, List, IsTrue, refl, arith}
use Rattle.std.proofs.Math.Logic.{∥∥₁_map}
use Rattle.sqlite.specs.Closing.{IsCopied}
use Rattle.sqlite.specs.Closing as copies
use Rattle.sqlite.specs.FileStore.{view, faults, recovers, is_shielded}
use Rattle.sqlite.specs.Files.{file_state}
use Rattle.sqlite.specs.Held.{Held, state}
use Rattle.sqlite.specs.Recovery.{Image}
use Rattle.sqlite.specs.State.{HasCleanDisk, IsLive}
use Rattle.sqlite.specs.Tree.{Trees}
use Rattle.sqlite.specs.View.{IsClean, IsQuiet}
use Rattle.sqlite_disk.specs.declared.Disk.{Ghosts}
use Rattle.sqlite_disk.specs.declared.Files.{Files}
use Rattle.sqlite_store.specs.declared.store.FileStore.{FileStore}
use Rattle.sqlite_trees.specs.declared.store.Store as store
use Rattle.dict_catalogue.specs.Steps.{Catalogue}
use Rattle.dict_catalogue.specs.Tests.{Holdings}
use Rattle.store_holdings.specs.Holds.{IsLeft}
use Rattle.store_search.specs.Entries.{Indexed}
use Rattle.store_desk.specs.Closed.{AreInAlone, HoldTreesAlone, StoreLeaves}
use Rattle.store_desk.specs.Desk.{Shows, is_closed}
use Rattle.store_desk.specs.declared.last.LastCall.{LastCall}
use Rattle.store_desk.specs.Left.{Counts}
use Rattle.std.proofs.Common.{ℕ}
use Rattle.store_holdings.proofs.OneLemmas.{held_known}
use Rattle.store_holdings.specs.KeptTexts.{PartNumbers}

-- what is shown is committed
pub committed_holds : {S : Type 0} (g : store.Ghosts S) (conn : Held S) (summary : Holdings (List ℕ)) (last : LastCall) (indexes : List (ℕ × List Indexed)) (texts : List (PartNumbers × List ℕ)) {taken : Counts} → IsLive (state g conn)
    → is_closed last ≡ false → HasCleanDisk (state g conn) → IsTrue (state g conn).is_open → (M : Catalogue) → Shows g (record { conn = conn; summary = summary; last = last; indexes = indexes; texts = texts; counts = taken }) M
    → IsLeft M (state g conn).committed.trees
committed_holds g conn summary last indexes texts whole fine clean live M shown = ((state g conn).committed, refl, (whole live).1, held_known (state g conn).committed M (shown.holds fine clean live))

in_alone : (P : Trees → Type 0) (image : Image) (trees : Trees) → P trees → copies.HoldsAlone image trees → AreInAlone P image
in_alone P image trees left holds = record {
  both = ∥∥₁_map holds.both (λ h. (trees, h, left));
  alone = ∥∥₁_map holds.alone (λ h. (trees, h, left));
}

module _ {D : Type 0} {g : Ghosts D} (conn : Held (FileStore D g)) where
  pub copy_holds : (files : Files D) (P : Trees → Type 0) → IsCopied conn files → P (file_state conn).committed.trees → HoldTreesAlone g files P
  copy_holds files P copied left = record {
    seen = in_alone P _ _ left copied.seen;
    left = λ image may. in_alone P image _ left (copied.left image may);
  }

  module _ (it : FileStore D g) (quiet : IsQuiet view faults recovers is_shielded conn.store it) where
    pub clean_before : IsClean (view it) → HasCleanDisk (file_state conn)
    clean_before clean = omega (arith, quiet.clean, clean)

pub store_leaves : {D : Type 0} {g : Ghosts D} (conn : Held (FileStore D g)) (it : FileStore D g) → IsQuiet view faults recovers is_shielded conn.store it
    → (P : Trees → Type 0) → (HasCleanDisk (file_state conn) → (trees : Trees) → (file_state conn).may_leave trees → P trees) → StoreLeaves it P
store_leaves conn it quiet P leaves clean trees may = leaves (clean_before conn it quiet clean) trees (quiet.outcomes trees may)
