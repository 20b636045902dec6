use Rattle.std.proofs.Common.{◌≡◌, ℕ, pos, List, map, false, take}
use Rattle.sqlite.specs.State.{HasCleanDisk, Survives}
use Rattle.sqlite.specs.Held.{state}
use Rattle.store_rows.specs.Tables.{Tables}
use Rattle.store_rows.specs.Taken.{HasTaken}
use Rattle.store_scans.specs.Reading.{Same}
use Rattle.store_rows.specs.Versions.{layout_of}
use Rattle.store_opening.specs.Indexed.{HaveRowsIndexed}
use Rattle.store_opening.specs.Opens.{CanRead, HasReadEditions}
use Rattle.store_opening.proofs.editions.read_numbered_editions.Given as goal

abbrev pub invariant-loop-number : goal.invariant-loop-number
invariant-loop-number g l =
    let old = state g.S.Store l.fn.conn in
    let now = state g.S.Store l.conn in
    record {
      mode : old.in_transaction ≡ false → now.in_transaction ≡ false;
      survives : Survives old now (λ _. ⊥);
      same : HasCleanDisk now → Same old now;
      indexed : HasCleanDisk now → (ns : List ℕ) → l.numbers ≡ map pos ns → HaveRowsIndexed (layout_of l.version) old.now (take l.number-index ns) l.indexes;
      read : HasCleanDisk now → (front : Tables) → CanRead l.version old.now l.fn.reader.reader l.numbers front → (after : Tables) × HasTaken l.version l.reader.reader after
          × HasReadEditions l.version old.now (take l.number-index l.numbers) front after;
    }
