use Rattle.std.proofs.Common.{◌≡◌, ◌≤◌, false, List, [], length}
use Rattle.sqlite.specs.State.{HasCleanDisk, Survives}
use Rattle.sqlite.specs.Held.{state}
use Rattle.store_scans.specs.Cursors.{Cursor, CursorHasGiven}
use Rattle.store_scans.specs.Reading.{Same}
use Rattle.store_scans.specs.Scans.{TakesSo}
use Rattle.store_scans.proofs.scan.take_all.Given as goal

abbrev pub invariant-rows : goal.invariant-rows
invariant-rows g l =
    let old = l.fn.rows.conn.now in
    let now = l.rows.conn.now in
    record {
      reference : l.rows.conn.ghost_name ≡ l.fn.rows.conn.ghost_name;
      mode : old.in_transaction ≡ false → now.in_transaction ≡ false;
      survives : Survives (state g.S.Store old) (state g.S.Store now) (λ _. ⊥);
      same : HasCleanDisk (state g.S.Store now) → Same (state g.S.Store old) (state g.S.Store now);
      takes : HasCleanDisk (state g.S.Store now) → (what : Cursor) → CursorHasGiven g.S.Store what old [] → (given : List g.row.R.Denot) × TakesSo g.S.Store g.R.Record.stored g.T.Taker.takes what l.fn.taker given now l.taker
          × (l._turn ≤ length given);
    }
