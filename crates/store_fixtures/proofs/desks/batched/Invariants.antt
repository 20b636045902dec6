use Rattle.std.proofs.Common.{◌≡◌, ◌≤◌, take}
use Rattle.sqlite.specs.State.{HasCleanDisk}
use Rattle.sqlite.specs.Held.{state}
use Rattle.sqlite_trees.specs.View.{doubt}
use Rattle.store_fixtures.proofs.DeskLemmas.{AllExecuted}
use Rattle.store_fixtures.proofs.desks.batched.Given as goal

abbrev pub invariant-loop-text : goal.invariant-loop-text
invariant-loop-text g l = record {
  ran : HasCleanDisk (state g.S.Store l.conn) → AllExecuted g.S.Store (take l.text-index l.texts) l.fn.conn l.conn;
  clean : doubt (state g.S.Store l.fn.conn).is_clean ≤ doubt (state g.S.Store l.conn).is_clean;
  limit : l.conn.step_limit ≡ l.fn.conn.step_limit;
}
