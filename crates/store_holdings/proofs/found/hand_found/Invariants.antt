use Rattle.std.proofs.Common.{◌≡◌, ℕ, ◌<◌, ◌^◌, List, Ok, length, map, take}
use Rattle.sqlite.specs.Held.{state}
use Rattle.sqlite.specs.State.{HasCleanDisk}
use Rattle.dict_index.specs.Found.{Row}
use Rattle.dict_desk.specs.declared.lookup.End.TheVariants.{All}
use Rattle.store_search.specs.Entries.{entries_at, row_in}
use Rattle.store_holdings.specs.Taken.{more_taken}
use Rattle.store_holdings.specs.Searches.{ReadsStore}
use Rattle.store_holdings.specs.CutTexts.{HasText, IsAtMostRead, FailsToFind, KeepsParts}
use Rattle.store_holdings.proofs.found.hand_found.Given as goal

abbrev pub invariant-loop-place : goal.invariant-loop-place
invariant-loop-place g l = record {
  reads : ReadsStore g.S.Store (IsAtMostRead g.S.Store) (FailsToFind g.S.Store l.number) l.fn.conn l.conn (Ok All);
  keeps : KeepsParts g.S.Store l.installs l.number l.fn.conn l.conn l.fn.texts l.texts;
  takes : HasCleanDisk (state g.S.Store l.conn) → (text : List ℕ) → length text < 64 ^ 6 → HasText (state g.S.Store l.fn.conn) l.number text l.fn.texts
      → g.T.RowSink.takes l.fn.sink (map (row_in text) (entries_at l.index (take l.place-index l.places))) l.sink;
  handed : (rows : List Row) × g.T.RowSink.takes l.fn.sink rows l.sink;
  counted : (read : ℕ) × (l.rows_taken ≡ more_taken l.fn.rows_taken read);
}
