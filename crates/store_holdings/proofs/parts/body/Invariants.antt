use Rattle.std.proofs.Common.{◌≡◌, ℕ, ◌≤◌, ◌-◌, List, Ok, length, take, drop, vec_len}
use Rattle.sqlite.specs.Held.{state}
use Rattle.sqlite.specs.State.{HasCleanDisk}
use Rattle.store_holdings.specs.Taken.{more_taken}
use Rattle.store_holdings.specs.Searches.{ReadsStore}
use Rattle.store_holdings.specs.CutTexts.{HasText, IsAtMostRead, FailsToFind, KeepsParts}
use Rattle.store_holdings.proofs.parts.body.Given as goal

abbrev pub invariant-parts : goal.invariant-parts
invariant-parts g l = record {
  reads : ReadsStore g.S.Store (IsAtMostRead g.S.Store) (FailsToFind g.S.Store l.number) l.fn.conn l.conn (Ok l.octets);
  keeps : KeepsParts g.S.Store l.installs l.number l.fn.conn l.conn l.fn.texts l.texts;
  is : HasCleanDisk (state g.S.Store l.conn) → (text : List ℕ) → HasText (state g.S.Store l.fn.conn) l.number text l.fn.texts → l.octets.items ≡ take (length l.octets.items) (drop l.start text);
  fewer : length l.octets.items ≤ l.size;
  counted : (read : ℕ) × (l.rows_taken ≡ more_taken l.fn.rows_taken read);
}

abbrev pub decreases-parts : goal.decreases-parts
decreases-parts g l = l.size - vec_len l.octets
