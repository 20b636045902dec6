use Rattle.std.proofs.Common.{◌≡◌, ◌++◌, List, length}
use Rattle.std.specs.List.{AllByRecursion}
use Rattle.dict_index.specs.Line.{Line}
use Rattle.store_rows.specs.Stored.{IsStorable, stored_index}
use Rattle.store_scans.specs.IndexingReader.{AreLinesAdded}
use Rattle.store_scans.proofs.index.read_lines.Given as goal

-- these lines were taken, and the rest stands behind them
abbrev pub invariant-lines : goal.invariant-lines
invariant-lines l = (lines : List Line) × AllByRecursion IsStorable lines × (l.octets ≡ stored_index lines ++ l.rest) × AreLinesAdded l.fn.reader l.reader lines

abbrev pub decreases-lines : goal.decreases-lines
decreases-lines l = length l.rest
