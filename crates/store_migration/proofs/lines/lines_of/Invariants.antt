-- the lines so far
use Rattle.std.proofs.Common.{◌≡◌, map, take}
use Rattle.store_holdings.specs.Files.{index_octets}
use Rattle.store_migration.proofs.lines.lines_of.Given as goal

abbrev pub invariant-each : goal.invariant-each
invariant-each g l = l.octets.items ≡ index_octets (map g.E.IndexedRecord.entry (take l.entry-index l.entries))
