-- the lines so far
use Rattle.std.proofs.Common.{◌≡◌, map, take}
use Rattle.dict_index.specs.Views.{line_of}
use Rattle.store_rows.specs.Stored.{stored_index}
use Rattle.store_commands.proofs.files.lines_of.Given as goal

abbrev pub invariant-each : goal.invariant-each
invariant-each l = l.octets.items ≡ stored_index (map line_of (take l.entry-index l.entries))
