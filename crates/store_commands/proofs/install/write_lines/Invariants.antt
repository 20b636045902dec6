-- the lines so far
use Rattle.std.proofs.Common.{◌≡◌, take}
use Rattle.store_rows.specs.Stored.{stored_index}
use Rattle.store_commands.proofs.install.write_lines.Given as goal

abbrev pub invariant-loop-place : goal.invariant-loop-place
invariant-loop-place l = l.fn.octets.items ≡ stored_index (take l.fn.from l.reading.lines) → l.octets.items ≡ stored_index (take l.place l.reading.lines)
