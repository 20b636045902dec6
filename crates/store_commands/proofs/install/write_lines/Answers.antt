use Rattle.std.proofs.Common.{arith}
use Rattle.store_commands.proofs.DraftLemmas.{next_line}
use Rattle.store_commands.proofs.install.write_lines.Goals as goal

pub loop-place-preserved : goal.loop-place-preserved
loop-place-preserved c = λ was. next_line c.args.reading.now.lines c.loop-place.place (omega arith) c.loop-place.octets.items c.write_entry.new.octets.items (c.loop-place.invariant was) c.in_ok-write_entry.ensures
