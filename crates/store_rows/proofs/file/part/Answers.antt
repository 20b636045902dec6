use Rattle.std.proofs.Common.{arith}
use Rattle.store_rows.proofs.PartLemmas.{parts_length, full_part, last_part}
use Rattle.store_rows.proofs.file.part.Goals as goal

pub returns-then-number-whole : goal.returns-then-number-whole
returns-then-number-whole c = full_part c.args.octets.now c.args.number c.if-number-whole.true

pub returns-then-number-whole-2 : goal.returns-then-number-whole-2
returns-then-number-whole-2 c = omega (arith, parts_length c.args.octets.now)

pub returns-then-octets-whole : goal.returns-then-octets-whole
returns-then-octets-whole c = omega (arith, parts_length c.args.octets.now)

pub returns : goal.returns
returns c = last_part c.args.octets.now c.args.number (omega arith) (omega arith)
