use Rattle.std.proofs.Common.{◌≤◌, length, arith}
use Rattle.std.proofs.lemmas.Bool.Decides.{nat_tests}
use Rattle.store_commands.proofs.DraftLemmas.{read_storable, first_lines, all_lines}
use Rattle.store_commands.proofs.install.write_slice.Goals as goal

pub write_lines-requires-clause-storable : goal.write_lines-requires-clause-storable
write_lines-requires-clause-storable c = read_storable c.args.index.now c.args.text.now c.in-Ok.reading c.in-Ok.ensures.edition

pub returns-then-all-written-clause-whole : goal.returns-then-all-written-clause-whole
returns-then-all-written-clause-whole c = λ front more.
    let le : length c.in-Ok.reading.lines ≤ c.args.written = omega (arith, c.len-all.ensures, c.if-all-written.true) in
    all_lines c.args.index.now c.args.text.now c.in-Ok.reading c.in-Ok.ensures.edition c.one_meaning.ensures.one_reading c.args.written c.args.stored.now.items le (front c.in-Ok.reading c.in-Ok.ensures.edition)

pub returns-in-Ok-write_lines-clause-front : goal.returns-in-Ok-write_lines-clause-front
returns-in-Ok-write_lines-clause-front c = λ front.
    first_lines c.args.index.now c.args.text.now c.in-Ok.reading c.in-Ok.ensures.edition c.one_meaning.ensures.one_reading c.slice_end-to.result c.write_lines.new.octets.items
    (c.in-Ok-write_lines.ensures (front c.in-Ok.reading c.in-Ok.ensures.edition))

pub returns-in-Ok-write_lines-clause-whole : goal.returns-in-Ok-write_lines-clause-whole
returns-in-Ok-write_lines-clause-whole c = λ front more.
    let le : length c.in-Ok.reading.lines ≤ c.slice_end-to.result = let all = c.len-all.ensures in grind (arith, nat_tests, more, all) in
    all_lines c.args.index.now c.args.text.now c.in-Ok.reading c.in-Ok.ensures.edition c.one_meaning.ensures.one_reading c.slice_end-to.result c.write_lines.new.octets.items le
    (c.in-Ok-write_lines.ensures (front c.in-Ok.reading c.in-Ok.ensures.edition))
