use Rattle.std.proofs.Common.{◌≤◌, length, arith}
use Rattle.dict_index.specs.Limits.{most_octets}
use Rattle.store_commands.proofs.DecideLemmas.{lines_lie}
use Rattle.store_commands.proofs.deciding.lies_within.Goals as goal

pub returns-in-Install : goal.returns-in-Install
returns-in-Install c =
    let edition = c.in-Install.edition.now in
    let few : length edition.text ≤ most_octets = rw c.text.ensures.value at c.text.ensures.few in
    rw c.in-Install.is (lines_lie edition.text c.entries.result.now edition.lines c.entries.ensures.lines c.entries.ensures.within, omega (arith, few))
