use Rattle.store_migration.proofs.LineLemmas.{decides_no}
use Rattle.store_migration.proofs.lines.has_no.Goals as goal

pub returns : goal.returns
returns c = decides_no c.contains.result c.args.octet c.args.octets.now c.contains.ensures.value
