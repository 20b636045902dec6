use Rattle.store_rows.specs.Stored.{stored_line}
use Rattle.store_rows.proofs.ColumnLemmas.{lacks_no_cut}
use Rattle.store_rows.proofs.StoredLemmas.{first_is}
use Rattle.store_rows.proofs.reading.first_line.Goals as goal

pub returns-in_default : goal.returns-in_default
returns-in_default c said rest storable e = lacks_no_cut 10 c.args.octets.now (stored_line said) rest c.in_default.ensures e

pub returns-in_default-said_of : goal.returns-in_default-said_of
returns-in_default-said_of c said rest storable e =
    c.in_default-said_of.ensures said storable (first_is c.args.octets.now _ _ rest said c.in-Some.ensures storable e).0
