use Rattle.std.proofs.Common.{refl}
use Rattle.dict_catalogue.proofs.WellFormedLemmas.{empty_well_formed}
use Rattle.store_rows.proofs.laws.empty_records.Goals as goal

pub returns : goal.returns
returns c = λ version. record { well_formed = empty_well_formed; marks = refl; items = refl; members = tt; owners = tt; editions = tt; numbers = tt; entries = tt; kept = refl }
