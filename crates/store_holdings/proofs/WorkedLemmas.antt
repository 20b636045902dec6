-- The parts of a small catalogue, worked by hand.
use Rattle.std.proofs.Common.{◌≡◌, refl}
use Rattle.store_rows.specs.Spelling.{spelling}
use Rattle.store_rows.specs.Stored.{stored_line}
use Rattle.store_rows.specs.Parts.{parts_of}
use Rattle.store_rows.specs.Worked.{worked_tables}
use Rattle.store_holdings.specs.Files.{all_parts}
use Rattle.store_holdings.specs.Worked.{worked_parts}

pub worked : all_parts worked_tables ≡ worked_parts
unfolding parts_of stored_line spelling
worked = refl
