-- The parts that a file of an edition is kept in, as records; and the numbers of records.
use Rattle.std.specs.Prelude.{ℕ, ℤ, pos, negsuc, List}
use Rattle.store_tables.specs.Records.{Part}
use Rattle.store_rows.specs.Parts.{parts_of}
use Rattle.store_rows.specs.Written.{numbered}

-- a number that isn't negative; a negative one counts as 0
abbrev pub natural : ℤ → ℕ
natural (pos n) = n
natural (negsuc n) = 0

abbrev pub part_at : ℤ → ℤ → ℕ → List ℕ → Part
part_at edition file number octets = record { edition = edition; file = file; number = pos number; octets = octets }

-- the parts of a file of an edition, numbered from 0
abbrev pub file_parts : ℤ → ℤ → List ℕ → List Part
file_parts edition file octets = numbered (part_at edition file) 0 (parts_of octets)
