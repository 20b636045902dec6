-- The files of an edition, its index and its text, as their parts are read.
use Rattle.std.specs.Prelude.{◌≡◌, ℕ, ℤ, pos, List, ◌++◌, codes, map, drop, filter, length, IsPermutation}
use Rattle.sqlite.specs.Order.{Row}
use Rattle.sqlite.specs.Effect.{Database}
use Rattle.store_tables.specs.Effects.{rows_of}
use Rattle.store_sql.specs.ChosenParts.{is_of_file}
use Rattle.store_sql.specs.PartRecords.{part_row}
use Rattle.store_sql.specs.declared.part_records.StoredPart.{StoredPart}
use Rattle.store_rows.specs.Parts.{parts_of}
use Rattle.store_rows.specs.Versions.{Parted}
use Rattle.store_rows.specs.Written.{numbered}
use Rattle.store_rows.specs.FileParts.{file_parts}
use Rattle.store_sql.specs.Readings.{IsReadable, contents}

-- the rows of this file of the edition, without their rowids
abbrev pub file_rows : (number file : ℤ) → Database → List Row
file_rows number file db = map (drop 1) (filter (is_of_file number file) (rows_of (codes "dictcat_part") db))

-- they are those of the parts of these octets, which tell their order
abbrev pub HasFile : Database → (number file : ℤ) → List ℕ → Type 0
HasFile db number file octets = IsPermutation (map part_row (file_parts number file octets)) (file_rows number file db)

-- where each row stands for a part, they are those of no octets
abbrev pub HasNoFile : Database → (number file : ℤ) → Type 0
HasNoFile db number file = IsReadable (contents Parted) db → (octets : List ℕ) → HasFile db number file octets → ⊥

-- ---- as the joiner tells it

abbrev pub octets_of_part : StoredPart → List ℕ
octets_of_part row = row.part.octets.items

abbrev pub number_of_part : StoredPart → ℤ
number_of_part row = row.part.number

-- the parts have the numbers from this one on
abbrev pub AreNumbered : ℕ → List StoredPart → Type 0
AreNumbered first given = map number_of_part given ≡ numbered (λ n (row : StoredPart). pos n) first given

-- behind the octets of the first, the last has those of these parts, as its parts
pub record TakesParts (first : List ℕ) (given : List StoredPart) (last : List ℕ) : Type 0 where
  pub parts : parts_of last ≡ parts_of first ++ map octets_of_part given
  pub numbers : AreNumbered (length (parts_of first)) given

-- the parts of no file go on so
abbrev pub RefusesParts : List ℕ → List StoredPart → Type 0
RefusesParts first given = AreNumbered (length (parts_of first)) given → (file : List ℕ) (more : List (List ℕ)) → parts_of file ≡ parts_of first ++ (map octets_of_part given ++ more) → ⊥
