-- The rows of a table whose rows are those of editions.
use Rattle.std.specs.Prelude.{◌≡◌, ◌⊎◌, ◌&&◌, ◌||◌, ℕ, ℤ, pos, Bool, true, false, if◌then◌else◌, List, [], ◌∷◌, ◌++◌, map, codes, IsPermutation}
use Rattle.std.specs.List.{AllByRecursion, list_any}
use Rattle.sqlite.specs.Order.{Row}
use Rattle.sqlite.specs.Effect.{Database}
use Rattle.store_tables.specs.Effects.{HasApartRowids, rows_of, equals_number}
use Rattle.store_sql.specs.PartRecords.{stored_part}
use Rattle.store_sql.specs.declared.part_records.StoredPart.{StoredPart}
use Rattle.store_rows.specs.Versions.{Layout, Plain, Keyed, Shown, Parted}
use Rattle.store_sql.specs.Readings.{TableReading, contents}
use Rattle.store_scans.specs.Takers.{takes_rowids, refuses_rowids}
use Rattle.store_scans.specs.declared.census.Census.{Census}
use Rattle.store_scans.specs.declared.census.PartCensus.{PartCensus}
use Rattle.store_scans.specs.declared.census.EditionTable.{EditionTable}
use Rattle.store_scans.specs.declared.census.EditionTable.TheVariants as typed

-- the number of the row's edition is one of these
abbrev pub one_of : List ℤ → Row → Bool
one_of numbers row = list_any (λ n. equals_number 1 n row) numbers

-- a part is one of the index, or of the text
abbrev pub is_in_file : Row → Bool
is_in_file row = equals_number 2 (pos 0) row || equals_number 2 (pos 1) row

-- it is so, and one of an edition that has one of these numbers
abbrev pub is_known_part : List ℤ → Row → Bool
is_known_part numbers row = one_of numbers row && is_in_file row

-- Beside the editions with these numbers, the part may stand: one of such a number is of the index or of the text. One of another number
-- is an orphan, and may stand where there may be orphans.
abbrev pub may_stand : (may_have_orphans : Bool) → List ℤ → Row → Bool
may_stand may_have_orphans numbers row = if one_of numbers row then is_in_file row else may_have_orphans

-- the row is one of what is kept of the entries of the editions with these numbers: a row of an entry, or a part of a file
abbrev pub is_of_contents : Layout → List ℤ → Row → Bool
is_of_contents Plain numbers = one_of numbers
is_of_contents Keyed numbers = one_of numbers
is_of_contents Shown numbers = one_of numbers
is_of_contents Parted numbers = is_known_part numbers

-- The row may stand in the table of what is kept of the entries, beside the editions with these numbers.
abbrev pub may_be_in_contents : (may_have_orphans : Bool) → Layout → List ℤ → Row → Bool
may_be_in_contents may_have_orphans Plain numbers = one_of numbers
may_be_in_contents may_have_orphans Keyed numbers = one_of numbers
may_be_in_contents may_have_orphans Shown numbers = one_of numbers
may_be_in_contents may_have_orphans Parted numbers = may_stand may_have_orphans numbers

-- no two rows of the table have one rowid, and each passes the test
pub record AreKnownApart (test : Row → Bool) (name : List ℕ) (db : Database) : Type 0 where
  pub apart : HasApartRowids (rows_of name db)
  pub known : AllByRecursion (λ row. test row ≡ true) (rows_of name db)

-- each is of an edition that has one of these numbers
abbrev pub AreNumberedApart : List ℤ → List ℕ → Database → Type 0
AreNumberedApart numbers name db = AreKnownApart (one_of numbers) name db

-- the rows of the parts are those of these parts
abbrev pub HasPartRows : Database → Type 0
HasPartRows db = (given : List StoredPart) × IsPermutation (rows_of (codes "dictcat_part") db) (map stored_part given)

-- what is read of the table
abbrev pub reading_of : EditionTable → TableReading
reading_of typed.PlainEntry = contents Plain
reading_of typed.OldEntry = contents Keyed
reading_of typed.ShownEntry = contents Shown

-- ---- as a taker tells it

pub record TakesCensus {R : Type 0} (stored : R → Row) (first : Census) (given : List R) (last : Census) : Type 0 where
  pub numbers : last.numbers.now ≡ first.numbers.now
  pub rowids : takes_rowids stored first.rowids given last.rowids
  pub known : AllByRecursion (λ r. one_of first.numbers.now (stored r) ≡ true) given

abbrev pub refuses_census : {R : Type 0} → (R → Row) → Census → List R → Type 0
refuses_census {R} stored first given =
    refuses_rowids stored first.rowids given
    ⊎ ((front : List R) × (next : R) × (given ≡ front ++ next ∷ []) × (one_of first.numbers.now (stored next) ≡ false))

pub record TakesPartCensus (first : PartCensus) (given : List StoredPart) (last : PartCensus) : Type 0 where
  pub numbers : last.numbers.now ≡ first.numbers.now
  pub orphans : last.may_have_orphans ≡ first.may_have_orphans
  pub rowids : takes_rowids stored_part first.rowids given last.rowids
  pub known : AllByRecursion (λ r. may_stand first.may_have_orphans first.numbers.now (stored_part r) ≡ true) given

abbrev pub refuses_part_census : PartCensus → List StoredPart → Type 0
refuses_part_census first given =
    refuses_rowids stored_part first.rowids given
    ⊎ ((front : List StoredPart) × (next : StoredPart) × (given ≡ front ++ next ∷ []) × (may_stand first.may_have_orphans first.numbers.now (stored_part next) ≡ false))
