-- What takes the records of the tables, and what was taken.
use Rattle.std.specs.Prelude.{◌≡◌, ℕ, ℤ, List, ◌++◌, map, String, Vec}
use Rattle.std.specs.declared.alloc.Global.{Global}
use Rattle.sqlite.specs.Order.{Row, column}
use Rattle.sqlite.specs.declared.types.Value.TheVariants.{Int}
use Rattle.sqlite.specs.Effect.{Database}
use Rattle.store_sql.specs.Encodings.{stored_kept}
use Rattle.store_scans.specs.Cursors.{IsScannedToEnd, IsFrontOfScan}
use Rattle.store_scans.specs.Cursors.Cursor.{InStore}
use Rattle.store_sql.specs.Streams.Scan.{KeptById}
use Rattle.store_tables.specs.declared.records as typed
use Rattle.store_tables.specs.declared.records.StoredRow.{StoredRow}
use Rattle.dict_catalogue.specs.WellFormed.{IsEachOnce}
use Rattle.store_rows.specs.Tables.{Tables}
use Rattle.store_rows.specs.Given.{kept_given}
use Rattle.store_rows.specs.Taken.{HasTaken, StandsForNone}
use Rattle.store_rows.specs.Whole.{with_replies}
use Rattle.store_rows.specs.Order.{InOrder}
use Rattle.store_rows.specs.Apart.{HasTakenIds, HasTakenRowids, HaveApartNeighbours}
use Rattle.store_rows.specs.declared.reader.Reader.{Reader}
use Rattle.store_rows.specs.declared.apart.IdReader.{IdReader}
use Rattle.store_rows.specs.declared.apart.RowidReader.{RowidReader}

abbrev pub EditionRow : Type 0
EditionRow = StoredRow (typed.EditionRecord.EditionRecord (String Global) (Vec ℕ Global))

abbrev pub KeptRow : Type 0
KeptRow = StoredRow (typed.KeptRecord.KeptRecord (String Global))

-- ---- rowids

-- the rowids of rows
abbrev pub AreRowids : {R : Type 0} → (R → Row) → List R → List ℤ → Type 0
AreRowids stored given ids = map (λ r. column (stored r) 0) given ≡ map Int ids

abbrev pub takes_rowids : {R : Type 0} → (R → Row) → RowidReader → List R → RowidReader → Type 0
takes_rowids stored first given last = (ids : List ℤ) × AreRowids stored given ids × ((before : List ℤ) → HasTakenRowids first before → HasTakenRowids last (before ++ ids))

abbrev pub refuses_rowids : {R : Type 0} → (R → Row) → RowidReader → List R → Type 0
refuses_rowids stored first given = (ids : List ℤ) × AreRowids stored given ids × ((before : List ℤ) → HasTakenRowids first before → InOrder (λ a b. a ≡ b → ⊥) (before ++ ids) → ⊥)

-- ---- the kept replies

abbrev pub takes_replies : Reader → List KeptRow → Reader → Type 0
takes_replies first given last = (version : ℕ) (taken : Tables) → HasTaken version first taken → HasTaken version last (with_replies taken (kept_given given))

abbrev pub refuses_replies : Reader → List KeptRow → Type 0
refuses_replies first given = (version : ℕ) (taken : Tables) → HasTaken version first taken → StandsForNone version (with_replies taken (kept_given given))

-- ---- ids

abbrev pub ids_given : List KeptRow → List (List ℕ)
ids_given rows = map (λ row. row.id) (kept_given rows)

abbrev pub takes_ids : IdReader → List KeptRow → IdReader → Type 0
takes_ids first given last = (before : List (List ℕ)) → HasTakenIds first before → HasTakenIds last (before ++ ids_given given)

abbrev pub refuses_ids : IdReader → List KeptRow → Type 0
refuses_ids first given = (before : List (List ℕ)) → HasTakenIds first before → IsEachOnce (before ++ ids_given given) → ⊥

-- the kept replies in the order of their ids, no two of which are the same
abbrev pub HasIdsApart : Database → Type 0
HasIdsApart db = (given : List KeptRow) × IsScannedToEnd (InStore KeptById) db (map stored_kept given) × HaveApartNeighbours (ids_given given)

-- the kept replies begin with such of which two have one id
abbrev pub HasIdTwice : Database → Type 0
HasIdTwice db = (given : List KeptRow) × IsFrontOfScan (InStore KeptById) db (map stored_kept given) × (IsEachOnce (ids_given given) → ⊥)
