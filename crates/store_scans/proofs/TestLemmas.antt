-- What the tests of the tables tell.
use Rattle.std.proofs.Common.{◌⊎◌, List, [], inl, inr}
use Rattle.sqlite.specs.Effect.{Database}
use Rattle.sqlite.specs.Order.{Row}
use Rattle.store_tables.specs.Tables.{table_of}
use Rattle.store_tables.specs.declared.tables.StoreTable.{StoreTable}
use Rattle.store_sql.specs.Columns.{Content, kept_columns}
use Rattle.store_tables.specs.Effects.{HasApartRowids, rows_of}
use Rattle.store_sql.specs.Encodings.{stored_kept}
use Rattle.store_sql.specs.Streams.Scan.{ByRowid, KeptById}
use Rattle.store_scans.specs.Cursors.Cursor.{InStore}
use Rattle.store_rows.specs.Apart.{HasTakenIds, HasTakenRowids}
use Rattle.store_rows.specs.declared.apart.IdReader.{IdReader}
use Rattle.store_rows.specs.declared.apart.RowidReader.{RowidReader}
use Rattle.store_scans.specs.Scans.{TakesAll, HasNoRecordIn, IsWrong}
use Rattle.store_scans.specs.Takers.{refuses_rowids, takes_ids, refuses_ids, HasIdsApart, HasIdTwice}
use Rattle.store_scans.proofs.RowidLemmas.{rowids_wrong}

pub ids_whole : (db : Database) (first last : IdReader) → HasTakenIds first [] → TakesAll stored_kept takes_ids (InStore KeptById) db first last → HasIdsApart db
ids_whole db first last none h = (h.0, h.1, (h.2 [] none).apart)

pub ids_wrong : (db : Database) (first : IdReader) → HasTakenIds first [] → IsWrong stored_kept kept_columns refuses_ids (InStore KeptById) db first → HasNoRecordIn stored_kept kept_columns (InStore KeptById) db ⊎ HasIdTwice db
ids_wrong db first none (inl h) = inl h
ids_wrong db first none (inr h) = inr (h.0, h.1, h.2 [] none)

pub rowids_found : {R : Type 0} (stored : R → Row) (columns : List Content) (table : StoreTable) (db : Database) (first : RowidReader) → HasTakenRowids first []
    → IsWrong stored columns (refuses_rowids stored) (InStore (ByRowid table)) db first →
    HasNoRecordIn stored columns (InStore (ByRowid table)) db ⊎ (HasApartRowids (rows_of (table_of table 0).name db) → ⊥)
rowids_found stored columns table db first none (inl h) = inl h
rowids_found stored columns table db first none (inr h) = inr (rowids_wrong stored table db first none h)
