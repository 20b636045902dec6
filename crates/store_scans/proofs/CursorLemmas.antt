-- Whatever is read row by row is read by its query.
use Rattle.store_sql.proofs.ScanLemmas.{ReadsScan}
use Rattle.store_sql.proofs.StreamLemmas as store
use Rattle.store_sql.proofs.PartReadTexts as parts
use Rattle.store_sql.proofs.HeaderReadTexts as headers
use Rattle.store_sql.specs.PartScans.PartScan.{OfFile, ByRowid as PartByRowid}
use Rattle.store_older_sql.specs.Scans.OlderScan.{ShownOf, ShownByRowid, OldOf, OldByRowid}
use Rattle.store_older_sql.proofs.ScanLemmas as older
use Rattle.store_scans.specs.Cursors.{Cursor, cursor_query}
use Rattle.store_scans.specs.Cursors.Cursor.{InStore, ShownEntriesOf, ShownEntriesByRowid, OldEntriesOf, OldEntriesByRowid, PartsOf, PartsByRowid, HeadersByRowid}

pub reads : (what : Cursor) → ReadsScan (cursor_query what)
reads (InStore scan) = store.reads scan
reads (ShownEntriesOf edition) = older.reads (ShownOf edition)
reads ShownEntriesByRowid = older.reads ShownByRowid
reads (OldEntriesOf edition) = older.reads (OldOf edition)
reads OldEntriesByRowid = older.reads OldByRowid
reads (PartsOf edition file) = parts.reads (OfFile edition file)
reads PartsByRowid = parts.reads PartByRowid
reads HeadersByRowid = headers.reads
