-- The texts that read entries read them row by row.
use Rattle.std.proofs.Common.{true, refl}
use Rattle.store_tables.specs.Effects.{equals_number}
use Rattle.store_sql.proofs.ReadFaults.{a_number, nothing}
use Rattle.store_sql.proofs.ScanLemmas.{ReadsScan, selection_scan}
use Rattle.store_tables.specs.Keyed.{entry_with_keys, old_entry}
use Rattle.store_older_sql.specs.Entries.{entry_rowid_text, entry_select_text}
use Rattle.store_older_sql.specs.Scans.{OlderScan, older_query}
use Rattle.store_older_sql.specs.Scans.OlderScan.{ShownByRowid, ShownOf, OldByRowid, OldOf}
use Rattle.store_older_sql.proofs.EntryTexts.{read_select, reads_select, takes_select, old_read, selects_shown, takes_shown, shown_read}
use Rattle.store_older_sql.proofs.RowidTexts.{read_by_rowid, reads_shown_by_rowid, takes_shown_by_rowid, reads_old_by_rowid, takes_old_by_rowid}

pub reads : (what : OlderScan) → ReadsScan (older_query what)
reads ShownByRowid = selection_scan entry_rowid_text read_by_rowid entry_with_keys _ _ _ _ _ _ _ _ reads_shown_by_rowid nothing takes_shown_by_rowid tt (λ tree. refl) (λ _. true) (λ tree row. refl)
reads (ShownOf n) = selection_scan entry_select_text read_select entry_with_keys _ _ _ _ _ _ _ _ selects_shown a_number takes_shown n (λ tree. refl) (equals_number 1 n) (λ tree row. shown_read tree n row)
reads OldByRowid = selection_scan entry_rowid_text read_by_rowid old_entry _ _ _ _ _ _ _ _ reads_old_by_rowid nothing takes_old_by_rowid tt (λ tree. refl) (λ _. true) (λ tree row. refl)
reads (OldOf n) = selection_scan entry_select_text read_select old_entry _ _ _ _ _ _ _ _ reads_select a_number takes_select n (λ tree. refl) (equals_number 1 n) (λ tree row. old_read tree n row)
