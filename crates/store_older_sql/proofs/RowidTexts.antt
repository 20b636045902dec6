-- The text that reads the entries in the order of their rowids.
use Rattle.std.proofs.Common.{[], ◌∷◌, codes, None, refl, lit≤}
use Rattle.sqlite.specs.Compile.{first}
use Rattle.sqlite_tied.specs.Compute.{everything}
use Rattle.sqlite_resolve.specs.Lowering.{nothing}
use Rattle.sqlite_syntax.specs.declared.statement.Parsed.{Parsed}
use Rattle.store_sql.proofs.ReadFaults.{Takes, nothing as no_values}
use Rattle.store_tables.proofs.ReadLemmas.{rowid_expr, rowid_shown, all_shown, source_of, core_with, select_with}
use Rattle.store_sql.proofs.ReadTexts.{ReadsTable, reads_table, sort_by, key_at}
use Rattle.store_tables.proofs.TextLemmas.{parsed_or}
use Rattle.store_tables.specs.Keyed.{entry_with_keys, old_entry}
use Rattle.store_older_sql.specs.Entries.{entry_rowid_text}

unfoldable pub read_by_rowid : Parsed
unfolding everything
read_by_rowid = parsed_or (first entry_rowid_text)

pub reads_shown_by_rowid : ReadsTable entry_rowid_text read_by_rowid entry_with_keys None [] 99999 (sort_by (codes "1") ∷ []) (key_at 0 ∷ []) (0 ∷ []) 99997 nothing
unfolding everything read_by_rowid rowid_expr rowid_shown all_shown source_of core_with select_with sort_by
reads_shown_by_rowid = reads_table refl (λ tree. refl) refl (λ tree. refl) (λ at tree. refl) (λ at tree. refl)
    (λ schema at tree is. refl) (λ schema at tree. refl) (λ at tree params r. refl) (λ tree params r. refl) (λ a b. refl) (λ schema at tree alone low. rw (low, alone) refl)

pub takes_shown_by_rowid : Takes entry_rowid_text read_by_rowid entry_with_keys [] (key_at 0 ∷ []) no_values
unfolding everything read_by_rowid
takes_shown_by_rowid = record { whole = lit≤ tt; names = λ x. refl; typed = λ schema at tree alone low x. rw (low, alone) refl }

pub reads_old_by_rowid : ReadsTable entry_rowid_text read_by_rowid old_entry None [] 99999 (sort_by (codes "1") ∷ []) (key_at 0 ∷ []) (0 ∷ []) 99997 nothing
unfolding everything read_by_rowid rowid_expr rowid_shown all_shown source_of core_with select_with sort_by
reads_old_by_rowid = reads_table refl (λ tree. refl) refl (λ tree. refl) (λ at tree. refl) (λ at tree. refl)
    (λ schema at tree is. refl) (λ schema at tree. refl) (λ at tree params r. refl) (λ tree params r. refl) (λ a b. refl) (λ schema at tree alone low. rw (low, alone) refl)

pub takes_old_by_rowid : Takes entry_rowid_text read_by_rowid old_entry [] (key_at 0 ∷ []) no_values
unfolding everything read_by_rowid
takes_old_by_rowid = record { whole = lit≤ tt; names = λ x. refl; typed = λ schema at tree alone low x. rw (low, alone) refl }
