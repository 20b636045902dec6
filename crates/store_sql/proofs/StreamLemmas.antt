-- What follows of the rows of the tables without keys that are read one at a time.
use Rattle.std.proofs.Common.{◌≡◌, List, [], ◌∷◌, Ok, Err, Some, Result, IfErr, IsErrAnd, inr, refl, sym, subst}
use Rattle.std.proofs.lemmas.List.Sorted.{IsPermutation-sym, Contains-permutation}
use Rattle.std.specs.List.Sorted.{IsPermutation}
use Rattle.std.specs.List.{Contains}
use Rattle.sqlite.specs.Order.{Row}
use Rattle.sqlite.specs.State.{State, IsUnchanged}
use Rattle.sqlite.specs.Held.{Held, state}
use Rattle.sqlite.specs.Given as kit
use Rattle.sqlite_trees.specs.declared.store.Store.{Ghosts}
use Rattle.store_tables.specs.Tables.{entry, kept, table_of}
use Rattle.store_tables.proofs.TableLemmas.{name_is}
use Rattle.store_tables.specs.Effects.{equals_number}
use Rattle.store_sql.specs.Columns.{Content}
use Rattle.store_sql.specs.declared.records.ReadError.{ReadError}
use Rattle.store_sql.specs.declared.records.ReadError.TheVariants.{NoRecord, Store}
use Rattle.store_sql.specs.Reads.{FailsToList, FailsToDecode, FailsToDecodeAll, HasNoRecord, select_some_entries, select_kept, select_kept_by_id, select_by_rowid}
use Rattle.store_sql.specs.Streams.{Scan, scan_query, PassesRow, FailsToGive, FailsToMove}
use Rattle.store_sql.specs.Streams.Scan.{EntriesOf, AllKept, KeptById, ByRowid, EditionNumbers}
use Rattle.store_sql.proofs.NumberTexts.{read_numbers, numbers_of, query_numbers, takes_numbers, shows_numbering}
use Rattle.store_sql.proofs.ListingLemmas.{entry_read}
use Rattle.store_sql.proofs.ReadTexts.{key_at, read_some_entries, reads_some_entries, read_kept, reads_kept}
use Rattle.store_sql.proofs.ReadFaults.{nothing, a_number, takes_some_entries, takes_kept, read_kept_by_id, reads_kept_by_id, takes_kept_by_id, read_by_rowid, reads_by_rowid, takes_by_rowid}
use Rattle.store_sql.proofs.ScanLemmas.{ReadsScan, selection_scan, listing_scan}

pub reads : (what : Scan) → ReadsScan (scan_query what)
reads (EntriesOf n) = selection_scan select_some_entries read_some_entries entry _ _ _ _ _ _ _ _ reads_some_entries a_number takes_some_entries n (λ tree. refl) (equals_number 1 n) (λ tree row. entry_read tree n row)
reads AllKept = listing_scan select_kept read_kept kept _ _ _ _ _ _ _ _ reads_kept nothing takes_kept tt (λ tree. refl) (λ tree row. refl)
reads KeptById = listing_scan select_kept_by_id read_kept_by_id kept _ _ _ _ _ _ _ _ reads_kept_by_id nothing takes_kept_by_id tt (λ tree. refl) (λ tree row. refl)
reads (ByRowid t) = listing_scan (select_by_rowid t) (read_by_rowid t) (table_of t) _ _ _ _ _ _ _ _ (reads_by_rowid t) nothing (takes_by_rowid t) tt (name_is t) (λ tree row. refl)
reads EditionNumbers = record { parsed = read_numbers; outs = numbers_of; tests = []; order = key_at 0 ∷ []; is_query = query_numbers; takes = takes_numbers; shows = shows_numbering }

module _ {S : Type 0} (g : Ghosts S) (what : Scan) where
  pub fails_to_decode : (columns : List Content) (old new : Held S) (given : List Row) (row : Row) (e : ReadError) → PassesRow g what old new given row → FailsToDecode columns row e → FailsToGive g columns what old new given e
  fails_to_decode columns old new given row NoRecord passed none = (row, passed, none)
  fails_to_decode columns old new given row (Store e) passed refused = inr (refused, row, passed)

-- the next row is no record, or memory was refused for it
pub stops_at : {S : Type 0} (g : Ghosts S) (columns : List Content) (old new : Held S) (row : Row) (e : ReadError) → IsUnchanged (state g old) (state g new) → kit.Advances g old new (Some row) → FailsToDecode columns row e
    → FailsToMove g columns old new e
stops_at g columns old new row NoRecord same moved none = (row, same, moved, none)
stops_at g columns old new row (Store e) same moved refused = inr (refused, row, same, moved)

-- ---- rows that are no record, of a list that was read

pub no_record : (columns : List Content) (all rows : List Row) → IsPermutation all rows → HasNoRecord columns rows → HasNoRecord columns all
no_record columns all rows same h = (h.0, Contains-permutation rows all h.0 (IsPermutation-sym all rows same) h.1, h.2)

pub fails_to_read_into : {X : Type 0} (columns : List Content) (all rows : List Row) (old new : State) (result : Result X ReadError) → IsPermutation all rows → IsUnchanged old new → IfErr result (FailsToDecodeAll columns rows)
    → IfErr result (FailsToList columns all old new)
fails_to_read_into columns all rows old new (Ok x) same h gap = tt
fails_to_read_into columns all rows old new (Err NoRecord) same h gap = (h, no_record columns all rows same gap)
fails_to_read_into columns all rows old new (Err (Store e)) same h gap = inr (h, gap)

pub decode_all : (columns : List Content) (rows : List Row) (row : Row) (e : ReadError) → Contains rows row → FailsToDecode columns row e → FailsToDecodeAll columns rows e
decode_all columns rows row NoRecord has h = (row, has, h)
decode_all columns rows row (Store e) has h = h

-- an error that is passed on is that error
pub passed_on : {X E : Type 0} (P : E → Type 0) (e : E) (result : Result X E) → IsErrAnd result (λ f. f ≡ e) → P e → IfErr result P
passed_on P e (Ok x) h p = tt
passed_on P e (Err f) h p = subst P (sym h) p
