-- Why a reading fails that tells of no damage.
use Rattle.std.proofs.Common.{◌≡◌, ◌≤◌, ℕ, Bool, true, false, cond, inl, inr, List, [], ◌∷◌, ◌++◌, map, filter, length, codes, sym, subst, ◌∙◌, arith}
use Rattle.std.specs.Prelude.{Result, IfErr, IsErrAnd, IsSome}
use Rattle.std.proofs.lemmas.List.{length-map, length-append}
use Rattle.std.proofs.lemmas.List.Sorted.{length_permutation}
use Rattle.sqlite.specs.Order.{Row}
use Rattle.sqlite.specs.Effect.{Database}
use Rattle.sqlite.specs.State.{State, Survives, HasCause, store_error}
use Rattle.sqlite.specs.Held.{Held, state}
use Rattle.sqlite.specs.declared.error.Error.{Error}
use Rattle.sqlite_trees.specs.declared.store.Store.{Ghosts}
use Rattle.sqlite_trees.specs.declared.error.StoreError.{StoreError}
use Rattle.sqlite_trees.specs.declared.error.StoreError.TheVariants.{OutOfMemory, Io, Corrupt, Full, Broken, Unstorable}
use Rattle.store_tables.specs.Tables.{table_of}
use Rattle.store_tables.specs.declared.tables.StoreTable.TheVariants.{Edition, Entry, Kept}
use Rattle.store_sql.specs.Columns.{Content}
use Rattle.store_sql.specs.Reads.{IsListing, IsSelection, rowid_and_number}
use Rattle.store_sql.specs.ChosenParts.{is_of_file}
use Rattle.store_sql.specs.Streams.{FailsToMove}
use Rattle.store_scans.specs.Cursors.{Cursor, CursorHasGiven, IsScannedToEnd, IsFrontOfScan}
use Rattle.store_scans.specs.Cursors.Cursor.{InStore, ShownEntriesOf, ShownEntriesByRowid, OldEntriesOf, OldEntriesByRowid, PartsOf, PartsByRowid, HeadersByRowid}
use Rattle.store_scans.proofs.CursorLemmas.{reads}
use Rattle.store_sql.proofs.ScanLemmas.{fails_to_advance}
use Rattle.store_sql.specs.Streams.Scan.{EntriesOf, AllKept, KeptById, ByRowid, EditionNumbers}
use Rattle.store_tables.specs.Effects.{rows_of, equals_number, FailsToRead}
use Rattle.store_sql.specs.declared.records.ReadError.{ReadError}
use Rattle.store_sql.specs.declared.records.ReadError.TheVariants.{NoRecord, Store}
use Rattle.store_sql.proofs.StreamLemmas.{passed_on}
use Rattle.store_rows.specs.declared.fault.RowsFault.{RowsFault}
use Rattle.store_rows.specs.declared.fault.RowsFault.TheVariants as rows
use Rattle.store_scans.specs.declared.fault.ReadingFault.{ReadingFault}
use Rattle.store_scans.specs.declared.fault.ReadingFault.TheVariants.{Damaged, Memory, Disk}
use Rattle.store_scans.specs.Reading.{Same, StaysUnlessShut, IsVast, IsExcusedReading, fault_of_store, reading_fault_of, fault_of_rows}
use Rattle.store_scans.proofs.StateLemmas.{same_as, same_stays, failed_stays}

by_cause : (old new : State) (cause : StoreError) → HasCause old new ⊥ cause → IsExcusedReading old new (fault_of_store (store_error cause))
by_cause old new OutOfMemory h = tt
by_cause old new Io h = inl h
by_cause old new Corrupt h = inl h
by_cause old new Full h = inl h
by_cause old new Broken h = inr (inl h)
by_cause old new Unstorable h = absurd h

pub store_cause : (old new : State) (e : Error) → FailsToRead old new e → IsExcusedReading old new (fault_of_store e)
store_cause old new e (inl fails) = subst (λ e. IsExcusedReading old new (fault_of_store e)) (sym fails.1) (by_cause old new fails.0 fails.2)
store_cause old new e (inr limit) = subst (λ e. IsExcusedReading old new (fault_of_store e)) (sym limit.0) (inr (inr (inl limit.1)))

pub told_cause : (old new : State) (e : Error) (fault : ReadingFault) → fault ≡ fault_of_store e → FailsToRead old new e → IsExcusedReading old new fault
told_cause old new e fault is failed = subst (IsExcusedReading old new) (sym is) (store_cause old new e failed)

pub next_cause : {S : Type 0} (g : Ghosts S) (columns : List Content) (what : Cursor) (old new : Held S) (given : List Row) (e : ReadError) → CursorHasGiven g what old given → FailsToMove g columns old new e
    → IsExcusedReading (state g old) (state g new) (reading_fault_of e)
next_cause g columns what old new given NoRecord h m = tt
next_cause g columns what old new given (Store e) h (inl fails) = store_cause (state g old) (state g new) e (fails_to_advance (reads what) g old new given e h fails.0)
next_cause g columns what old new given (Store e) h (inr refused) = subst (λ e. IsExcusedReading (state g old) (state g new) (fault_of_store e)) (sym refused.0) tt

pub rows_cause : (old new : State) (fault : RowsFault) → IsExcusedReading old new (fault_of_rows fault)
rows_cause old new rows.Damaged = tt
rows_cause old new rows.Memory = tt

-- after a call that has read, and changed nothing
pub cause_then : (old mid new : State) → Survives old mid (λ _. ⊥) → Same old mid → (fault : ReadingFault) → IsExcusedReading mid new fault → IsExcusedReading old new fault
cause_then old mid new survives same Damaged h = tt
cause_then old mid new survives same Memory h = tt
cause_then old mid new survives same Disk (inl more) = inl (let fewer = survives.counts in omega (arith, fewer, more))
cause_then old mid new survives same Disk (inr (inl shut)) = inr (inl (sym same.is_open ∙ shut))
cause_then old mid new survives same Disk (inr (inr (inl limit))) = inr (inr (inl (subst IsSome survives.limit limit)))
cause_then old mid new survives same Disk (inr (inr (inr vast))) = inr (inr (inr (subst IsVast same.now vast)))

-- ---- a scan that has given so many rows is of a table with no fewer

few_passed : (test : Row → Bool) (xs : List Row) → length (filter test xs) ≤ length xs
few_passed test [] = omega arith
few_passed test (x ∷ xs) = by_test (test x) (few_passed test xs)
  where
    by_test : (b : Bool) → length (filter test xs) ≤ length xs → length (cond b (x ∷ filter test xs) (filter test xs)) ≤ length (x ∷ xs)
    by_test true few = omega (arith, few)
    by_test false few = omega (arith, few)

-- those of a query that shows some rows of a table, or all of them
selected_vast : (name : List ℕ) (test : Row → Bool) (order : List ℕ) (db : Database) (rows : List Row) → IsSelection name test order db rows → 18446744073709551615 ≤ length rows → 18446744073709551615 ≤ length (rows_of name db)
selected_vast name test order db rows whole many = let size = length_permutation (filter test (rows_of name db)) rows whole.same in let few = few_passed test (rows_of name db) in omega (arith, size, few, many)

listed_vast : (name : List ℕ) (order : List ℕ) (db : Database) (rows : List Row) → IsListing name order db rows → 18446744073709551615 ≤ length rows → 18446744073709551615 ≤ length (rows_of name db)
listed_vast name order db rows whole many = let size = length_permutation (rows_of name db) rows whole.same in omega (arith, size, many)

whole_vast : (what : Cursor) (db : Database) (rows : List Row) → IsScannedToEnd what db rows → 18446744073709551615 ≤ length rows → IsVast db
whole_vast (InStore (EntriesOf number)) db rows whole many = inl (Entry, selected_vast (codes "entry") (equals_number 1 number) (2 ∷ []) db rows whole many)
whole_vast (InStore AllKept) db rows whole many = inl (Kept, listed_vast (codes "kept") (2 ∷ []) db rows whole many)
whole_vast (InStore KeptById) db rows whole many = inl (Kept, listed_vast (codes "kept") (1 ∷ []) db rows whole many)
whole_vast (InStore (ByRowid table)) db rows whole many = inl (table, listed_vast (table_of table 0).name (0 ∷ []) db rows whole many)
whole_vast (InStore EditionNumbers) db rows whole many =
    inl (Edition, let size = length_permutation (map rowid_and_number (rows_of (codes "edition") db)) rows whole.same in let each = length-map (rows_of (codes "edition") db) rowid_and_number in omega (arith, size, each, many))
whole_vast (ShownEntriesOf edition) db rows whole many = inl (Entry, selected_vast (codes "entry") (equals_number 1 edition) (2 ∷ []) db rows whole many)
whole_vast ShownEntriesByRowid db rows whole many = inl (Entry, selected_vast (codes "entry") (λ _. true) (0 ∷ []) db rows whole many)
whole_vast (OldEntriesOf edition) db rows whole many = inl (Entry, selected_vast (codes "entry") (equals_number 1 edition) (2 ∷ []) db rows whole many)
whole_vast OldEntriesByRowid db rows whole many = inl (Entry, selected_vast (codes "entry") (λ _. true) (0 ∷ []) db rows whole many)
whole_vast (PartsOf edition file) db rows whole many = inr (selected_vast (codes "dictcat_part") (is_of_file edition file) (3 ∷ []) db rows whole many)
whole_vast PartsByRowid db rows whole many = inr (selected_vast (codes "dictcat_part") (λ _. true) (0 ∷ []) db rows whole many)
whole_vast HeadersByRowid db rows whole many = inl (Edition, listed_vast (codes "edition") (0 ∷ []) db rows whole many)

pub front_vast : (what : Cursor) (db : Database) (rows : List Row) → IsFrontOfScan what db rows → 18446744073709551615 ≤ length rows → IsVast db
front_vast what db rows front many = whole_vast what db (rows ++ front.0) front.1 (let size = length-append rows front.0 in omega (arith, size, many))

-- ---- as the calls tell it

pub cause_passed : {X : Type 0} (old new : State) (fault : ReadingFault) (result : Result X ReadingFault) → IsErrAnd result (λ f. f ≡ fault) → IsExcusedReading old new fault → IfErr result (IsExcusedReading old new)
cause_passed old new fault result is h = passed_on (IsExcusedReading old new) fault result is h

-- what a row that isn't given leaves
pub move_stays : {S : Type 0} (g : Ghosts S) (columns : List Content) (what : Cursor) (old new : Held S) (given : List Row) (e : ReadError) → CursorHasGiven g what old given → FailsToMove g columns old new e
    → StaysUnlessShut (state g old) (state g new)
move_stays g columns what old new given NoRecord h (row, same, moved, none) = same_stays (state g old) (state g new) (same_as (state g old) (state g new) same)
move_stays g columns what old new given (Store e) h (inl fails) = failed_stays (state g old) (state g new) e (fails_to_advance (reads what) g old new given e h fails.0)
move_stays g columns what old new given (Store e) h (inr (refused, row, same, moved)) = same_stays (state g old) (state g new) (same_as (state g old) (state g new) same)
