-- What follows where a record of a scan isn't taken.
use Rattle.std.proofs.Common.{◌≡◌, List, [], ◌∷◌, ◌++◌, map, Some, inr, sym, subst}
use Rattle.std.proofs.lemmas.List.{map-append}
use Rattle.sqlite.specs.Order.{Row}
use Rattle.sqlite.specs.Effect.{Database}
use Rattle.sqlite.specs.State.{IsUnchanged}
use Rattle.sqlite.specs.Held.{Held, state}
use Rattle.sqlite_trees.specs.declared.store.Store.{Ghosts}
use Rattle.store_sql.specs.Columns.{Content}
use Rattle.store_scans.specs.Cursors.{Cursor, CursorHasGiven, IsFrontOfScan}
use Rattle.store_scans.proofs.CursorLemmas.{reads}
use Rattle.store_sql.proofs.ScanLemmas.{gives_on}
use Rattle.store_sql.specs.Streams.{FailsToMove}
use Rattle.store_sql.specs.declared.records.ReadError.{ReadError}
use Rattle.store_sql.specs.declared.records.ReadError.TheVariants.{NoRecord, Store}
use Rattle.sqlite.specs.declared.error.Error.{Error}
use Rattle.sqlite.specs.declared.error.Error.TheVariants.{SqliteFailure}
use Rattle.sqlite.specs.declared.error.ErrorCode.TheVariants as code
use Rattle.store_rows.specs.declared.fault.RowsFault.{RowsFault}
use Rattle.store_rows.specs.declared.fault.RowsFault.TheVariants as rows
use Rattle.store_scans.specs.declared.fault.ReadingFault.TheVariants.{Damaged}
use Rattle.store_scans.specs.Reading.{fault_of_store, reading_fault_of, fault_of_rows}
use Rattle.store_scans.specs.Scans.{TakesSo, HasNoRecordIn, IsWrong}

pub rows_damaged : (fault : RowsFault) → fault_of_rows fault ≡ Damaged → fault ≡ rows.Damaged
rows_damaged rows.Damaged e = cc
rows_damaged rows.Memory e = cc

pub refused_next : {S R T : Type 0} (g : Ghosts S) (stored : R → Row) (columns : List Content) (refuses : T → List R → Type 0) (what : Cursor) (first : T) (given : List R) (r : R) (old new : Held S) →
    IsUnchanged (state g old) (state g new) → CursorHasGiven g what new (map stored given ++ stored r ∷ []) → refuses first (given ++ r ∷ []) → IsWrong stored columns refuses what (state g old).now first
refused_next g stored columns refuses what first given r old new same gave wrong =
    inr (
      given ++ r ∷ [],
      subst (IsFrontOfScan what (state g old).now) (sym (map-append stored given (r ∷ [])))
          (subst (λ (d : Database). IsFrontOfScan what d (map stored given ++ stored r ∷ [])) same.0.now_is gave.front),
      wrong,
    )

-- ---- a row that is no record

no_damage : (e : Error) → fault_of_store e ≡ Damaged → ⊥
no_damage (SqliteFailure code.OutOfMemory) is = absurd (cc)
no_damage e is = absurd (cc)

pub no_record_next : {S R : Type 0} (g : Ghosts S) (stored : R → Row) (columns : List Content) (what : Cursor) (given : List R) (old new : Held S) (e : ReadError) → reading_fault_of e ≡ Damaged
    → CursorHasGiven g what old (map stored given) → FailsToMove g columns old new e → HasNoRecordIn stored columns what (state g old).now
no_record_next g stored columns what given old new NoRecord is h (row, same, moved, none) =
    let gave = gives_on (reads what) g old new (map stored given) (Some row) same h moved in
    (given, row, subst (λ (d : Database). IsFrontOfScan what d (map stored given ++ row ∷ [])) same.0.now_is gave.front, none)
no_record_next g stored columns what given old new (Store e) is h moved = absurd (no_damage e is)

pub taken_more : {S R T : Type 0} (g : Ghosts S) (stored : R → Row) (takes : T → List R → T → Type 0) (what : Cursor) (first : T) (given : List R) (r : R) (new : Held S) (last : T)
    → CursorHasGiven g what new (map stored given ++ stored r ∷ []) → takes first (given ++ r ∷ []) last → TakesSo g stored takes what first (given ++ r ∷ []) new last
taken_more g stored takes what first given r new last gave taken = record { given_are = subst (CursorHasGiven g what new) (sym (map-append stored given (r ∷ []))) gave; taken = taken }
