-- Why nothing comes of a transaction.
use Rattle.std.specs.Prelude.{◌≡◌, ◌⊎◌, true, IsTrue, List}
use Rattle.sqlite.specs.Effect.{Database}
use Rattle.sqlite.specs.State.{State, Survives, Fails, IsRolledBack}
use Rattle.sqlite.specs.Held.{Held, state}
use Rattle.sqlite.specs.declared.error.Error.{Error}
use Rattle.sqlite_trees.specs.declared.store.Store.{Ghosts}
use Rattle.store_sql.specs.Statements.{Statement, RunInTurn, FailsInTurn}
use Rattle.dict_desk.specs.declared.fault.Fault.{Fault}
use Rattle.dict_desk.specs.declared.fault.Fault.TheVariants.{Refused, Memory, Disk, Closed, NotACatalogue, Damaged, NewerSchema}
use Rattle.store_holdings.specs.Faults.{fault_of}

-- what was committed is so still, and shown if it was before, while the store is open
pub record StaysCommitted (old new : State) : Type 0 where
  pub was_open : IsTrue new.is_open → IsTrue old.is_open
  pub committed : IsTrue new.is_open → new.committed ≡ old.committed
  pub settled : IsTrue new.is_open → old.now ≡ old.committed → new.now ≡ new.committed

module _ {S : Type 0} (g : Ghosts S) where
  -- A transaction was begun, and a part of it failed within it; then it was rolled back. The fault is what the error is told as.
  pub record FailsBefore {E : Type 0} (tell : E → Fault) (FailsWithin : Held S → Held S → E → Type 0) (old new : Held S) (fault : Fault) : Type 0 where
    pub error : E
    pub told : fault ≡ tell error
    pub last : Held S
    pub within : FailsWithin (record old { in_transaction = true }) last error
    pub after : Survives (state g last) (state g new) (λ _. ⊥)
    pub undone : IsRolledBack (state g last) (state g new)

  -- A transaction was begun, and all of it ran, so that P holds of the database; then its commit failed, for whatever cause. The
  -- fault is `Disk`.
  pub record FailsAtLast (Runs : Held S → Held S → Type 0) (P : Database → Type 0) (old new : Held S) (fault : Fault) : Type 0 where
    pub told : fault ≡ Disk
    pub last : Held S
    pub ran : Runs (record old { in_transaction = true }) last
    pub before : Survives (state g old) (state g last) (λ _. ⊥)
    pub written : P (state g last).now
    pub error : Error
    pub fails : Fails (state g last) (state g new) ⊥ error

  -- either
  abbrev pub TransactionFailsToEnd : {E : Type 0} → (E → Fault) → (Held S → Held S → E → Type 0) → (Held S → Held S → Type 0) → (Database → Type 0) → Held S → Held S → Fault → Type 0
  TransactionFailsToEnd tell FailsWithin Runs P old new fault = FailsBefore tell FailsWithin old new fault ⊎ FailsAtLast Runs P old new fault

  -- A transaction was begun, and one of these statements failed, where those before it had done what they say, and it was rolled
  -- back; or they all did, so that P holds of the database, and its commit failed.
  abbrev pub FailsToEnd : List Statement → (Database → Type 0) → Held S → Held S → Fault → Type 0
  FailsToEnd statements P = TransactionFailsToEnd fault_of (FailsInTurn g statements) (RunInTurn g statements) P

-- a fault of a creation
abbrev pub IsOfCreation : Fault → Type 0
IsOfCreation (Refused refusal) = ⊥
IsOfCreation Memory = Unit {0}
IsOfCreation Disk = Unit {0}
IsOfCreation Closed = ⊥
IsOfCreation NotACatalogue = Unit {0}
IsOfCreation Damaged = ⊥
IsOfCreation NewerSchema = ⊥
