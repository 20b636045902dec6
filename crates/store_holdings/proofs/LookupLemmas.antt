-- Why a lookup fails, after one that changed nothing.
use Rattle.std.proofs.Common.{inl, inr, List, refl, sym, subst, ◌∙◌, arith}
use Rattle.std.specs.Prelude.{IsSome, ℕ}
use Rattle.std.specs.List.{AllByRecursion, Contains}
use Rattle.std.proofs.lemmas.Bool.{false≢true}
use Rattle.std.proofs.lemmas.List.Elements.{All-from_recursion}
use Rattle.sqlite.specs.Order.{Row}
use Rattle.sqlite.specs.Effect.{Database}
use Rattle.sqlite.specs.declared.error.Error.{Error}
use Rattle.sqlite.specs.State.{State, IsUnchanged, HasCause, Survives}
use Rattle.sqlite.proofs.Callers.{unchanged_then}
use Rattle.sqlite_trees.specs.declared.error.StoreError.{StoreError}
use Rattle.sqlite_trees.specs.declared.error.StoreError.TheVariants.{OutOfMemory, Io, Corrupt, Full, Broken, Unstorable}
use Rattle.store_sql.specs.Columns.{Content, HasColumns}
use Rattle.store_sql.specs.Reads.{FailsToList}
use Rattle.store_tables.specs.Effects.{FailsToRead}
use Rattle.store_sql.specs.declared.records.ReadError.{ReadError}
use Rattle.store_sql.specs.declared.records.ReadError.TheVariants.{NoRecord, Store}
use Rattle.dict_desk.specs.declared.fault.Fault.{Fault}
use Rattle.dict_desk.specs.declared.fault.Fault.TheVariants.{Refused, Memory, Disk, Closed, NotACatalogue, Damaged, NewerSchema}
use Rattle.store_holdings.specs.Searches.{fault_of, fault_of_read, IsEditionReadable, IsUnreadEdition, FailsToLookUp}

pub read_fails : (number : ℕ) (old new : State) (e : Error) → FailsToRead old new e → FailsToLookUp number old new (fault_of e)
read_fails number old new e (inl fails) = inr (e, refl, fails)
read_fails number old new e (inr limit) = inl (limit.2, subst (λ e. IsUnreadEdition number old (fault_of e)) (sym limit.0) (inl limit.1))

module _ (number : ℕ) (a b c : State) (same : IsUnchanged a b) (survives : Survives a b (λ _. ⊥)) where
  unread_behind : (fault : Fault) → IsUnreadEdition number b fault → IsUnreadEdition number a fault
  unread_behind (Refused refusal) h = h
  unread_behind Memory h = tt
  unread_behind Disk (inl limit) = inl (subst IsSome survives.limit limit)
  unread_behind Disk (inr none) = inr (subst (λ (db : Database). IsEditionReadable db number → ⊥) same.0.now_is none)
  unread_behind Closed h = h
  unread_behind NotACatalogue h = h
  unread_behind Damaged h = h
  unread_behind NewerSchema h = h

  cause_behind : (e : StoreError) → HasCause b c ⊥ e → HasCause a c ⊥ e
  cause_behind OutOfMemory h = tt
  cause_behind Io h = omega (arith, survives.counts)
  cause_behind Corrupt h = omega (arith, survives.counts)
  cause_behind Full h = omega (arith, survives.counts)
  cause_behind Broken h = absurd (false≢true (sym h ∙ same.0.is_open))
  cause_behind Unstorable h = h

  pub fails_behind : (fault : Fault) → FailsToLookUp number b c fault → FailsToLookUp number a c fault
  fails_behind fault (inl still) = inl (unchanged_then a b c same still.0, unread_behind fault still.1)
  fails_behind fault (inr h) =
      let fails = h.2 in
      let back = fails.3 in
      inr (
        h.0,
        h.1,
        (
          fails.0,
          fails.1,
          cause_behind fails.0 fails.2,
          record {
            was_open = λ opened. same.0.was_open;
            undone = λ opened. let undone = back.undone opened in (undone.0 ∙ same.0.committed_is, undone.1 ∙ same.0.committed_is);
            autocommit = back.autocommit;
            unmarked = back.unmarked;
            counts = record { changes = back.counts.changes ∙ same.1.changes; last_rowid = back.counts.last_rowid ∙ same.1.last_rowid };
          },
          fails.4,
        ),
      )

pub all_contains : {X : Type 0} (P : X → Type 0) (xs : List X) (x : X) → AllByRecursion P xs → Contains xs x → P x
all_contains P xs x all h = subst P h.2 (All-from_recursion P xs all h.0 x h.1)

-- some rows of a number could not be read, each of which stands for a record
pub list_fails : (number : ℕ) (rows : Database → List Row) (columns : List Content) (old new : State) → (IsEditionReadable old.now number → AllByRecursion (HasColumns columns) (rows old.now))
    → (e : ReadError) → FailsToList columns (rows old.now) old new e → FailsToLookUp number old new (fault_of_read e)
list_fails number rows columns old new readable NoRecord h = inl (h.0, inr (λ held. h.1.2 (all_contains (HasColumns columns) (rows old.now) h.1.0 (readable held) h.1.1)))
list_fails number rows columns old new readable (Store e) (inl fails) = read_fails number old new e fails
list_fails number rows columns old new readable (Store e) (inr refused) = inl (refused.0, subst (λ e. IsUnreadEdition number old (fault_of e)) (sym refused.1) tt)
