-- What a statement of a transaction leaves, at its success and at its failure.
use Rattle.std.proofs.Common.{◌≡◌, ◌⊎◌, ℕ, List, Bool, true, false, ◌∙◌, Ok, Err, Result, IsTrue, OnOk, IfOk, IfErr, inl, inr, refl, sym, ap, subst, arith}
use Rattle.std.proofs.lemmas.Bool.{cases_Bool}
use Rattle.sqlite.specs.declared.error.Error.{Error}
use Rattle.sqlite.specs.declared.error.Error.TheVariants.{SqliteFailure}
use Rattle.sqlite.specs.declared.error.ErrorCode.TheVariants as code
use Rattle.sqlite.specs.Order.{Row}
use Rattle.sqlite.specs.State.{State, Executes, ExecutesInside, Fails, HasCause, HasCleanDisk, KeepsCommit, IsUnchanged, IsRolledBack, Survives, store_error, is_disk_error}
use Rattle.sqlite.specs.Held.{Held, state}
use Rattle.sqlite.specs.Disk.{MoreFaults}
use Rattle.sqlite_trees.specs.declared.store.Store.{Ghosts}
use Rattle.sqlite_trees.specs.declared.error.StoreError.{StoreError}
use Rattle.sqlite_trees.specs.declared.error.StoreError.TheVariants as why
use Rattle.store_tables.specs.Effects.{FailsIn, GoesOn, CountsFaults, FailsToRead}
use Rattle.sqlite.specs.Steps.{FailsToCommit}
use Rattle.store_tables.proofs.FaultLemmas.{failed_so, fails_for}
use Rattle.sqlite.specs.Table.{Table}
use Rattle.sqlite.specs.Effect.{edit_error}
use Rattle.sqlite_rules.specs.declared.error.Refusal.{Refusal}
use Rattle.sqlite_rules.specs.declared.error.Refusal.TheVariants.{Violates, Mismatch, NoRowid, BadReference, TooDeep}
use Rattle.store_tables.specs.Refusals.{RefusesToAdd, RefusesToRemove, RefusesToMake, RefusesToDrop}

pub inside : {A : Type 0} (text : List ℕ) (params : Row) (old new : State) (result : Result ℕ Error) → (IsTrue old.is_open → (count : ℕ) → Executes text params old new (Ok count) → A)
    → (old.in_transaction ≡ false → result ≡ Err (SqliteFailure code.TransactionState))
    → (IsTrue old.in_transaction → ExecutesInside 0 text params old new result) → OnOk result (A × GoesOn old new)
inside text params old new (Err e) does ended runs = tt
inside text params old new (Ok count) does ended runs = elim (cases_Bool old.in_transaction) [
  | inl inside' ↦ (let ran = runs inside' in (does ran.1.was_open count ran.0, ran.1))
  | inr outside ↦ absurd (let e = ended outside in cc)
]

counted_inside : {N : Type 0} {C : ℕ → Type 0} (text : List ℕ) (params : Row) (old new : State) (result : Result ℕ Error) → (IsTrue old.is_open → N)
    → (old.in_transaction ≡ false → result ≡ Err (SqliteFailure code.TransactionState)) → (IsTrue old.in_transaction → ExecutesInside 0 text params old new result)
    → ((count : ℕ) → N → Executes text params old new (Ok count) → C count) → IfOk result C
counted_inside text params old new (Err e) needs ended runs counts = tt
counted_inside text params old new (Ok count) needs ended runs counts = elim (cases_Bool old.in_transaction) [
  | inl inside' ↦ (let ran = runs inside' in counts count (needs ran.1.was_open) ran.0)
  | inr outside ↦ absurd (let e = ended outside in cc)
]

same_commit : (old new : State) → IsUnchanged old new → KeepsCommit old new
same_commit old new same = record { was_open = λ _. same.0.was_open; committed = λ _. same.0.committed_is }

undone_commit : (old new : State) → IsRolledBack old new → KeepsCommit old new
undone_commit old new back = record { was_open = back.was_open; committed = λ is_open. (back.undone is_open).1 }

-- a statement that failed in a transaction has committed nothing
fails_inside : (old new : State) (sql : List ℕ) (params : Row) (e : Error) → ExecutesInside 0 sql params old new (Err e) → KeepsCommit old new
fails_inside old new sql params e (inl h) = elim h.1 [ inl same ↦ same_commit old new same | inr back ↦ undone_commit old new back ]
fails_inside old new sql params e (inr h) = same_commit old new h.2

-- ---- a connection that was shut before

module _ (old new : State) (text : List ℕ) (params : Row) (e : Error) (shut : old.is_open ≡ false) where
  unchanged : ¬ IsUnchanged old new
  unchanged same = absurd (let open' = same.0.was_open in let both = rw shut at open' in cc)

  not_open : ¬ IsTrue old.is_open
  not_open open' = absurd (let both = rw shut at open' in cc)

  module _ (TooBig : Type 0) where
    abbrev Falls : Type 0
    Falls = Fails old new (IsTrue old.is_open → TooBig) e

    loosely : (P : Type 0) → Fails old new P e → Falls
    loosely P = fails_for old new e P (IsTrue old.is_open → TooBig) (λ p open'. absurd (not_open open'))

    pub shut_inside : ExecutesInside 0 text params old new (Err e) → Falls
    shut_inside (inl h) = failed_so old new text params e (λ same. absurd (unchanged same)) loosely h.0
    shut_inside (inr h) = absurd (unchanged h.2)

-- ---- an error that names the disk comes with a fault of it

disk_counts : (old new : State) (e : Error) (P : Type 0) → Fails old new P e → CountsFaults old new e
disk_counts old new e P f named = counted f.0 f.2 (rw f.1 at named)
  where
    counted : (cause : StoreError) → HasCause old new P cause → is_disk_error (store_error cause) ≡ true → MoreFaults old.faults new.faults
    counted why.OutOfMemory h named = absurd (let e = named in cc)
    counted why.Io h named = h
    counted why.Corrupt h named = h
    counted why.Full h named = h
    counted why.Broken h named = absurd (let e = named in cc)
    counted why.Unstorable h named = absurd (let e = named in cc)

pub read_counts : (old new : State) (e : Error) → FailsToRead old new e → CountsFaults old new e
read_counts old new e (inl f) named = disk_counts old new e ⊥ f named
read_counts old new e (inr limit) named = absurd (let first = limit.0 in let both = rw first at named in cc)

pub commit_counts : (old new : State) (e : Error) → FailsToCommit old new e → CountsFaults old new e
commit_counts old new e (inl f) named = disk_counts old new e ⊥ f named
commit_counts old new e (inr outside) named = absurd (let first = outside.0 in let both = rw first at named in cc)

-- what a statement of a transaction leaves at an error, from why it failed
pub fails_in : (Refuses : Error → Type 0) (TooBig : Type 0) (other : (e : Error) → Refuses e → is_disk_error e ≡ false) (old new : State) (sql : List ℕ) (params : Row) (result : Result ℕ Error)
    → (old.in_transaction ≡ false → (result ≡ Err (SqliteFailure code.TransactionState)) × (new ≡ old)) → (IsTrue old.in_transaction → ExecutesInside 0 sql params old new result)
    → (IsTrue old.is_open → (e : Error) → ExecutesInside 0 sql params old new (Err e) → (Refuses e × IsUnchanged old new) ⊎ Fails old new TooBig e) → IfErr result (FailsIn Refuses TooBig old new)
fails_in Refuses TooBig other old new sql params (Ok count) ended runs cause = tt
fails_in Refuses TooBig other old new sql params (Err e) ended runs cause = record {
  keeps = elim (cases_Bool old.in_transaction) [
    | inl inside' ↦ fails_inside old new sql params e (runs inside')
    | inr outside ↦ subst (KeepsCommit old) (sym (ended outside).1) (record { was_open = λ is_open. is_open; committed = λ _. refl })
  ];
  cause = λ inside'. why_inside inside';
  outside = λ outside'. (same_error (ended outside').0, ap (λ (s : State). s.now) (ended outside').1);
  counts = elim (cases_Bool old.in_transaction) [
    | inl inside' ↦ (λ named. elim (why_inside inside') [
      | inl refused ↦ absurd (let both : true ≡ false = sym named ∙ other e refused.0 in cc)
      | inr f ↦ disk_counts old new e (IsTrue old.is_open → TooBig) f named
    ])
    | inr outside ↦ (λ named. absurd (let both = rw (same_error (ended outside).0) at named in cc))
  ];
}
  where
    same_error : {a b : Error} → ◌≡◌ {A = Result ℕ Error} (Err a) (Err b) → a ≡ b
    same_error e = cc

    why_inside : IsTrue old.in_transaction → (Refuses e × IsUnchanged old new) ⊎ Fails old new (IsTrue old.is_open → TooBig) e
    why_inside inside' = elim (cases_Bool old.is_open) [
      | inl open' ↦ elim (cause open' e (runs inside')) [ inl refused ↦ inl refused | inr f ↦ inr (fails_for old new e TooBig (IsTrue old.is_open → TooBig) (λ big _. big) f) ]
      | inr shut ↦ inr (shut_inside old new sql params e shut TooBig (runs inside'))
    ]

-- what a statement of a transaction answers where it succeeds, if the database has what it asks for
pub counted : {S N : Type 0} {C : ℕ → Type 0} (g : Ghosts S) (before after : Held S) (text : List ℕ) (params : Row) (result : Result ℕ Error) → (HasCleanDisk (state g before) → IsTrue (state g before).is_open → N)
    → ((state g before).in_transaction ≡ false → (result ≡ Err (SqliteFailure code.TransactionState)) × (after ≡ before))
    → (HasCleanDisk (state g after) → IsTrue (state g before).in_transaction → ExecutesInside 0 text params (state g before) (state g after) result) → Survives (state g before) (state g after) (λ _. ⊥)
    → ((count : ℕ) → N → Executes text params (state g before) (state g after) (Ok count) → C count) → HasCleanDisk (state g after) → IfOk result C
counted g before after text params result needs ended runs alone counts clean =
    counted_inside text params (state g before) (state g after) result (λ open'. needs (omega (arith, alone.clean, clean)) open') (λ outside. (ended outside).0) (runs clean) counts

-- what a statement of a transaction does where the database has what it asks for, and why it fails
module _ {S : Type 0} (g : Ghosts S) (before after : Held S) (text : List ℕ) (params : Row) (result : Result ℕ Error) (Refuses : Error → Type 0) (TooBig : Type 0) where
  abbrev old : State
  old = state g before

  abbrev new : State
  new = state g after

  pub stated : {N A : Type 0} → ((e : Error) → Refuses e → is_disk_error e ≡ false) → (HasCleanDisk old → IsTrue old.is_open → N)
      → (old.in_transaction ≡ false → (result ≡ Err (SqliteFailure code.TransactionState)) × (after ≡ before))
      → (HasCleanDisk new → IsTrue old.in_transaction → ExecutesInside 0 text params old new result) → Survives old new (λ _. ⊥)
      → ((count : ℕ) → N → Executes text params old new (Ok count) → A)
      → ((e : Error) → N → ExecutesInside 0 text params old new (Err e) → (Refuses e × IsUnchanged old new) ⊎ Fails old new TooBig e)
      → HasCleanDisk new → OnOk result (A × GoesOn old new) × IfErr result (FailsIn Refuses TooBig old new)
  stated other needs ended runs alone does fails clean = (
    inside text params old new result (λ open' count. does count (needs (omega (arith, alone.clean, clean)) open')) (λ outside. (ended outside).0) (runs clean),
    fails_in Refuses TooBig other old new text params result (λ outside. ((ended outside).0, ap (state g) (ended outside).1)) (runs clean) (λ open' e. fails e (needs (omega (arith, alone.clean, clean)) open')),
  )

of_edit : (why : Refusal) → is_disk_error (edit_error why) ≡ false
of_edit (Violates rule) = refl
of_edit Mismatch = refl
of_edit NoRowid = refl
of_edit BadReference = refl
of_edit TooDeep = refl

pub adds_aside : (name : List ℕ) (row : Row) (old : State) (e : Error) → RefusesToAdd name row old e → is_disk_error e ≡ false
adds_aside name row old e (inl limit) = rw limit.0 refl
adds_aside name row old e (inr h) = elim h.2 [ inl refused ↦ rw refused.told (of_edit refused.why) | inr lacks ↦ rw lacks.0 refl ]

pub removes_aside : (name : List ℕ) (test : Row → Bool) (old : State) (e : Error) → RefusesToRemove name test old e → is_disk_error e ≡ false
removes_aside name test old e (inl limit) = rw limit.0 refl
removes_aside name test old e (inr h) = elim h.2 [ inl broken ↦ rw broken.0 refl | inr lacks ↦ rw lacks.0 refl ]

pub makes_aside : (table : Table) (old : State) (e : Error) → RefusesToMake table old e → is_disk_error e ≡ false
makes_aside table old e (inl taken) = rw taken.0 refl
makes_aside table old e (inr many) = rw many.0 refl

pub drops_aside : (name : List ℕ) (old : State) (e : Error) → RefusesToDrop name old e → is_disk_error e ≡ false
drops_aside name old e (inl viewed) = rw viewed.1 refl
drops_aside name old e (inr lacks) = rw lacks.0 refl
