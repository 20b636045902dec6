-- A transaction that makes a database of one kind and commits it.
use Rattle.std.proofs.Common.{◌≡◌, true, false, inl, inr, sym, ap, subst, ◌∙◌, arith}
use Rattle.std.proofs.lemmas.Bool.{false≢true}
use Rattle.sqlite.specs.declared.error.Error.{Error}
use Rattle.sqlite.specs.Steps.{FailsToCommit}
use Rattle.sqlite_trees.specs.declared.store.Store as store
use Rattle.sqlite.specs.Effect.{Database, IsDatabase}
use Rattle.sqlite.specs.Tree.{Trees}
use Rattle.sqlite.specs.State.{State, HasCleanDisk, KeepsCommit, Survives, Shows, Fails, IsRolledBack}
use Rattle.sqlite.specs.Held.{Held, state}
use Rattle.sqlite.proofs.Callers.{survives_begin}
use Rattle.store_holdings.specs.Writing.{StaysCommitted}
use Rattle.sqlite.proofs.StateLemmas.{survives_then}

-- trees that a stop may leave: those of a database of this kind
abbrev pub IsLeftOf : (Database → Type 0) → Trees → Type 0
IsLeftOf P trees = (db : Database) × (trees ≡ db.trees) × IsDatabase db × P db

-- within a transaction a commit fails by the store
pub commit_fails : (old new : State) (e : Error) → old.in_transaction ≡ true → FailsToCommit old new e → Fails old new ⊥ e
commit_fails old new e inside (inl fails) = fails
commit_fails old new e inside (inr h) = absurd (false≢true (sym h.1 ∙ inside))

pub keeps_begun : {S : Type 0} (g : store.Ghosts S) (old begun : Held S) (new : State) → begun ≡ record old { in_transaction = true } → KeepsCommit (state g begun) new → KeepsCommit (state g old) new
keeps_begun g old begun new is keeps =
    let same : KeepsCommit (state g (record old { in_transaction = true })) new = subst (λ h. KeepsCommit (state g h) new) is keeps in
    record { was_open = same.was_open; committed = same.committed }

-- what is left of one that was undone
pub stays_undone : (old mid new : State) → KeepsCommit old mid → IsRolledBack mid new → StaysCommitted old new
stays_undone old mid new keeps undone = record {
  was_open = λ h. keeps.was_open (undone.was_open h);
  committed = λ h. (undone.undone h).1 ∙ keeps.committed (undone.was_open h);
  settled = λ h same. (undone.undone h).0 ∙ sym (undone.undone h).1;
}

module _ {S : Type 0} (g : store.Ghosts S) (old begun mid end : Held S) (P : Database → Type 0) (is : begun ≡ record old { in_transaction = true }) (one : Survives (state g begun) (state g mid) (λ _. ⊥))
    (two : Survives (state g mid) (state g end) (λ trees. trees ≡ (state g mid).now.trees)) (made : HasCleanDisk (state g mid) → P (state g mid).now × IsDatabase (state g mid).now) where
  pub before_commit : HasCleanDisk (state g end) → HasCleanDisk (state g mid)
  before_commit clean = omega (arith, two.clean)

  -- what a stop may leave
  pub leaves : Survives (state g old) (state g end) (IsLeftOf P)
  leaves = survives_begin g old (state g end) (IsLeftOf P) (subst (λ h. Survives (state g h) (state g end) (IsLeftOf P)) is
      (survives_then (state g begun) (state g mid) (state g end) (λ _. ⊥) (λ trees. trees ≡ (state g mid).now.trees) (IsLeftOf P) (λ _ db none. absurd none)
      (λ clean trees e. ((state g mid).now, e, (made (before_commit clean)).1, (made (before_commit clean)).0)) one two))

  module _ (clean : HasCleanDisk (state g end)) (shown : Shows (state g mid) (state g end) (state g mid).now (state g mid).now false) where
    pub done : P (state g end).committed
    done = subst P (sym shown.committed_is) (made (before_commit clean)).0

    pub only_left : ((trees : Trees) → (state g end).may_leave trees → trees ≡ (state g end).committed.trees) → (trees : Trees) → (state g end).may_leave trees → IsLeftOf P trees
    only_left only trees left = ((state g mid).now, only trees left ∙ ap (λ (d : Database). d.trees) shown.committed_is, (made (before_commit clean)).1, (made (before_commit clean)).0)
