-- How a transaction ends behind a run of statements: by its commit, by a commit that fails, or undone, where one of them failed.
use Rattle.std.proofs.Common.{◌≡◌, true, false, List, Option, Some, inl, inr, refl, sym, subst, ◌∙◌, arith}
use Rattle.std.specs.Prelude.{IsTrue}
use Rattle.sqlite.specs.Disk.{MoreFaults}
use Rattle.sqlite.specs.Effect.{Database, IsDatabase}
use Rattle.sqlite.specs.Tree.{Trees}
use Rattle.sqlite.specs.State.{HasCleanDisk, Survives, Shows, Fails, IsRolledBack, is_disk_error}
use Rattle.sqlite.specs.Held.{Held, state}
use Rattle.sqlite.specs.Steps.{FailsToCommit}
use Rattle.sqlite.specs.declared.error.Error.{Error}
use Rattle.sqlite.proofs.Callers.{survives_begin}
use Rattle.sqlite.proofs.StateLemmas.{survives_weaker}
use Rattle.sqlite_trees.specs.declared.store.Store.{Ghosts}
use Rattle.dict_desk.specs.declared.fault.Fault.{Fault}
use Rattle.dict_desk.specs.declared.fault.Fault.TheVariants.{Disk}
use Rattle.store_tables.proofs.StateLemmas.{commit_counts}
use Rattle.store_sql.specs.Statements.{Statement, RunInTurn, FailsInTurn}
use Rattle.store_holdings.specs.AllTables.{AllTables}
use Rattle.store_holdings.specs.Committed.{IsCommitted, IsTreesOf}
use Rattle.store_holdings.specs.Faults.{fault_of}
use Rattle.store_holdings.specs.Writing.{StaysCommitted, FailsToEnd}
use Rattle.store_holdings.proofs.CommitLemmas.{leaves, done, only_left, commit_fails, keeps_begun, stays_undone}
use Rattle.store_commands.specs.Filing.{fault_filed}
use Rattle.store_commands.specs.Marking.{FailsToCommitRun}
use Rattle.store_commands.specs.Writes.{WroteStatements, FailsToWrite, CommitsNothing}
use Rattle.store_commands.proofs.FaultLemmas.{told_counts, told_more}
use Rattle.store_commands.proofs.WriteLemmas.{clean_before}

module _ {S : Type 0} (g : Ghosts S) where
  -- A transaction was begun, the run within it committed nothing, and then it ended: what is known of its end is said of a connection that
  -- is the one that is left.
  pub record Spans (old begun mid end new : Held S) (Commits : Trees → Type 0) : Type 0 where
    pub begins : begun ≡ record old { in_transaction = true }
    pub spares : CommitsNothing g begun mid
    pub ends : end ≡ new
    pub last : Survives (state g mid) (state g end) Commits

  pub spans : (old : Held S) {begun mid end new : Held S} {Commits : Trees → Type 0} → begun ≡ record old { in_transaction = true } → CommitsNothing g begun mid → end ≡ new → Survives (state g mid) (state g end) Commits
      → Spans old begun mid end new Commits
  spans old begins spares ends last = record { begins = begins; spares = spares; ends = ends; last = last }

module _ {S : Type 0} {g : Ghosts S} {old begun mid end new : Held S} {Commits : Trees → Type 0} (tx : Spans g old begun mid end new Commits) where
  -- the disk was clean behind the run, and before it
  pub clean_inside : HasCleanDisk (state g new) → HasCleanDisk (state g mid)
  clean_inside clean = clean_before (state g mid) (state g end) tx.last (subst (λ (h : Held S). HasCleanDisk (state g h)) (sym tx.ends) clean)

  pub survives_inside : Survives (state g old) (state g mid) (λ _. ⊥)
  survives_inside = survives_begin g old (state g mid) (λ _. ⊥) (subst (λ (h : Held S). Survives (state g h) (state g mid) (λ _. ⊥)) tx.begins tx.spares.survives)

  pub clean_first : HasCleanDisk (state g mid) → HasCleanDisk (state g old)
  clean_first clean = clean_before (state g old) (state g mid) survives_inside clean

  -- what it has made of the database that there was, and that the store was open
  module _ (R : Database → Database → Type 0) where
    pub made_by : (HasCleanDisk (state g mid) → R (state g begun).now (state g mid).now) → (HasCleanDisk (state g mid) → IsDatabase (state g mid).now) → HasCleanDisk (state g mid)
        → R (state g old).now (state g mid).now × IsDatabase (state g mid).now
    made_by made sound clean = (subst (λ (h : Held S). R (state g h).now (state g mid).now) tx.begins (made clean), sound clean)

    pub made_open : (HasCleanDisk (state g mid) → IsTrue (state g begun).is_open) → (HasCleanDisk (state g mid) → R (state g begun).now (state g mid).now) → (HasCleanDisk (state g mid) → IsDatabase (state g mid).now)
        → HasCleanDisk (state g mid) → (IsTrue (state g old).is_open × R (state g old).now (state g mid).now) × IsDatabase (state g mid).now
    made_open lives made sound clean =
        let it = made_by made sound clean in
        ((subst (λ (h : Held S). IsTrue (state g h).is_open) tx.begins (lives clean), it.0), it.1)

-- ---- all statements did what they say

module _ {S : Type 0} {g : Ghosts S} {old begun mid end new : Held S} (tx : Spans g old begun mid end new (λ trees. trees ≡ (state g mid).now.trees)) where
  -- its commit was called
  pub leaves_made : (P : Database → Type 0) → (HasCleanDisk (state g mid) → P (state g mid).now × IsDatabase (state g mid).now) → Survives (state g old) (state g new) (IsTreesOf P)
  leaves_made P made = subst (λ (h : Held S). Survives (state g old) (state g h) (IsTreesOf P)) tx.ends (leaves g old begun mid end P tx.begins tx.spares.survives tx.last made)

  pub leaves_open : (P : Database → Type 0) → (HasCleanDisk (state g mid) → (IsTrue (state g old).is_open × P (state g mid).now) × IsDatabase (state g mid).now)
      → Survives (state g old) (state g new) (λ trees. IsTrue (state g old).is_open × IsTreesOf P trees)
  leaves_open P made =
      let Q = λ (db : Database). IsTrue (state g old).is_open × P db in
      let R = λ (trees : Trees). IsTrue (state g old).is_open × IsTreesOf P trees in
      survives_weaker (state g old) (state g new) (IsTreesOf Q) R (λ clean trees it. (it.3.0, (it.0, it.1, it.2, it.3.1))) (leaves_made Q made)

  -- and done
  pub commits_made : (P : Database → Type 0) → (HasCleanDisk (state g mid) → P (state g mid).now × IsDatabase (state g mid).now)
      → (HasCleanDisk (state g end) → IsTrue (state g mid).in_transaction × Shows (state g mid) (state g end) (state g mid).now (state g mid).now false)
      → (HasCleanDisk (state g end) → (trees : Trees) → (state g end).may_leave trees → trees ≡ (state g end).committed.trees) → HasCleanDisk (state g new) → IsCommitted P (state g new)
  commits_made P made shows only = subst (λ (h : Held S). HasCleanDisk (state g h) → IsCommitted P (state g h)) tx.ends (λ clean. let shown = (shows clean).1 in record {
    is_open = shown.is_open;
    settled = shown.now_is ∙ sym shown.committed_is;
    holds = done g old begun mid end P tx.begins tx.spares.survives tx.last made clean shown;
    only = only_left g old begun mid end P tx.begins tx.spares.survives tx.last made clean shown (only clean);
  })

  -- or it failed
  module _ {e : Error} (inside : HasCleanDisk (state g mid) → (state g mid).in_transaction ≡ true) (failed : HasCleanDisk (state g end) → FailsToCommit (state g mid) (state g end) e) where
    failed_so : HasCleanDisk (state g new) → FailsToCommit (state g mid) (state g new) e
    failed_so = subst (λ (h : Held S). HasCleanDisk (state g h) → FailsToCommit (state g mid) (state g h) e) tx.ends failed

    fails_so : HasCleanDisk (state g new) → Fails (state g mid) (state g new) ⊥ e
    fails_so clean = commit_fails (state g mid) (state g new) e (inside (clean_inside tx clean)) (failed_so clean)

    pub uncommitted_stays : HasCleanDisk (state g new) → StaysCommitted (state g old) (state g new)
    uncommitted_stays clean = stays_undone (state g old) (state g mid) (state g new) (keeps_begun g old begun (state g mid) tx.begins (tx.spares.keeps (clean_inside tx clean))) (fails_so clean).3

    pub uncommitted_faults : {why : Option Fault} → (why ≡ Some Disk → is_disk_error e ≡ true) → HasCleanDisk (state g new) → why ≡ Some Disk → MoreFaults (state g old).faults (state g new).faults
    uncommitted_faults named clean told =
        let first : Survives (state g old) (state g mid) (λ _. ⊥) = survives_inside tx in
        let more : MoreFaults (state g mid).faults (state g new).faults = commit_counts (state g mid) (state g new) e (failed_so clean) (named told) in
        omega (arith, first.counts, more)

    module _ {statements : List Statement} {f : AllTables → AllTables} (wrote : WroteStatements g statements f begun mid) where
      ran_so : HasCleanDisk (state g new) → RunInTurn g statements (record old { in_transaction = true }) mid
      ran_so clean = subst (λ (h : Held S). RunInTurn g statements h mid) tx.begins (wrote.ran (clean_inside tx clean))

      pub uncommitted_run : {why : Option Fault} → why ≡ fault_filed e → HasCleanDisk (state g new) → FailsToCommitRun g statements old new why
      uncommitted_run told clean = record { error = e; told = told; last = mid; cause = inr (ran_so clean, fails_so clean) }

      pub uncommitted_end : (P : Database → Type 0) → (HasCleanDisk (state g mid) → P (state g mid).now × IsDatabase (state g mid).now) → HasCleanDisk (state g new) → FailsToEnd g statements P old new Disk
      uncommitted_end P made clean = inr (record {
        told = refl;
        last = mid;
        ran = ran_so clean;
        before = survives_inside tx;
        written = (made (clean_inside tx clean)).0;
        error = e;
        fails = fails_so clean;
      })

-- ---- one of them failed, and it was undone

module _ {S : Type 0} {g : Ghosts S} {old begun mid end new : Held S} (tx : Spans g old begun mid end new (λ _. ⊥)) (undone : HasCleanDisk (state g end) → IsRolledBack (state g mid) (state g end))
    (statements : List Statement) (e : Error) (failed : FailsToWrite g statements begun mid e) where
  within : HasCleanDisk (state g new) → FailsInTurn g statements (record old { in_transaction = true }) mid e
  within clean = subst (λ (h : Held S). FailsInTurn g statements h mid e) tx.begins (failed (clean_inside tx clean))

  after : Survives (state g mid) (state g new) (λ _. ⊥)
  after = subst (λ (h : Held S). Survives (state g mid) (state g h) (λ _. ⊥)) tx.ends tx.last

  undone_so : HasCleanDisk (state g new) → IsRolledBack (state g mid) (state g new)
  undone_so = subst (λ (h : Held S). HasCleanDisk (state g h) → IsRolledBack (state g mid) (state g h)) tx.ends undone

  pub undone_run : {why : Option Fault} → why ≡ fault_filed e → HasCleanDisk (state g new) → FailsToCommitRun g statements old new why
  undone_run told clean = record { error = e; told = told; last = mid; cause = inl (within clean, undone_so clean) }

  pub undone_faults : {why : Option Fault} → (why ≡ Some Disk → is_disk_error e ≡ true) → HasCleanDisk (state g new) → why ≡ Some Disk → MoreFaults (state g old).faults (state g new).faults
  undone_faults named clean told =
      told_more (state g old) (state g mid) (state g new) (told_counts g statements (record old { in_transaction = true }) mid e (within clean) (named told)) after.counts

  pub undone_end : (P : Database → Type 0) {fault : Fault} → fault ≡ fault_of e → HasCleanDisk (state g new) → FailsToEnd g statements P old new fault
  undone_end P told clean = inl (record { error = e; told = told; last = mid; within = within clean; after = after; undone = undone_so clean })
