-- What a migration makes, and what a stop in it leaves.
use Rattle.std.proofs.Common.{◌≡◌, ◌↔◌, ℕ, List, [], refl, sym, subst, inl, inr, arith, ◌∙◌, ◌<◌, ◌≤◌, ℤ, pos, true, false, map, Some, None, ap}
use Rattle.std.specs.Prelude.{IsTrue, Option, Some, None}
use Rattle.std.specs.List.{Contains}
use Rattle.sqlite.specs.Tree.{Trees}
use Rattle.sqlite.specs.State.{Shows, Fails, IsLive, IsRolledBack}
use Rattle.dict_catalogue.specs.Steps.{Catalogue, summary_of}
use Rattle.store_rows.specs.Versions.{known, IsVersion, Layout, layout_of}
use Rattle.store_holdings.specs.AllTables.{as_version, with_derived}
use Rattle.store_sql.specs.Readings.{KeepsAll}
use Rattle.store_holdings.proofs.OrphanLemmas.{no_orphans}
use Rattle.store_rows.proofs.LawfulLemmas.{numbers_as}
use Rattle.store_holdings.proofs.VersionLemmas.{same_stands}
use Rattle.store_holdings.specs.Holds.{Holds, IsHeld, HasLayout, IsLeftAs, Rests}
use Rattle.store_migration.specs.Migrated.{IsMigrated, HoldsOlder, MayMigrate}
use Rattle.store_migration.specs.Leaves.{StandsFor, StateLeavesOneOf}
use Rattle.store_holdings.proofs.OneLemmas.{one_catalogue, one_held, left_held, left_known}
use Rattle.sqlite.specs.Steps.{FailsToCommit}
use Rattle.sqlite.specs.declared.error.Error.{Error}
use Rattle.sqlite.proofs.Callers.{survives_begin}
use Rattle.sqlite_trees.specs.declared.store.Store.{Ghosts}
use Rattle.dict_index.specs.Edition.{Edition}
use Rattle.dict_catalogue.specs.Items.{edition_numbers}
use Rattle.dict_catalogue.specs.Tests.{Holdings}
use Rattle.store_holdings.specs.Committed.{IsCommitted, IsTreesOf}
use Rattle.dict_desk.specs.declared.fault.Fault.{Fault}
use Rattle.dict_desk.specs.declared.fault.Fault.TheVariants.{Disk}
use Rattle.store_holdings.specs.Writing.{StaysCommitted, FailsBefore, FailsAtLast}
use Rattle.store_holdings.proofs.CommitLemmas.{leaves, done, only_left, commit_fails, keeps_begun, stays_undone}
use Rattle.store_migration.specs.Moved.{IsOutcome}
use Rattle.store_migration.specs.Older.{IsOld, layout_before}
use Rattle.store_migration.specs.declared.older.Older.{Older}
use Rattle.store_migration.specs.Spared.{SparesOthers}
use Rattle.store_migration.proofs.KitLemmas.{Database, IsDatabase, State, HasCleanDisk, Survives, KeepsCommit, Held, Part, state, was_clean}
use Rattle.store_migration.proofs.OtherLemmas.{others_renewed}
use Rattle.store_migration.proofs.MovedLemmas.{renewed}

pub migrated : (version : ℕ) (old new : Database) (M : Catalogue) → IsMigrated version old new → Holds version old M → Holds known new M
migrated version old new M m h = record {
  own = m.own;
  tables = as_version known h.tables;
  orphans = [];
  keeps = m.keeps h.tables M (subst (λ (orphans : List Part). KeepsAll (layout_of version) old (with_derived orphans h.tables)) (h.apart.later m.before) h.keeps) h.shown h.stands;
  shown = tt;
  stands = same_stands version known h.tables M h.stands;
  apart = no_orphans known M;
}

older : (db : Database) (M : Catalogue) → HoldsOlder db M → IsHeld db M
older db M h =
    let before = h.before in
    let is : IsVersion h.version = record { counted = h.counted; within = omega (arith, before) } in
    record { version = h.version; known = is; holds = h.holds }

-- of what was committed one catalogue could be left, and it is this one
was_left : (db : Database) (M : Catalogue) (m : Option Catalogue) → IsDatabase db → IsHeld db M → StandsFor m db.trees → m ≡ Some M
was_left db M None sound held stands = absurd (stands M (db, (λ i. db.trees), sound, held))
was_left db M (Some N) sound held stands = let same : N ≡ M = one_held db N M (left_held db N sound stands) held in λ i. Some (same i)

pub stopped : (old new : State) → (IsTrue old.is_open → IsDatabase old.committed) → (IsTrue old.is_open → old.may_leave old.committed.trees) → Survives old new (MayMigrate old)
    → (ms : List (Option Catalogue)) → StateLeavesOneOf old ms → StateLeavesOneOf new ms
stopped old new sound stays survives ms leaves clean trees left =
    let before = was_clean survives clean in
    elim (survives.crash clean trees left) [
      | inl could ↦ leaves before trees could
      | inr made ↦
          let committed = leaves before old.committed.trees (stays made.0) in
          let M : Catalogue = made.1.0 in
          let is : committed.0 ≡ Some M = was_left old.committed M committed.0 (sound made.0) (older old.committed M made.1.1) committed.2 in
          (Some M, subst (Contains ms) is committed.1, left_known M trees made.1.2)
    ]

-- of a store that leaves what it has committed, and nothing else, the same catalogue is left, or none
pub stands_still : (old new : State) → (IsTrue old.is_open → IsDatabase old.committed) → ((trees : Trees) → IsTrue old.is_open → old.may_leave trees → trees ≡ old.committed.trees) → IsTrue old.is_open → Survives old new (MayMigrate old)
    → HasCleanDisk new → (m : Option Catalogue) → StandsFor m old.committed.trees → (trees : Trees) → new.may_leave trees → StandsFor m trees
stands_still old new sound settled live survives clean m stands trees left =
    elim (survives.crash clean trees left) as (λ _. StandsFor m trees) [
      | inl could ↦ subst (StandsFor m) (sym (settled trees live could)) stands
      | inr made ↦
          let M : Catalogue = made.1.0 in
          let is : m ≡ Some M = was_left old.committed M m (sound live) (older old.committed M made.1.1) stands in
          subst (λ (n : Option Catalogue). StandsFor n trees) (sym is) (left_known M trees made.1.2)
    ]

-- what was held before is what is held under the known version
pub same_held : (old new : Database) (N : Catalogue) → HoldsOlder old N → Holds known new N → (M : Catalogue) → IsHeld old M ↔ Holds known new M
same_held old new N was is M = (
  (λ h. subst (Holds known new) (one_held old N M (older old N was) h) is),
  (λ h. subst (IsHeld old) (one_catalogue new known known N M is h) (older old N was)),
)

-- ---- what a migration that was committed leaves

pub outcome_of : {S : Type 0} (g : Ghosts S) (older : Option Older) (numbers : List ℤ) (installs : ℕ) (old begun : Held S) (new : Database) → begun ≡ record old { in_transaction = true }
    → IsOutcome older numbers installs (state g begun) new → IsOutcome older numbers installs (state g old) new
outcome_of g older numbers installs old begun new is it =
    let there = subst (λ h. IsOutcome older numbers installs (state g h) new) is it in
    record { was_open = there.was_open; moved = there.moved }

-- ---- a store at rest that holds a catalogue under an older version

pub is_old : (version : ℕ) (older : Option Older) → layout_of version ≡ layout_before older → (s : State) (N : Catalogue) → Rests version s N → IsDatabase s.now → IsOld (layout_before older) s.now
is_old version older is s N rests sound =
    let held : Holds version s.now N = subst (λ (d : Database). Holds version d N) (sym rests.settled) rests.holds in
    record {
      own = subst (λ (layout : Layout). HasLayout layout s.now.schema) is held.own;
      sound = sound;
      marks = held.keeps.0.apart;
    }

module _ {version : ℕ} {older : Option Older} (is : layout_of version ≡ layout_before older) (before : version < known) {s : State} {summary : Holdings (List ℕ)}
    (start : IsTrue s.is_open → (N : Catalogue) × Rests version s N × (summary_of N ≡ summary)) (live : IsLive s)
    {numbers : List ℤ} (numbers_are : numbers ≡ map pos (edition_numbers summary.items)) where
  pub outcome_migrated : (new : Database) → IsOutcome older numbers summary.installs s new → IsMigrated version s.committed new
  outcome_migrated new made =
      let it = start made.was_open in
      let held : Holds version s.now it.0 = subst (λ (d : Database). Holds version d it.0) (sym it.1.settled) it.1.holds in
      let numbers_of = ap (λ (h : Holdings (List ℕ)). map pos (edition_numbers h.items)) (sym it.2) ∙ ap (map pos) (numbers_as (λ (edition : Edition). edition.title) it.0.items) in
      let first = subst (λ ns. IsOutcome older ns summary.installs s new) (numbers_are ∙ numbers_of) made in
      let second = subst (λ n. IsOutcome older (map pos (edition_numbers it.0.items)) n s new) (ap (λ (h : Holdings (List ℕ)). h.installs) (sym it.2)) first in
      subst (λ (d : Database). IsMigrated version d new) it.1.settled (renewed older version is before it.0 s.now new (is_old version older is s it.0 it.1 (live made.was_open).0) held second.moved)

  pub outcome_holds : (new : Database) → IsOutcome older numbers summary.installs s new → (M : Catalogue) → Holds version s.committed M → Holds known new M
  outcome_holds new made M held = migrated version s.committed new M (outcome_migrated new made) held

  pub outcome_left : (trees : Trees) → IsTreesOf (IsOutcome older numbers summary.installs s) trees → (M : Catalogue) → Holds version s.committed M → IsLeftAs known M trees
  outcome_left trees left M held = (left.0, left.1, left.2, outcome_holds left.0 left.3 M held)

  pub outcome_may : 1 ≤ version → (trees : Trees) → IsTreesOf (IsOutcome older numbers summary.installs s) trees → MayMigrate s trees
  outcome_may counted trees left =
      let it = start left.3.was_open in
      (left.3.was_open, (it.0, record { version = version; counted = counted; before = before; holds = it.1.holds }, outcome_left trees left it.0 it.1.holds))

  pub outcome_spares : (new : Database) → IsOutcome older numbers summary.installs s new → SparesOthers s.committed new
  outcome_spares new made =
      let it = start made.was_open in
      subst (λ (d : Database). SparesOthers d new) it.1.settled (others_renewed older numbers summary.installs s.now new (is_old version older is s it.0 it.1 (live made.was_open).0) made.moved)

-- ---- a transaction of which a part failed, rolled back

pub ends_undone : {S E : Type 0} (g : Ghosts S) (tell : E → Fault) (FailsWithin : Held S → Held S → E → Type 0) (old mid : Held S) {begun end new : Held S} (e : E) {fault : Fault} → begun ≡ record old { in_transaction = true }
    → Survives (state g mid) (state g end) (λ _. ⊥) → (HasCleanDisk (state g end) → IsRolledBack (state g mid) (state g end)) → end ≡ new → fault ≡ tell e → (HasCleanDisk (state g mid) → FailsWithin begun mid e)
    → HasCleanDisk (state g new) → FailsBefore g tell FailsWithin old new fault
ends_undone g tell FailsWithin old mid e {fault = fault} begins after undone same told within = subst (λ h. HasCleanDisk (state g h) → FailsBefore g tell FailsWithin old h fault) same (λ clean. record {
  error = e;
  told = told;
  last = mid;
  within = subst (λ h. FailsWithin h mid e) begins (within (was_clean after clean));
  after = after;
  undone = undone clean;
})

-- ---- the commit of a transaction, which leaves one state at its end

module _ {S : Type 0} (g : Ghosts S) (P : Database → Type 0) (old mid : Held S) {begun end new : Held S} (begins : begun ≡ record old { in_transaction = true }) (one : Survives (state g begun) (state g mid) (λ _. ⊥))
    (two : Survives (state g mid) (state g end) (λ trees. trees ≡ (state g mid).now.trees)) (same : end ≡ new) where
  ends_before : HasCleanDisk (state g new) → HasCleanDisk (state g mid)
  ends_before clean = was_clean two (subst (λ h. HasCleanDisk (state g h)) (sym same) clean)

  begins_before : Survives (state g old) (state g mid) (λ _. ⊥)
  begins_before = survives_begin g old (state g mid) (λ _. ⊥) (subst (λ h. Survives (state g h) (state g mid) (λ _. ⊥)) begins one)

  module _ (made : HasCleanDisk (state g mid) → P (state g mid).now × IsDatabase (state g mid).now) where
    pub ends_survives : Survives (state g old) (state g new) (IsTreesOf P)
    ends_survives = subst (λ h. Survives (state g old) (state g h) (IsTreesOf P)) same (leaves g old begun mid end P begins one two made)

    pub ends_made : (HasCleanDisk (state g end) → Shows (state g mid) (state g end) (state g mid).now (state g mid).now false)
        → (HasCleanDisk (state g end) → (trees : Trees) → (state g end).may_leave trees → trees ≡ (state g end).committed.trees) → HasCleanDisk (state g new) → IsCommitted P (state g new)
    ends_made shows only = subst (λ h. HasCleanDisk (state g h) → IsCommitted P (state g h)) same (λ clean. let shown = shows clean in record {
      is_open = shown.is_open;
      settled = shown.now_is ∙ sym shown.committed_is;
      holds = done g old begun mid end P begins one two made clean shown;
      only = only_left g old begun mid end P begins one two made clean shown (only clean);
    })

  module _ {e : Error} (inside : HasCleanDisk (state g mid) → (state g mid).in_transaction ≡ true) (failed : HasCleanDisk (state g end) → FailsToCommit (state g mid) (state g end) e) where
    ends_failed : HasCleanDisk (state g new) → Fails (state g mid) (state g new) ⊥ e
    ends_failed = subst (λ h. HasCleanDisk (state g h) → Fails (state g mid) (state g h) ⊥ e) same (λ clean. commit_fails (state g mid) (state g end) e (inside (was_clean two clean)) (failed clean))

    pub ends_at_last : (Runs : Held S → Held S → Type 0) → (HasCleanDisk (state g mid) → Runs begun mid) → (HasCleanDisk (state g mid) → P (state g mid).now) → HasCleanDisk (state g new) → FailsAtLast g Runs P old new Disk
    ends_at_last Runs ran written clean = record {
      told = refl;
      last = mid;
      ran = subst (λ h. Runs h mid) begins (ran (ends_before clean));
      before = begins_before;
      written = written (ends_before clean);
      error = e;
      fails = ends_failed clean;
    }

    pub ends_stays : (HasCleanDisk (state g mid) → KeepsCommit (state g begun) (state g mid)) → HasCleanDisk (state g new) → StaysCommitted (state g old) (state g new)
    ends_stays keeps clean = stays_undone (state g old) (state g mid) (state g new) (keeps_begun g old begun (state g mid) begins (keeps (ends_before clean))) (ends_failed clean).3
