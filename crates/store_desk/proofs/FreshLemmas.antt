-- What is left of files at a path that were not opened.
use Rattle.std.proofs.Common.{◌≡◌, ◌⊎◌, inl, inr, Bool, ℕ, List, [], ◌∷◌, IsTrue, refl, sym, ap₂, subst, cond}
use Rattle.std.specs.Prelude.{Option, Some, None, IfSome}
use Rattle.std.proofs.lemmas.Bool.{and_from}
use Rattle.sqlite_disk.specs.declared.Disk.{Ghosts}
use Rattle.sqlite_disk.specs.declared.Files.{Files}
use Rattle.sqlite_disk.specs.Events.{Event, replay, settled}
use Rattle.sqlite_disk.specs.History.{MayLeave}
use Rattle.sqlite_wal.proofs.LogLemmas.{SeenMayStay}
use Rattle.sqlite.specs.Recovery.{Image}
use Rattle.sqlite.specs.Files.{IsCleanLeft, FailsToOpenFiles, LeavesFiles, image_of}
use Rattle.sqlite.specs.WalFiles.{outcomes}
use Rattle.sqlite.specs.Opening.{is_open_error}
use Rattle.sqlite.specs.declared.error.Error.{Error}
use Rattle.sqlite.specs.declared.error.Error.TheVariants.{SqliteFailure}
use Rattle.sqlite.specs.declared.error.ErrorCode.TheVariants as code
use Rattle.sqlite.specs.declared.file.Leftover.{Leftover}
use Rattle.sqlite.specs.declared.file.Leftover.TheVariants as left_of
use Rattle.dict_desk.specs.declared.fault.Fault.{Fault}
use Rattle.store_opening.specs.Reading.{IsOfOpening}
use Rattle.sqlite.specs.Tree.{Trees}
use Rattle.store_desk.specs.Desk.{HasBeside, StandsFor}
use Rattle.store_desk.specs.Reopened.{AreTreesIn}
use Rattle.store_desk.specs.Unopened.{fault_of_files, HaveOctets, IsUnopened, RestLeaves, WasSealed}
use Rattle.store_desk.specs.declared.reopening.Unopened.TheVariants as left
use Rattle.store_desk.proofs.UnopenedLemmas.{IsReady, AreSealedIn, rest_leaves}

-- ---- a file of which no call was recorded but its first

module _ (log db : List ℕ) (is_log wanted : Bool) (history : List Event) (key : ℕ) (which : is_log ≡ wanted) (fresh : history ≡ settled key ∷ []) where
  pub seen_is : (replay (cond is_log log db) history).seen ≡ cond wanted log db
  seen_is = rw (which, fresh)

  pub left_is : (mixes : Bool) (c : List ℕ) → (let m = replay (cond is_log log db) history in MayLeave mixes m.seen m.synced m.steps c) → c ≡ cond wanted log db
  left_is mixes c may =
      elim (subst (λ b. MayLeave mixes (replay (cond b log db) (settled key ∷ [])).seen (replay (cond b log db) (settled key ∷ [])).synced (replay (cond b log db) (settled key ∷ [])).steps c) which
      (subst (λ h. MayLeave mixes (replay (cond is_log log db) h).seen (replay (cond is_log log db) h).synced (replay (cond is_log log db) h).steps c) fresh may)) as (λ _. c ≡ cond wanted log db) [ inl is ↦ is | inr is ↦ is ]

  pub honest_is : IsTrue (replay (cond is_log log db) history).is_honest
  honest_is = rw (which, fresh) refl

abbrev octets : List ℕ → List ℕ → Image
octets log db = record { log = log; db = db }

both_same : (left image : Image) → left.log ≡ image.log → left.db ≡ image.db → left ≡ image
both_same left image log db = ap₂ octets log db

pub octets_by : {D : Type 0} {g : Ghosts D} (files : Files D) (image : Image) → g.seen files.log ≡ image.log → g.seen files.db ≡ image.db
    → ((c : List ℕ) → g.may_leave files.log c → c ≡ image.log) → ((c : List ℕ) → g.may_leave files.db c → c ≡ image.db) → IsTrue (g.is_clean files.log) → IsTrue (g.is_clean files.db) → HaveOctets g image files
octets_by {D} {g} files image log db log_only db_only log_clean db_clean = record {
  seen = ap₂ octets log db;
  only = λ left out. both_same left image (log_only left.log out.0) (db_only left.db out.1);
  clean = and_from (g.is_clean files.log) (g.is_clean files.db) log_clean db_clean;
}

-- what stands in the octets is there where `sqlite` had begun to write them
ready_by : {D : Type 0} {g : Ghosts D} (files : Files D) (image : Image) (P : Trees → Type 0) (each : (left : Image) → outcomes g files.log files.db left → ∥ AreTreesIn P left ∥₁)
    (stay : outcomes g files.log files.db (image_of g files)) → image_of g files ≡ image → AreTreesIn P image → (now : Leftover D g) → WasSealed image now → IsReady files P each stay now
ready_by {D} {g} files image P each stay seen stands (left_of.Files now) was = tt
ready_by {D} {g} files image P each stay seen stands (left_of.Unopened now) was = subst (λ i. ∥ AreSealedIn P i ∥₁) (sym seen) ∣ (stands.0, (stands.1, was stands.0 stands.1), stands.2) ∣₁
ready_by {D} {g} files image P each stay seen stands (left_of.Store now) was = tt

-- what is left of them leaves such trees
rest_by : {D : Type 0} {g : Ghosts D} (image : Image) (stays : SeenMayStay g) (files : Files D) → HaveOctets g image files → (now : Leftover D g) → LeavesFiles files now → (P : Trees → Type 0)
    → AreTreesIn P image → WasSealed image now → RestLeaves P now
rest_by {D} {g} image stays files octets now unharmed P stands was =
    let each : (left : Image) → outcomes g files.log files.db left → ∥ AreTreesIn P left ∥₁ = λ left out. ∣ (subst (AreTreesIn P) (sym (octets.only left out)) stands) ∣₁ in
    let stay : outcomes g files.log files.db (image_of g files) = (stays files.log, stays files.db) in
    rest_leaves files P each stay now (ready_by files image P each stay octets.seen stands now was) unharmed

module _ {D : Type 0} {g : Ghosts D} (image : Image) (stays : SeenMayStay g) (error : Error) (fault : Fault) (told : fault ≡ fault_of_files error) (kind : IsOfOpening fault) (named : IsTrue (is_open_error error)) where
  pub unopened_from : (it : Option (Leftover D g)) → (it ≡ None → (error ≡ SqliteFailure code.CannotOpen) ⊎ ((error ≡ SqliteFailure code.OutOfMemory) ⊎ (error ≡ SqliteFailure code.DatabaseBusy)))
      → IfSome it (λ now. (files : Files D) × HaveOctets g image files × (IsCleanLeft now → FailsToOpenFiles files now error × LeavesFiles files now)) → IsUnopened image (left.Files it) fault
  unopened_from None none some = (error, told, none refl)
  unopened_from (Some now) none some =
      record {
        files = some.0;
        octets = some.1;
        why = record { error = error; named = named; told = told; kind = kind; cause = λ still. (some.2 still).0; unharmed = λ still. (some.2 still).1 };
        leaves = λ m stands was still. rest_by image stays some.0 some.1 now (some.2 still).1 (StandsFor m) stands was;
        beside = λ db stands was still. rest_by image stays some.0 some.1 now (some.2 still).1 (HasBeside db) stands was;
      }
