-- A migration that failed behind a reading, told of the database as it was before.
use Rattle.std.proofs.Common.{◌≡◌, ◌⊎◌, inl, inr, ℕ, true, List, map, pos, sym, ap, subst, refl}
use Rattle.std.proofs.lemmas.Bool.{false≢true}
use Rattle.sqlite.specs.Effect.{Database}
use Rattle.sqlite.specs.Held.{Held, state}
use Rattle.sqlite.specs.State.{Survives}
use Rattle.sqlite.proofs.StateLemmas.{survives_then}
use Rattle.sqlite_trees.specs.declared.store.Store.{Ghosts}
use Rattle.dict_catalogue.specs.Items.{edition_numbers}
use Rattle.dict_catalogue.specs.Tests.{Holdings}
use Rattle.dict_desk.specs.Faults.{is_disk}
use Rattle.dict_desk.specs.declared.fault.Fault.{Fault}
use Rattle.dict_desk.specs.declared.fault.Fault.TheVariants.{Disk}
use Rattle.store_holdings.specs.Faults.{fault_of_read}
use Rattle.store_holdings.specs.Holds.{Holds}
use Rattle.store_holdings.specs.Writing.{FailsBefore}
use Rattle.store_migration.specs.Failing.{MigrationFailsInside, FailsToMigrate, FailsToMoveEditions, IsBeyond}
use Rattle.store_migration.specs.FailurePlaces.{FailurePlace}
use Rattle.store_migration.specs.Moved.{IsRenewed}

module _ {S : Type 0} (g : Ghosts S) (conn read left : Held S) (survives : Survives (state g conn) (state g read) (λ _. ⊥)) where
  -- the same, where a transaction was begun on both
  begun : Survives (state g (record conn { in_transaction = true })) (state g (record read { in_transaction = true })) (λ _. ⊥)
  begun = record { clean = survives.clean; shield = survives.shield; counts = survives.counts; limit = survives.limit; closes = survives.closes; crash = survives.crash }

  before_read : (P : FailurePlace) (fault : Fault) → (state g read).now ≡ (state g conn).now → FailsBefore g fault_of_read (MigrationFailsInside g P) read left fault
      → FailsBefore g fault_of_read (MigrationFailsInside g P) conn left fault
  before_read P fault same h = record {
    error = h.error;
    told = h.told;
    last = h.last;
    within = record {
      at = h.within.at;
      before = survives_then (state g (record conn { in_transaction = true })) (state g (record read { in_transaction = true })) (state g h.within.at) (λ _. ⊥) (λ _. ⊥) (λ _. ⊥) (λ _ db none. none) (λ _ db none. none) begun h.within.before;
      inside = λ _. h.within.inside refl;
      part = h.within.part;
      place = subst (λ (db : Database). P h.within.part db (state g h.within.at).now) same h.within.place;
      fails = h.within.fails;
    };
    after = h.after;
    undone = h.undone;
  }

  moves_read : (version : ℕ) (summary : Holdings (List ℕ)) (fault : Fault) → (state g read).now ≡ (state g conn).now → (state g read).committed ≡ (state g conn).committed
      → FailsToMoveEditions g version summary read left fault → FailsToMoveEditions g version summary conn left fault
  moves_read version summary fault same committed h = record {
    older = h.older;
    layout = h.layout;
    why = elim h.why [
      | inl before ↦ inl (before_read _ fault same before)
      | inr l ↦ inr (record {
        told = l.told;
        last = l.last;
        ran = subst (λ (db : Database). IsRenewed h.older (map pos (edition_numbers summary.items)) summary.installs db (state g l.last).now) same l.ran;
        before = survives_then (state g conn) (state g read) (state g l.last) (λ _. ⊥) (λ _. ⊥) (λ _. ⊥) (λ _ db none. none) (λ _ db none. none) survives l.before;
        written = λ M held. l.written M (subst (λ (d : Database). Holds version d M) (sym committed) held);
        error = l.error;
        fails = l.fails;
      })
    ];
  }

  pub renews_read : (version : ℕ) (summary : Holdings (List ℕ)) → (state g read).now ≡ (state g conn).now → (state g read).committed ≡ (state g conn).committed → FailsToMigrate g version summary read left Disk
      → IsBeyond summary ⊎ FailsToMoveEditions g version summary conn left Disk
  renews_read version summary same committed (inl h) = elim h.why [
    | inl memory ↦ absurd (false≢true (sym (ap is_disk memory)))
    | inr disk ↦ inl disk.1
  ]
  renews_read version summary same committed (inr h) = inr (moves_read version summary Disk same committed h)
