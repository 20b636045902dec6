use Rattle.std.proofs.Common.{◌≡◌, rules, inl, inr}
use Rattle.store_holdings.specs.Faults.{fault_of_read}
use Rattle.store_migration.specs.FailurePlaces.{InRenewal}
use Rattle.store_migration.specs.Failing.{MigrationFailsInside}
use Rattle.store_migration.specs.Moved.{IsRenewed}
use Rattle.store_migration.proofs.KitLemmas.{state}
use Rattle.store_migration.proofs.StopLemmas.{outcome_of, ends_undone, ends_survives, ends_made, ends_at_last, ends_stays}
use Rattle.store_migration.proofs.migrating.migrate_from.Goals as goal

pub returns-in-Ok-clause-made : goal.returns-in-Ok-clause-made
returns-in-Ok-clause-made g c =
    let same : c.commit.new.tx.0 ≡ c.conn-2-1.given.0 = search rules in
    ends_made g.S.Store _ c.args.conn.now c.migrate_inside.new.tx.conn.now c.transaction-tx.ensures.begun c.migrate_inside.ensures.survives c.commit.ensures.survives same
    (λ clean. (let it = c.in_default.ensures.moved clean in (outcome_of g.S.Store _ _ _ c.args.conn.now _ _ c.transaction-tx.ensures.begun it.0, it.1))) (λ late. (c.in-Ok.ensures.committed late).1) c.in-Ok.ensures.only

pub returns-in-Ok-clause-crash : goal.returns-in-Ok-clause-crash
returns-in-Ok-clause-crash g c =
    let same : c.commit.new.tx.0 ≡ c.conn-2-1.given.0 = search rules in
    ends_survives g.S.Store _ c.args.conn.now c.migrate_inside.new.tx.conn.now c.transaction-tx.ensures.begun c.migrate_inside.ensures.survives c.commit.ensures.survives same
    (λ clean. (let it = c.in_default.ensures.moved clean in (outcome_of g.S.Store _ _ _ c.args.conn.now _ _ c.transaction-tx.ensures.begun it.0, it.1)))

pub returns-in-Err-commit-clause-crash : goal.returns-in-Err-commit-clause-crash
returns-in-Err-commit-clause-crash g c =
    let same : c.commit.new.tx.0 ≡ c.conn-2-1.given.0 = search rules in
    ends_survives g.S.Store _ c.args.conn.now c.migrate_inside.new.tx.conn.now c.transaction-tx.ensures.begun c.migrate_inside.ensures.survives c.commit.ensures.survives same
    (λ clean. (let it = c.in_default.ensures.moved clean in (outcome_of g.S.Store _ _ _ c.args.conn.now _ _ c.transaction-tx.ensures.begun it.0, it.1)))

pub returns-in-Err-commit-clause-stays : goal.returns-in-Err-commit-clause-stays
returns-in-Err-commit-clause-stays g c =
    let same : c.commit.new.tx.0 ≡ c.conn-2-1.given.0 = search rules in
    ends_stays g.S.Store (λ _. ⊥) c.args.conn.now c.migrate_inside.new.tx.conn.now c.transaction-tx.ensures.begun c.migrate_inside.ensures.survives c.commit.ensures.survives same
    c.in_default.ensures.inside c.in-Err-commit.ensures.failed c.migrate_inside.ensures.keeps

pub returns-in-Err-clause-failed : goal.returns-in-Err-clause-failed
returns-in-Err-clause-failed g c clean =
    let same : c.drop-tx.new.self.0 ≡ c.conn-1.given.0 = search rules in
    inl (ends_undone g.S.Store fault_of_read (MigrationFailsInside g.S.Store (InRenewal c.args.layout c.args.numbers.now c.args.installs)) c.args.conn.now c.migrate_inside.new.tx.conn.now c.in-Err.error c.transaction-tx.ensures.begun
    c.drop-tx.ensures.survives c.drop-tx.ensures.undone same c.fault_of_read.ensures.is c.in-Err.ensures.failed clean)

pub returns-in-Err-commit-clause-failed : goal.returns-in-Err-commit-clause-failed
returns-in-Err-commit-clause-failed g c clean =
    let same : c.commit.new.tx.0 ≡ c.conn-2-1.given.0 = search rules in
    inr (ends_at_last g.S.Store _ c.args.conn.now c.migrate_inside.new.tx.conn.now c.transaction-tx.ensures.begun c.migrate_inside.ensures.survives c.commit.ensures.survives same c.in_default.ensures.inside c.in-Err-commit.ensures.failed
    (λ begun last. IsRenewed c.args.layout c.args.numbers.now c.args.installs (state g.S.Store begun).now (state g.S.Store last).now) (λ early. (c.in_default.ensures.moved early).0.moved)
    (λ early. outcome_of g.S.Store _ _ _ c.args.conn.now _ _ c.transaction-tx.ensures.begun (c.in_default.ensures.moved early).0) clean)
