use Rattle.std.proofs.Common.{◌≡◌, inl, inr, rules, sym, subst}
use Rattle.sqlite.specs.State.{KeepsCommit}
use Rattle.dict_catalogue.specs.Steps.{empty_catalogue}
use Rattle.store_holdings.specs.Faults.{fault_of}
use Rattle.store_holdings.specs.Holds.{Holds}
use Rattle.store_migration.specs.Making.{creation, StepsRunInTurn, StepsFailInTurn}
use Rattle.store_migration.proofs.KitLemmas.{HasCleanDisk, state, was_clean}
use Rattle.store_migration.proofs.StopLemmas.{ends_undone, ends_survives, ends_made, ends_at_last, ends_stays}
use Rattle.store_migration.proofs.making.commit_tables.Goals as goal
use Rattle.store_rows.specs.Versions.{known}
use Rattle.store_migration.specs.Spared.{SparesOthers}

pub returns-in-Ok-clause-rests : goal.returns-in-Ok-clause-rests
returns-in-Ok-clause-rests g c clean =
    let same : c.commit.new.tx.0 ≡ c.conn-2-1.given.0 = search rules in
    let it = ends_made g.S.Store (λ db. Holds known db empty_catalogue) c.args.conn.now c.make_all.new.tx.conn.now c.transaction-tx.ensures.begun c.make_all.ensures.survives c.commit.ensures.survives same c.in_default.ensures.made
    (λ late. (c.in-Ok.ensures.committed late).1) c.in-Ok.ensures.only clean in
    record { is_open = it.is_open; settled = it.settled; holds = it.holds }

pub returns-in-Ok-clause-spares : goal.returns-in-Ok-clause-spares
returns-in-Ok-clause-spares g c clean =
    let old = state g.S.Store c.args.conn.now in
    let mid = c.make_all.new.tx.conn.now in
    let same : c.commit.new.tx.0 ≡ c.conn-2-1.given.0 = search rules in
    let it = ends_made g.S.Store (SparesOthers old.now) c.args.conn.now mid c.transaction-tx.ensures.begun c.make_all.ensures.survives c.commit.ensures.survives same
    (λ early. (subst (λ h. SparesOthers (state g.S.Store h).now (state g.S.Store mid).now) c.transaction-tx.ensures.begun (c.in_default.ensures.spares early), (c.in_default.ensures.made early).1))
    (λ late. (c.in-Ok.ensures.committed late).1) c.in-Ok.ensures.only clean in
    subst (SparesOthers old.now) (sym it.settled) it.holds

pub returns-in-Ok-clause-only : goal.returns-in-Ok-clause-only
returns-in-Ok-clause-only g c clean =
    let same : c.commit.new.tx.0 ≡ c.conn-2-1.given.0 = search rules in
    let it = ends_made g.S.Store (λ db. Holds known db empty_catalogue) c.args.conn.now c.make_all.new.tx.conn.now c.transaction-tx.ensures.begun c.make_all.ensures.survives c.commit.ensures.survives same c.in_default.ensures.made
    (λ late. (c.in-Ok.ensures.committed late).1) c.in-Ok.ensures.only clean in
    it.only

pub returns-in-Ok-clause-lives : goal.returns-in-Ok-clause-lives
returns-in-Ok-clause-lives g c clean =
    let same : c.commit.new.tx.0 ≡ c.conn-2-1.given.0 = search rules in
    let late = subst (λ h. HasCleanDisk (state g.S.Store h)) (sym same) clean in
    let keeps = subst (λ h. KeepsCommit (state g.S.Store h) (state g.S.Store c.make_all.new.tx.conn.now)) c.transaction-tx.ensures.begun (c.make_all.ensures.keeps (was_clean c.commit.ensures.survives late)) in
    keeps.was_open (c.in-Ok.ensures.committed late).1.was_open

pub returns-in-Ok-clause-crash : goal.returns-in-Ok-clause-crash
returns-in-Ok-clause-crash g c =
    let same : c.commit.new.tx.0 ≡ c.conn-2-1.given.0 = search rules in
    ends_survives g.S.Store (λ db. Holds known db empty_catalogue) c.args.conn.now c.make_all.new.tx.conn.now c.transaction-tx.ensures.begun c.make_all.ensures.survives c.commit.ensures.survives same c.in_default.ensures.made

pub returns-in-Err-commit-clause-crash : goal.returns-in-Err-commit-clause-crash
returns-in-Err-commit-clause-crash g c =
    let same : c.commit.new.tx.0 ≡ c.conn-2-1.given.0 = search rules in
    ends_survives g.S.Store (λ db. Holds known db empty_catalogue) c.args.conn.now c.make_all.new.tx.conn.now c.transaction-tx.ensures.begun c.make_all.ensures.survives c.commit.ensures.survives same c.in_default.ensures.made

pub returns-in-Ok-clause-beside : goal.returns-in-Ok-clause-beside
returns-in-Ok-clause-beside g c =
    let mid = c.make_all.new.tx.conn.now in
    let same : c.commit.new.tx.0 ≡ c.conn-2-1.given.0 = search rules in
    ends_survives g.S.Store (SparesOthers (state g.S.Store c.args.conn.now).now) c.args.conn.now mid c.transaction-tx.ensures.begun c.make_all.ensures.survives c.commit.ensures.survives same
    (λ early. (subst (λ h. SparesOthers (state g.S.Store h).now (state g.S.Store mid).now) c.transaction-tx.ensures.begun (c.in_default.ensures.spares early), (c.in_default.ensures.made early).1))

pub returns-in-Err-commit-clause-beside : goal.returns-in-Err-commit-clause-beside
returns-in-Err-commit-clause-beside g c =
    let mid = c.make_all.new.tx.conn.now in
    let same : c.commit.new.tx.0 ≡ c.conn-2-1.given.0 = search rules in
    ends_survives g.S.Store (SparesOthers (state g.S.Store c.args.conn.now).now) c.args.conn.now mid c.transaction-tx.ensures.begun c.make_all.ensures.survives c.commit.ensures.survives same
    (λ early. (subst (λ h. SparesOthers (state g.S.Store h).now (state g.S.Store mid).now) c.transaction-tx.ensures.begun (c.in_default.ensures.spares early), (c.in_default.ensures.made early).1))

pub returns-in-Err-clause-failed : goal.returns-in-Err-clause-failed
returns-in-Err-clause-failed g c clean =
    let same : c.drop-tx.new.self.0 ≡ c.conn-1.given.0 = search rules in
    inl (ends_undone g.S.Store fault_of (StepsFailInTurn g.S.Store (creation known)) c.args.conn.now c.make_all.new.tx.conn.now c.in-Err.error c.transaction-tx.ensures.begun c.drop-tx.ensures.survives c.drop-tx.ensures.undone same
    c.fault_of.ensures c.in-Err.ensures.failed clean)

pub returns-in-Err-commit-clause-failed : goal.returns-in-Err-commit-clause-failed
returns-in-Err-commit-clause-failed g c clean =
    let same : c.commit.new.tx.0 ≡ c.conn-2-1.given.0 = search rules in
    inr (ends_at_last g.S.Store (λ db. Holds known db empty_catalogue) c.args.conn.now c.make_all.new.tx.conn.now c.transaction-tx.ensures.begun c.make_all.ensures.survives c.commit.ensures.survives same c.in_default.ensures.inside
    c.in-Err-commit.ensures.failed (StepsRunInTurn g.S.Store (creation known)) c.in_default.ensures.ran (λ early. (c.in_default.ensures.made early).0) clean)

pub returns-in-Err-commit-clause-stays : goal.returns-in-Err-commit-clause-stays
returns-in-Err-commit-clause-stays g c =
    let same : c.commit.new.tx.0 ≡ c.conn-2-1.given.0 = search rules in
    ends_stays g.S.Store (λ _. ⊥) c.args.conn.now c.make_all.new.tx.conn.now c.transaction-tx.ensures.begun c.make_all.ensures.survives c.commit.ensures.survives same
    c.in_default.ensures.inside c.in-Err-commit.ensures.failed c.make_all.ensures.keeps
