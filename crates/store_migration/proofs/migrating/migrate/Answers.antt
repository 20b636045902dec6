use Rattle.std.proofs.Common.{◌∙◌, ℤ, List, inl, inr, refl, subst}
use Rattle.std.specs.Prelude.{IsTrue, Result, Ok, Err, OnErr, OnOk}
use Rattle.std.proofs.lemmas.Result.{IfErr-weaker, on_ok_weaker}
use Rattle.sqlite.proofs.StateLemmas.{survives_weaker}
use Rattle.dict_catalogue.specs.Views.{summary_shown}
use Rattle.store_migration.specs.FailurePlaces.{InRenewal}
use Rattle.store_migration.specs.Failing.{MigrationFailsInside, MigrationFailsToEnd, FailsToMigrate}
use Rattle.store_migration.proofs.KitLemmas.{Database, state, was_clean}
use Rattle.store_migration.proofs.FailLemmas.{why_not_begun}
use Rattle.store_migration.specs.Migrated.{MayMigrate}
use Rattle.store_holdings.specs.Committed.{IsTreesOf}
use Rattle.store_holdings.specs.Faults.{fault_of_read}
use Rattle.store_holdings.specs.Writing.{FailsBefore}
use Rattle.store_migration.specs.Moved.{IsRenewed, IsOutcome}
use Rattle.store_migration.proofs.StopLemmas.{is_old, outcome_holds, outcome_left, outcome_may, outcome_migrated, outcome_spares}
use Rattle.store_migration.specs.Spared.{SparesOthers}
use Rattle.store_migration.proofs.migrating.migrate.Goals as goal

pub migrate_from-requires-clause-old : goal.migrate_from-requires-clause-old
migrate_from-requires-clause-old g c clean open' =
    let it = c.requires.holds clean open' in
    is_old c.args.version c.older_layout.result c.older_layout.ensures (state g.S.Store c.args.conn.now) it.0 it.1 (c.is_live.ensures open').0

pub returns-clause-rests : goal.returns-clause-rests
returns-clause-rests g c clean =
    let start = c.requires.holds (was_clean c.migrate_from.ensures.crash clean) in
    on_ok_weaker c.migrate_from.result
    (λ made M held.
    let numbers = c.deref.ensures.value ∙ c.in-Ok.ensures.same in
    record { is_open = made.is_open; settled = made.settled; holds = outcome_holds c.older_layout.ensures c.requires.older.1 start c.is_live.ensures numbers _ made.holds M held })
    (c.migrate_from.ensures.made clean)

pub returns-clause-migrated : goal.returns-clause-migrated
returns-clause-migrated g c clean =
    let start = c.requires.holds (was_clean c.migrate_from.ensures.crash clean) in
    on_ok_weaker c.migrate_from.result (λ made. outcome_migrated c.older_layout.ensures c.requires.older.1 start c.is_live.ensures (c.deref.ensures.value ∙ c.in-Ok.ensures.same) _ made.holds) (c.migrate_from.ensures.made clean)

pub returns-clause-moved : goal.returns-clause-moved
returns-clause-moved g c clean =
    let old = state g.S.Store c.args.conn.now in
    let new = state g.S.Store c.migrate_from.new.conn in
    let older = c.older_layout.result in
    let installs = c.args.summary.now.installs in
    let start = c.requires.holds (was_clean c.migrate_from.ensures.crash clean) in
    on_ok_weaker c.migrate_from.result
    (λ made.
    let committed = subst (λ (d : Database). IsRenewed older c.deref.result.now installs d new.committed) (start made.holds.was_open).1.settled made.holds.moved in
    (older, c.older_layout.ensures, subst (λ ns. IsRenewed older ns installs old.committed new.committed) (c.deref.ensures.value ∙ c.in-Ok.ensures.same) committed))
    (c.migrate_from.ensures.made clean)

pub returns-clause-spares : goal.returns-clause-spares
returns-clause-spares g c clean =
    let start = c.requires.holds (was_clean c.migrate_from.ensures.crash clean) in
    on_ok_weaker c.migrate_from.result (λ made. outcome_spares c.older_layout.ensures c.requires.older.1 start c.is_live.ensures (c.deref.ensures.value ∙ c.in-Ok.ensures.same) _ made.holds) (c.migrate_from.ensures.made clean)

pub returns-clause-only : goal.returns-clause-only
returns-clause-only g c clean =
    let start = c.requires.holds (was_clean c.migrate_from.ensures.crash clean) in
    on_ok_weaker c.migrate_from.result
    (λ made M held trees left. outcome_left c.older_layout.ensures c.requires.older.1 start c.is_live.ensures (c.deref.ensures.value ∙ c.in-Ok.ensures.same) trees (made.only trees left) M held)
    (c.migrate_from.ensures.made clean)

pub returns-clause-crash : goal.returns-clause-crash
returns-clause-crash g c =
    survives_weaker _ _ _ (MayMigrate (state g.S.Store c.args.conn.now))
    (λ clean trees left.
    let start = c.requires.holds (was_clean c.migrate_from.ensures.crash clean) in
    outcome_may c.older_layout.ensures c.requires.older.1 start c.is_live.ensures (c.deref.ensures.value ∙ c.in-Ok.ensures.same) c.requires.older.0 trees left)
    c.migrate_from.ensures.crash

pub returns-clause-beside : goal.returns-clause-beside
returns-clause-beside g c =
    let old = state g.S.Store c.args.conn.now in
    survives_weaker _ _ _ (λ trees. IsTrue old.is_open × IsTreesOf (SparesOthers old.committed) trees)
    (λ clean trees left.
    let start = c.requires.holds (was_clean c.migrate_from.ensures.crash clean) in
    (left.3.was_open, (left.0, left.1, left.2, outcome_spares c.older_layout.ensures c.requires.older.1 start c.is_live.ensures (c.deref.ensures.value ∙ c.in-Ok.ensures.same) left.0 left.3)))
    c.migrate_from.ensures.crash

pub returns-in-Err-clause-failed : goal.returns-in-Err-clause-failed
returns-in-Err-clause-failed g c clean =
    inl (record { same = refl; why = why_not_begun (summary_shown c.args.summary.now) c.in-Err.error c.fault_of_read.result c.fault_of_read.ensures.is c.in-Err.ensures.failed })

pub returns-clause-failed : goal.returns-clause-failed
returns-clause-failed g c clean =
    let new = c.migrate_from.new.conn in
    let older = c.older_layout.result in
    let installs = c.args.summary.now.installs in
    let start = c.requires.holds (was_clean c.migrate_from.ensures.crash clean) in
    let numbers = c.deref.ensures.value ∙ c.in-Ok.ensures.same in
    IfErr-weaker c.migrate_from.result (MigrationFailsToEnd g.S.Store older c.deref.result.now installs (IsOutcome older c.deref.result.now installs (state g.S.Store c.args.conn.now)) c.args.conn.now new)
    (FailsToMigrate g.S.Store c.args.version (summary_shown c.args.summary.now) c.args.conn.now new)
    (λ fault h. inr (record {
      older = older;
      layout = c.older_layout.ensures;
      why = elim h [
        | inl before ↦ inl (subst (λ (l : List ℤ). FailsBefore g.S.Store fault_of_read (MigrationFailsInside g.S.Store (InRenewal older l installs)) c.args.conn.now new fault) numbers before)
        | inr last ↦
            let written = outcome_holds c.older_layout.ensures c.requires.older.1 start c.is_live.ensures numbers _ last.written in
            let ran = subst (λ (l : List ℤ). IsRenewed older l installs (state g.S.Store c.args.conn.now).now (state g.S.Store last.last).now) numbers last.ran in
            inr (record { told = last.told; last = last.last; ran = ran; before = last.before; written = written; error = last.error; fails = last.fails })
      ];
    }))
    (c.migrate_from.ensures.failed clean)

either_way : {X E : Type 0} (result : Result X E) (P Q A : Type 0) → (P → A) → (Q → A) → OnOk result P → OnErr result Q → A
either_way (Ok x) P Q A f h p q = f p
either_way (Err e) P Q A f h p q = h q

pub returns-clause-lives : goal.returns-clause-lives
returns-clause-lives g c clean opened =
    either_way c.migrate_from.result _ _ _ (λ made. made.holds.was_open) (λ stays. stays.was_open opened) (c.migrate_from.ensures.made clean) (c.migrate_from.ensures.stays clean)
