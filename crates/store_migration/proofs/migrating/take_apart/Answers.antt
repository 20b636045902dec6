use Rattle.std.proofs.Common.{inl, inr, refl}
use Rattle.store_migration.proofs.KitLemmas.{state, passed_on, was_clean, two_survive}
use Rattle.store_migration.proofs.FailLemmas.{fails_here, fails_later, making_parts}
use Rattle.store_migration.proofs.FlowLemmas.{gone_later, made_gone, made_three, part_free, parted_schema}
use Rattle.store_migration.proofs.migrating.take_apart.Goals as goal

pub create_part_table-requires : goal.create_part_table-requires
create_part_table-requires g c clean open' = part_free c.args.layout _ (c.requires clean open').own

pub part_editions-requires : goal.part_editions-requires
part_editions-requires g c clean open' =
    let made = c.in_ok-create_part_table.ensures.made clean in
    made_three c.args.layout _ _ (c.requires (was_clean c.create_part_table.ensures.survives clean) made.1.was_open) made.0

pub drop_old-requires : goal.drop_old-requires
drop_old-requires g c clean open' =
    let clean1 = was_clean c.part_editions.ensures.survives clean in
    let made = c.in_ok-create_part_table.ensures.made clean1 in
    let old = c.requires (was_clean c.create_part_table.ensures.survives clean1) made.1.was_open in
    let s1 = state g.S.Store (g.T.OpenTransaction.held c.create_part_table.new.tx) in
    gone_later c.args.layout s1.now (state g.S.Store (g.T.OpenTransaction.held c.part_editions.new.tx)).now (parted_schema c.args.layout _ _ _ _ (c.in_ok-headers.ensures.parted clean)) (made_gone c.args.layout _ _ old made.0)

pub returns-clause-apart : goal.returns-clause-apart
returns-clause-apart g c clean =
    let clean2 = was_clean c.drop_old.ensures.survives clean in
    let made = c.in_ok-create_part_table.ensures.made (was_clean c.part_editions.ensures.survives clean2) in
    record { with_table = _; with_files = _; made = made.0; parted = c.in_ok-headers.ensures.parted clean2; gone = c.in_ok-drop_old.ensures.gone clean }

pub returns-clause-opened : goal.returns-clause-opened
returns-clause-opened g c clean = (c.in_ok-create_part_table.ensures.made (was_clean c.part_editions.ensures.survives (was_clean c.drop_old.ensures.survives clean))).1.was_open

pub returns-in_err-create_part_table-clause-failed : goal.returns-in_err-create_part_table-clause-failed
returns-in_err-create_part_table-clause-failed g c clean = passed_on _ _ _ c.from_residual.ensures.1 (fails_here making_parts (inl (refl, refl)) (c.in_err-create_part_table.ensures.failed clean))

pub returns-in_err-headers-clause-failed : goal.returns-in_err-headers-clause-failed
returns-in_err-headers-clause-failed g c clean =
    let made = c.in_ok-create_part_table.ensures.made (was_clean c.part_editions.ensures.survives clean) in
    passed_on _ _ _ c.from_residual-in_err-headers.ensures.1
    (fails_later c.create_part_table.ensures.survives (λ begun. made.1.mode) (λ part at it. inr (_, made.0, inl it)) (c.in_err-headers.ensures.failed clean))

pub returns-in_err-drop_old-clause-failed : goal.returns-in_err-drop_old-clause-failed
returns-in_err-drop_old-clause-failed g c clean =
    let early = was_clean c.drop_old.ensures.survives clean in
    let made = c.in_ok-create_part_table.ensures.made (was_clean c.part_editions.ensures.survives early) in
    passed_on _ _ _ c.from_residual-in_err-drop_old.ensures.1
    (fails_later (two_survive _ _ _ c.create_part_table.ensures.survives c.part_editions.ensures.survives) (λ begun. c.in_ok-headers.ensures.inside early made.1.mode)
    (λ part at it. inr (_, made.0, inr (_, (_, c.in_ok-headers.ensures.parted early, it)))) (c.in_err-drop_old.ensures.failed clean))
