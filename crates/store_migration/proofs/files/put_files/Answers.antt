use Rattle.std.proofs.Common.{◌∙◌, ◌<◌, ◌≤◌, map, length, refl, ap, subst, arith, codes}
use Rattle.std.proofs.lemmas.List.{take_all}
use Rattle.store_tables.proofs.AddedLemmas.{none_added}
use Rattle.store_migration.specs.Written.{parts_in}
use Rattle.store_migration.proofs.KitLemmas.{HasCleanDisk, part as part_table, AreAdded, state, still_has, goes_keeps, keeps_then, passed_on, keeps_none, none_more, was_clean, two_survive, lent_part, part_row}
use Rattle.store_migration.proofs.FailLemmas.{fails_by, row_placed, row_more, putting}
use Rattle.store_migration.proofs.files.put_files.Goals as goal

pub each-init : goal.each-init
each-init g c = record { same_reference = refl; added = λ clean. none_added (codes "dictcat_part") _; inside = λ clean h. h; keeps = λ clean. keeps_none _; survives = none_more _ }

pub insert_part-requires : goal.insert_part-requires
insert_part-requires g c clean open' =
    let own = c.requires (was_clean c.each.invariant.survives clean) ((c.each.invariant.keeps clean).was_open open') in
    still_has part_table (state g.S.Store (g.T.OpenTransaction.held c.args.tx.now)).now (state g.S.Store (g.T.OpenTransaction.held c.each.tx)).now (c.each.invariant.added clean).schema own

pub each-preserved : goal.each-preserved
each-preserved g c =
    let all = parts_in c.args.files.now in
    let one = lent_part c.part-given.result in
    let within : c.each.place < length all = omega (arith, c.each-test.true, c.part_count-count.ensures) in
    let was = λ (clean : HasCleanDisk (state g.S.Store (g.T.OpenTransaction.held c.insert_part.new.tx))). was_clean c.insert_part.ensures.survives clean in
    record {
      same_reference = c.insert_part.ensures.same_reference ∙ c.each.invariant.same_reference;
      added = λ clean. row_more (codes "dictcat_part") part_row all c.each.place one (part_row one) within (ap part_row c.part-given.ensures) _ _ (c.each.invariant.added (was clean)) _ (c.in_ok-insert_part.ensures.added clean).0;
      inside = λ clean h. (c.in_ok-insert_part.ensures.added clean).1.mode;
      keeps = λ clean. keeps_then _ _ _ (c.each.invariant.keeps (was clean)) (goes_keeps _ _ (c.in_ok-insert_part.ensures.added clean).1);
      survives = two_survive _ _ _ c.each.invariant.survives c.insert_part.ensures.survives;
    }

pub returns-clause-added : goal.returns-clause-added
returns-clause-added g c clean =
    let all = parts_in c.args.files.now in
    let past : length all ≤ c.each.place = omega (arith, c.each-test.false, c.part_count-count.ensures) in
    subst (λ l. AreAdded (codes "dictcat_part") (map part_row l) (state g.S.Store (g.T.OpenTransaction.held c.args.tx.now)).now (state g.S.Store (g.T.OpenTransaction.held c.each.tx)).now) (take_all c.each.place all past)
    (c.each.invariant.added clean)

pub returns-in_err-insert_part-clause-failed : goal.returns-in_err-insert_part-clause-failed
returns-in_err-insert_part-clause-failed g c clean =
    let all = parts_in c.args.files.now in
    let early = was_clean c.insert_part.ensures.survives clean in
    let one = lent_part c.part-given.result in
    let within : c.each.place < length all = omega (arith, c.each-test.true, c.part_count-count.ensures) in
    passed_on _ _ _ c.from_residual.ensures.1
    (fails_by (g.T.OpenTransaction.held c.each.tx) (putting (codes "dictcat_part") (part_row one)) c.each.invariant.survives (c.each.invariant.inside early)
    (row_placed (codes "dictcat_part") part_row all c.each.place one (part_row one) within (ap part_row c.part-given.ensures) _ _ (c.each.invariant.added early)) (c.in_err-insert_part.ensures.failed clean))
