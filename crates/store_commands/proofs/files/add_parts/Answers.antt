use Rattle.std.proofs.Common.{◌-◌, ◌<◌, ◌≤◌, refl, subst, arith, map, codes, [], ◌∷◌, ◌∙◌}
use Rattle.std.specs.Prelude.{slice_range}
use Rattle.sqlite.specs.Held.{state}
use Rattle.store_sql.proofs.StreamLemmas.{passed_on}
use Rattle.store_tables.specs.Records.{Part}
use Rattle.store_sql.specs.PartRecords.{lent_part, part_row}
use Rattle.store_commands.specs.Changes.{with_more_parts}
use Rattle.store_commands.specs.Filing.{parts_of_files}
use Rattle.store_commands.specs.Statements.{adding_part}
use Rattle.store_commands.specs.Writes.{WroteStatements, FailsToWrite}
use Rattle.store_commands.proofs.AddLemmas.{range_next, range_end, each_grows}
use Rattle.store_commands.proofs.LoopLemmas.{adding_none, adding_wrote, adding_failed, parts_none, parts_last}
use Rattle.store_commands.proofs.TableLemmas.{has_parts, parts_added}
use Rattle.store_commands.proofs.WriteLemmas.{wrote_added, failed_one, spares_none, spares_added, spares_then, usable_then}
use Rattle.store_commands.proofs.files.add_parts.Goals as goal

pub insert_part-requires : goal.insert_part-requires
insert_part-requires g c = λ clean lives. has_parts (state g.S.Store (g.T.OpenTransaction.held c.loop-done.tx)).now (c.loop-done.invariant.usable clean lives)

pub loop-done-init : goal.loop-done-init
loop-done-init g c =
    let first = (g.T.OpenTransaction.held c.args.tx.now) in
    record {
      same_reference = refl;
      wrote = adding_none g.S.Store adding_part with_more_parts parts_none first;
      usable = c.requires.usable;
      spares = spares_none g.S.Store first;
    }

pub loop-done-preserved : goal.loop-done-preserved
loop-done-preserved g c =
    let first = (g.T.OpenTransaction.held c.args.tx.now) in
    let mid = (g.T.OpenTransaction.held c.loop-done.tx) in
    let new = (g.T.OpenTransaction.held c.insert_part.new.tx) in
    let all = parts_of_files c.args.files.now in
    let from = c.args.from in
    let to = c.args.to in
    let i = c.loop-done.done in
    let one : Part = lent_part c.part-given.result in
    let low : i < to - from = omega (arith, c.loop-done-test.true) in
    let spares = spares_added g.S.Store (codes "dictcat_part") (part_row one) mid new c.insert_part.ensures.survives c.insert_part.result c.insert_part.ensures.added c.insert_part.ensures.failed in
    let wrote : WroteStatements g.S.Store (map adding_part (one ∷ [])) (with_more_parts (one ∷ [])) mid new = wrote_added g.S.Store (codes "dictcat_part") (part_row one) mid new c.insert_part.ensures.survives
    (with_more_parts (one ∷ [])) (parts_added one) c.in_ok-insert_part.ensures.added in
    record {
      same_reference = c.insert_part.ensures.same_reference ∙ c.loop-done.invariant.same_reference;
      wrote = adding_wrote g.S.Store adding_part with_more_parts parts_last (λ l. l) (slice_range all from to) i (one ∷ []) (range_next all from to i one c.requires.ordered c.requires.within low c.part-given.ensures)
          first mid new c.loop-done.invariant.wrote spares wrote;
      usable = usable_then g.S.Store (map adding_part (one ∷ [])) (with_more_parts (one ∷ [])) mid new c.loop-done.invariant.usable wrote spares;
      spares = spares_then g.S.Store first mid new c.loop-done.invariant.spares spares;
    }

pub returns-clause-wrote : goal.returns-clause-wrote
returns-clause-wrote g c =
    let all = parts_of_files c.args.files.now in
    let past : c.args.to - c.args.from ≤ c.loop-done.done = omega (arith, c.loop-done-test.false) in
    subst (λ l. WroteStatements g.S.Store (map adding_part l) (with_more_parts l) (g.T.OpenTransaction.held c.args.tx.now) (g.T.OpenTransaction.held c.loop-done.tx))
    (range_end all c.args.from c.args.to c.loop-done.done c.requires.ordered c.requires.within past) c.loop-done.invariant.wrote

pub returns-in_err-insert_part-clause-spares : goal.returns-in_err-insert_part-clause-spares
returns-in_err-insert_part-clause-spares g c =
    let first = (g.T.OpenTransaction.held c.args.tx.now) in
    let mid = (g.T.OpenTransaction.held c.loop-done.tx) in
    let new = (g.T.OpenTransaction.held c.insert_part.new.tx) in
    let one : Part = lent_part c.part-given.result in
    let spares = spares_added g.S.Store (codes "dictcat_part") (part_row one) mid new c.insert_part.ensures.survives c.insert_part.result c.insert_part.ensures.added c.insert_part.ensures.failed in
    spares_then g.S.Store first mid new c.loop-done.invariant.spares spares

pub returns-in_err-insert_part-clause-failed : goal.returns-in_err-insert_part-clause-failed
returns-in_err-insert_part-clause-failed g c =
    let first = (g.T.OpenTransaction.held c.args.tx.now) in
    let mid = (g.T.OpenTransaction.held c.loop-done.tx) in
    let new = (g.T.OpenTransaction.held c.insert_part.new.tx) in
    let all = parts_of_files c.args.files.now in
    let from = c.args.from in
    let to = c.args.to in
    let i = c.loop-done.done in
    let one : Part = lent_part c.part-given.result in
    let low : i < to - from = omega (arith, c.loop-done-test.true) in
    let spares = spares_added g.S.Store (codes "dictcat_part") (part_row one) mid new c.insert_part.ensures.survives c.insert_part.result c.insert_part.ensures.added c.insert_part.ensures.failed in
    let e = c.in_err-insert_part.field-0.0 in
    let failed : FailsToWrite g.S.Store (map adding_part (one ∷ [])) mid new e = failed_one g.S.Store (adding_part one) mid new c.insert_part.ensures.survives e c.in_err-insert_part.ensures.failed in
    passed_on (FailsToWrite g.S.Store (map adding_part (slice_range all from to)) first new) e c.from_residual.result c.from_residual.ensures.1
    (adding_failed g.S.Store adding_part with_more_parts parts_last (λ l. l) (slice_range all from to) i (one ∷ []) (range_next all from to i one c.requires.ordered c.requires.within low c.part-given.ensures) first mid
    new c.loop-done.invariant.wrote spares each_grows e failed)
