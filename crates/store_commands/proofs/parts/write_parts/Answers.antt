use Rattle.std.proofs.Common.{◌≡◌, length, arith, ap, ◌∙◌}
use Rattle.store_sql.proofs.StreamLemmas.{passed_on}
use Rattle.store_commands.specs.Filing.{parts_of_filing, parts_of_files, AreOfSomePart}
use Rattle.store_commands.specs.FiledParts.{FailsAmong}
use Rattle.store_commands.proofs.FilingLemmas.{next_wrote, next_failed, first_wrote, first_failed, wrote_well}
use Rattle.store_commands.proofs.parts.write_parts.Goals as goal

-- ---- it has begun

pub returns-then-filing : goal.returns-then-filing
returns-then-filing g c =
    let f = c.args.filing.now in
    let old = (g.T.OpenTransaction.held c.args.tx.now) in
    let new = (g.T.OpenTransaction.held c.add_parts.new.tx) in
    let long : c.part_count-all.result ≡ length (parts_of_filing f) = c.part_count-all.ensures ∙ ap length c.files-files.ensures.parts in
    let wrote = next_wrote g.S.Store f c.part_end-to.result old new (parts_of_files c.files-files.result) c.files-files.ensures.parts c.if-filing.true
    (c.part_end-to.ensures.more (omega (arith, c.requires.rest c.if-filing.true, long))) c.in_ok-add_parts.ensures.wrote in
    let well = wrote_well g.S.Store f c.part_end-to.result old new c.part_count-all.result long c.part_end-to.ensures.within.1 wrote.goes_on wrote in
    record {
      same_reference = c.add_parts.ensures.same_reference;
      wrote = wrote;
      lives = λ clean. (well clean).0;
      sound = λ clean. (well clean).1;
      inside = λ clean. (well clean).2;
      failed = tt;
      spares = c.add_parts.ensures.spares;
    }

pub returns-in_err-add_parts-clause-failed : goal.returns-in_err-add_parts-clause-failed
returns-in_err-add_parts-clause-failed g c =
    let first = (g.T.OpenTransaction.held c.args.tx.now) in
    let new = (g.T.OpenTransaction.held c.add_parts.new.tx) in
    let e = c.in_err-add_parts.field-0.0 in
    passed_on (FailsAmong g.S.Store (AreOfSomePart c.args.filing.now) first new) e c.from_residual.result c.from_residual.ensures.1
    (next_failed g.S.Store c.args.filing.now c.part_end-to.result first new (parts_of_files c.files-files.result) c.files-files.ensures.parts c.if-filing.true e c.in_err-add_parts.ensures.failed)

-- ---- it begins

pub returns-in_err-add_files-clause-failed : goal.returns-in_err-add_files-clause-failed
returns-in_err-add_files-clause-failed g c =
    let first = (g.T.OpenTransaction.held c.args.tx.now) in
    let new = (g.T.OpenTransaction.held c.add_files.new.tx) in
    let e = c.in_err-add_files.field-0.0 in
    passed_on (FailsAmong g.S.Store (AreOfSomePart c.args.filing.now) first new) e c.from_residual-in_err-add_files.result c.from_residual-in_err-add_files.ensures.1
    (first_failed g.S.Store c.args.filing.now c.part_end-to-2.result first new (parts_of_files c.files-files.result) c.files-files.ensures.parts c.files-files.result.number c.files-files.ensures.number c.if-filing.false e
    c.in_err-add_files.ensures.failed)

pub returns : goal.returns
returns g c =
    let f = c.args.filing.now in
    let old = (g.T.OpenTransaction.held c.args.tx.now) in
    let new = (g.T.OpenTransaction.held c.add_files.new.tx) in
    let long : c.part_count-all.result ≡ length (parts_of_filing f) = c.part_count-all.ensures ∙ ap length c.files-files.ensures.parts in
    let wrote = first_wrote g.S.Store f c.part_end-to-2.result old new (parts_of_files c.files-files.result) c.files-files.ensures.parts c.files-files.result.number c.files-files.ensures.number c.if-filing.false
    c.in_ok-add_files.ensures.wrote in
    let well = wrote_well g.S.Store f c.part_end-to-2.result old new c.part_count-all.result long c.part_end-to-2.ensures.within.1 wrote.goes_on wrote in
    record {
      same_reference = c.add_files.ensures.same_reference;
      wrote = wrote;
      lives = λ clean. (well clean).0;
      sound = λ clean. (well clean).1;
      inside = λ clean. (well clean).2;
      failed = tt;
      spares = c.add_files.ensures.spares;
    }
