use Rattle.std.proofs.Common.{◌≡◌, sym, subst}
use Rattle.std.proofs.lemmas.Int.{to_z-of_z}
use mir.Syntax.{w64}
use mir.Val.{to_z, of_z}
use Rattle.sqlite.specs.Held.{state}
use Rattle.store_sql.proofs.StreamLemmas.{passed_on}
use Rattle.store_sql.specs.PartRecords.{part_columns, stored_part}
use Rattle.store_scans.specs.Cursors.Cursor.{PartsOf}
use Rattle.store_scans.specs.Files.{HasFile, HasNoFile, TakesParts, RefusesParts}
use Rattle.store_scans.specs.Scans.{TakesAll, IsWrong}
use Rattle.store_scans.specs.declared.fault.ReadingFault.{ReadingFault}
use Rattle.store_scans.specs.declared.fault.ReadingFault.TheVariants.{Damaged}
use Rattle.store_scans.proofs.CauseLemmas.{cause_passed}
use Rattle.store_scans.proofs.FileLemmas.{file_whole, file_wrong}
use Rattle.store_scans.proofs.files.read_file.Goals as goal

pub returns-in_err-join_parts-clause-damaged : goal.returns-in_err-join_parts-clause-damaged
returns-in_err-join_parts-clause-damaged g c clean =
    let old = state g.S.Store c.args.conn.now in
    let n = c.args.number in
    let f = c.args.file in
    let wrong : (fault : ReadingFault) → Type 0 = λ fault. fault ≡ Damaged → HasNoFile old.now n f in
    passed_on wrong c.in_err-join_parts.field-0.0 c.from_residual.result c.from_residual.ensures.1
    (λ is. file_wrong old.now n f c.new-joiner.result c.new-joiner.ensures
    (subst (λ m. IsWrong stored_part part_columns RefusesParts (PartsOf n m) old.now c.new-joiner.result) (to_z-of_z w64 f c.ranges.file)
    (subst (λ m. IsWrong stored_part part_columns RefusesParts (PartsOf m (to_z w64 (of_z w64 f))) old.now c.new-joiner.result) (to_z-of_z w64 n c.ranges.number) (c.in_err-join_parts.ensures.damaged clean is))))

pub returns-in_err-join_parts-clause-failed : goal.returns-in_err-join_parts-clause-failed
returns-in_err-join_parts-clause-failed g c clean =
    cause_passed (state g.S.Store c.args.conn.now) (state g.S.Store c.join_parts.new.conn) c.in_err-join_parts.field-0.0 c.from_residual.result c.from_residual.ensures.1 (c.in_err-join_parts.ensures.failed clean)

pub returns-clause-whole : goal.returns-clause-whole
returns-clause-whole g c clean =
    let old = state g.S.Store c.args.conn.now in
    let n = c.args.number in
    let f = c.args.file in
    let last = c.join_parts.new.joiner in
    let all = subst (λ m. TakesAll stored_part TakesParts (PartsOf n m) old.now c.new-joiner.result last) (to_z-of_z w64 f c.ranges.file)
    (subst (λ m. TakesAll stored_part TakesParts (PartsOf m (to_z w64 (of_z w64 f))) old.now c.new-joiner.result last) (to_z-of_z w64 n c.ranges.number) (c.in_ok-join_parts.ensures.whole clean)) in
    subst (HasFile old.now n f) (sym c.into_bytes.ensures) (file_whole old.now n f c.new-joiner.result last c.new-joiner.ensures all)
