use Rattle.std.proofs.Common.{◌≡◌, pos, inl, inr, sym, subst, ◌∙◌}
use Rattle.std.proofs.lemmas.Int.{to_z-of_z}
use mir.Syntax.{w64}
use Rattle.sqlite.specs.Held.{state}
use Rattle.store_rows.specs.Versions.{Parted}
use Rattle.store_sql.proofs.StreamLemmas.{passed_on}
use Rattle.store_scans.specs.Entries.{HasWrongEntries}
use Rattle.store_scans.specs.Files.{HasFile, HasNoFile}
use Rattle.store_scans.specs.Reading.{IsExcusedReading}
use Rattle.store_scans.specs.declared.fault.ReadingFault.{ReadingFault}
use Rattle.store_scans.specs.declared.fault.ReadingFault.TheVariants.{Damaged}
use Rattle.store_scans.proofs.CauseLemmas.{cause_passed, rows_cause}
use Rattle.store_scans.proofs.ScanLemmas.{rows_damaged}
use Rattle.store_scans.proofs.entries.read_filed_entries.Goals as goal

pub returns-in_err-octets-clause-damaged : goal.returns-in_err-octets-clause-damaged
returns-in_err-octets-clause-damaged g c clean =
    let old = state g.S.Store c.args.conn.now in
    let wrong : (fault : ReadingFault) → Type 0 = λ fault. fault ≡ Damaged → HasWrongEntries Parted old.now c.args.number c.args.reader.now.reader in
    passed_on wrong c.in_err-octets.field-0.0 c.from_residual.result c.from_residual.ensures.1
    (λ is. inl (subst (λ n. HasNoFile old.now n (pos 0)) (to_z-of_z w64 c.args.number c.ranges.number) (c.in_err-octets.ensures.damaged clean is)))

pub returns-in_err-octets-clause-failed : goal.returns-in_err-octets-clause-failed
returns-in_err-octets-clause-failed g c clean =
    cause_passed (state g.S.Store c.args.conn.now) (state g.S.Store c.read_file.new.conn) c.in_err-octets.field-0.0 c.from_residual.result c.from_residual.ensures.1 (c.in_err-octets.ensures.failed clean)

pub returns-in-Ok-clause-whole : goal.returns-in-Ok-clause-whole
returns-in-Ok-clause-whole g c clean =
    let old = state g.S.Store c.args.conn.now in
    let n = c.args.number in
    let back = to_z-of_z w64 n c.ranges.number in
    let read = rw (back, c.deref.ensures.value) at c.in-Ok.ensures.read in
    let file = subst (λ m. HasFile old.now m (pos 0) c.in_ok-octets.octets.items) back (c.in_ok-octets.ensures.whole clean) in
    (read.0, record { has = (c.in_ok-octets.octets.items, file, read.1); taken = read.2 }, read.3)

pub returns-clause-damaged : goal.returns-clause-damaged
returns-clause-damaged g c clean is =
    let old = state g.S.Store c.args.conn.now in
    let n = c.args.number in
    let back = to_z-of_z w64 n c.ranges.number in
    let file = subst (λ m. HasFile old.now m (pos 0) c.in_ok-octets.octets.items) back (c.in_ok-octets.ensures.whole clean) in
    let wrong = rw (back, c.deref.ensures.value) at (c.in-Err.ensures.damaged (rows_damaged c.in-Err.fault (sym c.fault_of_rows.ensures ∙ is))) in
    inr (c.in_ok-octets.octets.items, file, wrong)

pub returns-clause-failed : goal.returns-clause-failed
returns-clause-failed g c clean =
    let old = state g.S.Store c.args.conn.now in
    let new = state g.S.Store c.read_file.new.conn in
    subst (IsExcusedReading old new) (sym c.fault_of_rows.ensures) (rows_cause old new c.in-Err.fault)
