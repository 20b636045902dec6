use Rattle.std.proofs.Common.{◌≡◌, false, Ok, [], map, ap, subst, ◌∙◌, rules, true, inr, ◌++◌, ◌∷◌, arith}
use Rattle.sqlite.specs.Effect.{Database}
use Rattle.sqlite.specs.State.{HasCleanDisk}
use Rattle.sqlite.specs.Held.{state}
use Rattle.store_scans.specs.Cursors.{Cursor, CursorHasGiven, IsScannedToEnd}
use Rattle.store_sql.proofs.StreamLemmas.{passed_on}
use Rattle.store_scans.specs.declared.fault.ReadingFault.{ReadingFault}
use Rattle.store_scans.specs.declared.fault.ReadingFault.TheVariants.{Damaged}
use Rattle.store_scans.specs.Scans.{IsWrong}
use Rattle.store_scans.proofs.StateLemmas.{clean_before, same_then}
use Rattle.std.proofs.lemmas.List.{length-append, length-map}
use Rattle.sqlite.proofs.StateLemmas.{survives_then}
use Rattle.store_scans.specs.Reading.{IsExcusedReading, IsVast}
use Rattle.store_scans.proofs.CauseLemmas.{cause_then, front_vast}
use Rattle.store_scans.proofs.scan.take_all.Goals as goal

pub returns-in_err-take_next-clause-damaged : goal.returns-in_err-take_next-clause-damaged
returns-in_err-take_next-clause-damaged g c clean =
    let old = c.args.rows.now.conn.now in
    let mid = c.rows.rows.conn.now in
    let new = c.take_next.new.rows.conn.now in
    let early : HasCleanDisk (state g.S.Store mid) = clean_before (state g.S.Store old) (state g.S.Store mid) (state g.S.Store new) c.take_next.ensures.survives clean in
    let wrong : (fault : ReadingFault) → Type 0 = λ fault. fault ≡ Damaged → (what : Cursor) → CursorHasGiven g.S.Store what old []
    → IsWrong g.R.Record.stored g.R.Record.columns g.T.Taker.refuses what (state g.S.Store old).now c.args.taker.now in
    passed_on wrong c.in_err-take_next.field-0.0 c.from_residual.result c.from_residual.ensures.1
    (λ is what h. let had = c.rows.invariant.takes early what h in subst (λ (d : Database). IsWrong g.R.Record.stored g.R.Record.columns g.T.Taker.refuses what d c.args.taker.now) (c.rows.invariant.same early).now
    (c.in_err-take_next.ensures.damaged clean is what c.args.taker.now had.0 had.1))

pub returns-then-not-branch-clause-whole : goal.returns-then-not-branch-clause-whole
returns-then-not-branch-clause-whole g c clean what h =
    let old = c.args.rows.now.conn.now in
    let mid = c.rows.rows.conn.now in
    let new = c.take_next.new.rows.conn.now in
    let early : HasCleanDisk (state g.S.Store mid) = clean_before (state g.S.Store old) (state g.S.Store mid) (state g.S.Store new) c.take_next.ensures.survives clean in
    let no : c.in_ok-take_next.field-0 ≡ false = search rules in
    let had = c.rows.invariant.takes early what h in
    let all = c.take_next.ensures.whole clean (c.in_ok-take_next.was ∙ ap Ok no) what c.args.taker.now had.0 had.1 in
    (had.0, subst (λ (d : Database). IsScannedToEnd what d (map g.R.Record.stored had.0)) (c.rows.invariant.same early).now all.0, all.1)

pub rows-preserved : goal.rows-preserved
rows-preserved g c =
    let old = c.args.rows.now.conn.now in
    let mid = c.rows.rows.conn.now in
    let new = c.take_next.new.rows.conn.now in
    let yes : c.in_ok-take_next.field-0 ≡ true = search rules in
    record {
      reference = c.take_next.ensures.same_reference ∙ c.rows.invariant.reference;
      mode = λ m. c.take_next.ensures.mode (c.rows.invariant.mode m);
      survives = survives_then (state g.S.Store old) (state g.S.Store mid) (state g.S.Store new) (λ _. ⊥) (λ _. ⊥) (λ _. ⊥) (λ _ db none. none) (λ _ db none. none) c.rows.invariant.survives c.take_next.ensures.survives;
      same = λ clean. same_then (state g.S.Store old) (state g.S.Store mid) (state g.S.Store new)
          (c.rows.invariant.same (clean_before (state g.S.Store old) (state g.S.Store mid) (state g.S.Store new) c.take_next.ensures.survives clean)) (c.in_ok-take_next.ensures.same clean);
      takes = λ clean what h.
          let had = c.rows.invariant.takes (clean_before (state g.S.Store old) (state g.S.Store mid) (state g.S.Store new) c.take_next.ensures.survives clean) what h in
          let one = c.take_next.ensures.more clean (c.in_ok-take_next.was ∙ ap Ok yes) what c.args.taker.now had.0 had.1 in
          let size = length-append had.0 (one.0 ∷ []) in
          let turns = had.2 in
          (had.0 ++ one.0 ∷ [], one.1, omega (arith, size, turns));
    }

pub returns-in_err-take_next-clause-failed : goal.returns-in_err-take_next-clause-failed
returns-in_err-take_next-clause-failed g c clean =
    let old = c.args.rows.now.conn.now in
    let mid = c.rows.rows.conn.now in
    let new = c.take_next.new.rows.conn.now in
    let early : HasCleanDisk (state g.S.Store mid) = clean_before (state g.S.Store old) (state g.S.Store mid) (state g.S.Store new) c.take_next.ensures.survives clean in
    passed_on (λ fault. (what : Cursor) → CursorHasGiven g.S.Store what old [] → IsExcusedReading (state g.S.Store old) (state g.S.Store new) fault) c.in_err-take_next.field-0.0 c.from_residual.result c.from_residual.ensures.1
    (λ what h. let had = c.rows.invariant.takes early what h in
    cause_then (state g.S.Store old) (state g.S.Store mid) (state g.S.Store new) c.rows.invariant.survives (c.rows.invariant.same early) c.in_err-take_next.field-0.0
    (c.in_err-take_next.ensures.failed clean what (map g.R.Record.stored had.0) had.1.given_are))

pub returns-clause-failed : goal.returns-clause-failed
returns-clause-failed g c clean what h =
    let had = c.rows.invariant.takes clean what h in
    let size = length-map had.0 g.R.Record.stored in
    let turns = had.2 in
    inr (inr (inr (subst IsVast (c.rows.invariant.same clean).now (front_vast what (state g.S.Store c.rows.rows.conn.now).now (map g.R.Record.stored had.0)
    had.1.given_are.front (omega (arith, size, turns))))))
