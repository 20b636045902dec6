use Rattle.std.proofs.Common.{◌≡◌, None, map, inl, sym, subst, rules, ◌∙◌}
use Rattle.std.specs.Prelude.{option_map}
use Rattle.sqlite.specs.Held.{state}
use Rattle.sqlite.specs.Effect.{Database}
use Rattle.store_sql.specs.RowQueries.{GivesOnRows}
use Rattle.store_scans.specs.Cursors.{IsScannedToEnd, cursor_query}
use Rattle.store_scans.specs.Reading.{IsExcusedReading}
use Rattle.store_scans.proofs.CauseLemmas.{next_cause, rows_cause, move_stays}
use Rattle.store_sql.proofs.ScanLemmas.{gives_on}
use Rattle.store_scans.proofs.CursorLemmas.{reads}
use Rattle.store_scans.proofs.ScanLemmas.{rows_damaged, refused_next, no_record_next, taken_more}
use Rattle.store_scans.proofs.scan.take_next.Goals as goal

pub returns-in-Err-take-clause-damaged : goal.returns-in-Err-take-clause-damaged
returns-in-Err-take-clause-damaged g c clean is what first given h =
    let old = c.args.rows.now.conn.now in
    let new = c.next_record.new.rows.conn.now in
    let r = c.in-Some.record in
    let fault = rows_damaged c.in-Err-take.fault (sym c.fault_of_rows.ensures ∙ is) in
    let gave = subst (λ o. GivesOnRows g.S.Store (cursor_query what) new (map g.R.Record.stored given) (option_map g.R.Record.stored o)) c.in-Some.is
    (gives_on (reads what) g.S.Store old new (map g.R.Record.stored given) (option_map g.R.Record.stored c.in-Ok.record) (c.in-Ok.ensures.same clean) h.given_are (c.in-Ok.ensures.moved clean)) in
    refused_next g.S.Store g.R.Record.stored g.R.Record.columns g.T.Taker.refuses what first given r old new (c.in-Ok.ensures.same clean) gave (c.in-Err-take.ensures.refused fault first given h.taken)

pub returns-in-Err-clause-failed : goal.returns-in-Err-clause-failed
returns-in-Err-clause-failed g c clean what given h =
    let old = c.args.rows.now.conn.now in
    let new = c.next_record.new.rows.conn.now in
    subst (IsExcusedReading (state g.S.Store old) (state g.S.Store new)) (sym c.fault_of_read.ensures) (next_cause g.S.Store g.R.Record.columns what old new given c.in-Err.error h (c.in-Err.ensures.stopped clean))

pub returns-in-Err-take-clause-failed : goal.returns-in-Err-take-clause-failed
returns-in-Err-take-clause-failed g c clean what given h =
    let old = state g.S.Store c.args.rows.now.conn.now in
    let new = state g.S.Store c.next_record.new.rows.conn.now in
    subst (IsExcusedReading old new) (sym c.fault_of_rows.ensures) (rows_cause old new c.in-Err-take.fault)

pub returns-in-Err-clause-stays : goal.returns-in-Err-clause-stays
returns-in-Err-clause-stays g c clean what given h = move_stays g.S.Store g.R.Record.columns what c.args.rows.now.conn.now c.next_record.new.rows.conn.now given c.in-Err.error h (c.in-Err.ensures.stopped clean)

pub returns-in-Err-clause-damaged : goal.returns-in-Err-clause-damaged
returns-in-Err-clause-damaged g c clean is what first given h =
    inl (no_record_next g.S.Store g.R.Record.stored g.R.Record.columns what given c.args.rows.now.conn.now c.next_record.new.rows.conn.now c.in-Err.error (sym c.fault_of_read.ensures ∙ is) h.given_are (c.in-Err.ensures.stopped clean))

pub returns-in_default-clause-whole : goal.returns-in_default-clause-whole
returns-in_default-clause-whole g c clean is what first given h =
    let old = c.args.rows.now.conn.now in
    let new = c.next_record.new.rows.conn.now in
    let none : c.in-Ok.record ≡ None = search rules in
    let all = subst (λ o. GivesOnRows g.S.Store (cursor_query what) new (map g.R.Record.stored given) (option_map g.R.Record.stored o)) none
    (gives_on (reads what) g.S.Store old new (map g.R.Record.stored given) (option_map g.R.Record.stored c.in-Ok.record) (c.in-Ok.ensures.same clean) h.given_are (c.in-Ok.ensures.moved clean)) in
    (subst (λ (d : Database). IsScannedToEnd what d (map g.R.Record.stored given)) (c.in-Ok.ensures.same clean).0.now_is all, h.taken)

pub returns-in-Ok-take-clause-more : goal.returns-in-Ok-take-clause-more
returns-in-Ok-take-clause-more g c clean is what first given h =
    let old = c.args.rows.now.conn.now in
    let new = c.next_record.new.rows.conn.now in
    let r = c.in-Some.record in
    let gave = subst (λ o. GivesOnRows g.S.Store (cursor_query what) new (map g.R.Record.stored given) (option_map g.R.Record.stored o)) c.in-Some.is
    (gives_on (reads what) g.S.Store old new (map g.R.Record.stored given) (option_map g.R.Record.stored c.in-Ok.record) (c.in-Ok.ensures.same clean) h.given_are (c.in-Ok.ensures.moved clean)) in
    (r, taken_more g.S.Store g.R.Record.stored g.T.Taker.takes what first given r new c.take.new.self gave (c.in-Ok-take.ensures.taken first given h.taken))
