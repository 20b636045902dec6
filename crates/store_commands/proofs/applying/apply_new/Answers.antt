use Rattle.std.proofs.lemmas.Result.{err_from_is_err_and}
use Rattle.sqlite.specs.Held.{state}
use Rattle.sqlite.proofs.StateLemmas.{survives_weaker}
use Rattle.dict_catalogue.specs.Tests.{refusal_of}
use Rattle.dict_catalogue.specs.Views.{summary_shown, command_shown, command_meant}
use Rattle.store_commands.proofs.ApplyLemmas.{declined_answers, failed_answers, acted_answers, left_after, declined_fails, commit_fails, is_planned, beside_spared, holds_after, holds_now, others_committed}
use Rattle.store_commands.proofs.AboveLemmas.{above_committed, grows_by, installed_there, none_refused}
use Rattle.store_commands.proofs.FinishLemmas.{usable_by}
use Rattle.store_commands.proofs.WriteLemmas.{clean_before}
use Rattle.std.proofs.Common.{◌≡◌, ◌⊎◌, inl, refl, true, None}
use Rattle.sqlite.specs.Effect.{Database}
use Rattle.store_sql.proofs.StreamLemmas.{passed_on}
use Rattle.dict_catalogue.specs.Steps.{Catalogue, summary_of, kept_under, step}
use Rattle.dict_desk.specs.Faults.{is_failure}
use Rattle.dict_desk.specs.declared.fault.Fault.TheVariants.{Memory}
use Rattle.store_holdings.specs.AllTables.{all_after}
use Rattle.store_rows.specs.Versions.{known}
use Rattle.store_holdings.specs.Holds.{Holds, Rests}
use Rattle.store_commands.specs.KeptRecords.{TurnsRecords}
use Rattle.store_commands.specs.Changes.{change_by}
use Rattle.store_commands.proofs.applying.apply_new.Goals as goal

pub returns-in_err-change-clause-value : goal.returns-in_err-change-clause-value
returns-in_err-change-clause-value g c = λ clean M rests is new.
    let p = err_from_is_err_and c.from_residual.result c.from_residual.ensures.1 in
    rw (p.1, p.2) (declined_answers (state g.S.Store c.args.conn.now) M c.args.id.now c.args.command.now (summary_shown c.args.summary.now) c.in_err-change.field-0.0 c.requires.id new is c.in_err-change.ensures.declined rests)

pub returns-in-Err-clause-value : goal.returns-in-Err-clause-value
returns-in-Err-clause-value g c = λ clean M rests is new.
    (failed_answers (state g.S.Store c.args.conn.now) (state g.S.Store c.commit_change.new.conn) M c.args.id.now _ c.in-Err.fault c.in-Err.ensures.kinds
    (c.in-Err.ensures.stays clean) rests)

pub returns-clause-value : goal.returns-clause-value
returns-clause-value g c = λ clean M rests is new.
    acted_answers M c.args.id.now c.args.command.now c.in_ok-change.change (summary_shown c.args.summary.now) c.requires.id new is c.in_ok-change.ensures.planned c.is_lawful.ensures c.lies_within.ensures
    (state g.S.Store c.args.conn.now) (state g.S.Store c.commit_change.new.conn) rests (c.in_default.ensures.made clean)

pub returns-clause-crash : goal.returns-clause-crash
returns-clause-crash g c =
    survives_weaker (state g.S.Store c.args.conn.now) (state g.S.Store c.commit_change.new.conn) _ _
    (λ clean trees it M rests is new. left_after M c.args.id.now c.args.command.now c.in_ok-change.change (summary_shown c.args.summary.now) c.requires.id new is c.in_ok-change.ensures.planned c.is_lawful.ensures c.lies_within.ensures
    (state g.S.Store c.args.conn.now) trees rests it) c.commit_change.ensures.crash

pub returns-in-Err-clause-crash : goal.returns-in-Err-clause-crash
returns-in-Err-clause-crash g c =
    survives_weaker (state g.S.Store c.args.conn.now) (state g.S.Store c.commit_change.new.conn) _ _
    (λ clean trees it M rests is new. left_after M c.args.id.now c.args.command.now c.in_ok-change.change (summary_shown c.args.summary.now) c.requires.id new is c.in_ok-change.ensures.planned c.is_lawful.ensures c.lies_within.ensures
    (state g.S.Store c.args.conn.now) trees rests it) c.commit_change.ensures.crash

pub returns-in_err-change-clause-failed : goal.returns-in_err-change-clause-failed
returns-in_err-change-clause-failed g c clean =
    let fault = c.in_err-change.field-0.0 in
    let none = refusal_of (summary_shown c.args.summary.now) (command_shown c.args.command.now) ≡ None in
    passed_on (λ fault. is_failure fault ≡ true → ((fault ≡ Memory) × (c.args.conn.now ≡ c.args.conn.now) × none) ⊎ _) fault c.from_residual.result c.from_residual.ensures.1
    (λ real. let it = declined_fails (summary_shown c.args.summary.now) (command_shown c.args.command.now) fault c.in_err-change.ensures.declined real in inl (it.0, refl, it.1))

pub returns-in-Err-clause-failed : goal.returns-in-Err-clause-failed
returns-in-Err-clause-failed g c clean =
    let old = c.args.conn.now in
    let new = c.commit_change.new.conn in
    let fault = c.in-Err.fault in
    let summary = summary_shown c.args.summary.now in
    let P = λ (db : Database). (M : Catalogue) → Rests known (state g.S.Store old) M → summary_of M ≡ summary → kept_under M.kept c.args.id.now ≡ None → Holds known db (step M c.args.id.now (command_meant c.args.command.now)).catalogue in
    let change = change_by c.args.id.now c.args.command.now c.in_ok-change.change in
    let planned = is_planned c.args.id.now c.args.command.now c.in_ok-change.change summary c.in_ok-change.ensures.planned c.lies_within.ensures (state g.S.Store old) in
    let none = refusal_of summary (command_shown c.args.command.now) ≡ None in
    (λ real. commit_fails g.S.Store none c.in_ok-change.ensures.planned.0 summary c.args.id.now (command_meant c.args.command.now) change old planned (TurnsRecords (all_after known change) (state g.S.Store old).now) P new fault
    (λ db turns M rests is new. holds_after M c.args.id.now c.args.command.now c.in_ok-change.change summary c.requires.id new is c.in_ok-change.ensures.planned c.is_lawful.ensures c.lies_within.ensures
    (state g.S.Store old).now db (holds_now (state g.S.Store old) M rests) turns)
    (c.in-Err.ensures.failed clean))

pub commit_change-requires-clause-usable : goal.commit_change-requires-clause-usable
commit_change-requires-clause-usable g c = usable_by (summary_shown c.args.summary.now) (state g.S.Store c.args.conn.now) c.requires.holds

pub returns-clause-others : goal.returns-clause-others
returns-clause-others g c clean =
    let old = state g.S.Store c.args.conn.now in
    let new = state g.S.Store c.commit_change.new.conn in
    let done = c.in_default.ensures.made clean in
    others_committed (summary_shown c.args.summary.now) old new (all_after known (change_by c.args.id.now c.args.command.now c.in_ok-change.change)) c.requires.holds
    (clean_before old new c.commit_change.ensures.crash clean) (c.commit_change.ensures.lives clean done.is_open) done

pub returns-clause-beside : goal.returns-clause-beside
returns-clause-beside g c =
    beside_spared (summary_shown c.args.summary.now) (state g.S.Store c.args.conn.now) (state g.S.Store c.commit_change.new.conn)
    (all_after known (change_by c.args.id.now c.args.command.now c.in_ok-change.change)) c.requires.holds c.commit_change.ensures.crash

pub returns-in-Err-clause-beside : goal.returns-in-Err-clause-beside
returns-in-Err-clause-beside g c =
    beside_spared (summary_shown c.args.summary.now) (state g.S.Store c.args.conn.now) (state g.S.Store c.commit_change.new.conn)
    (all_after known (change_by c.args.id.now c.args.command.now c.in_ok-change.change)) c.requires.holds c.commit_change.ensures.crash

pub returns-clause-above : goal.returns-clause-above
returns-clause-above g c clean =
    let old = state g.S.Store c.args.conn.now in
    let new = state g.S.Store c.commit_change.new.conn in
    let done = c.in_default.ensures.made clean in
    above_committed (summary_shown c.args.summary.now) c.args.id.now c.args.command.now c.in_ok-change.change c.in_ok-change.ensures.planned old new c.requires.holds
    (clean_before old new c.commit_change.ensures.crash clean) (c.commit_change.ensures.lives clean done.is_open) done

pub returns-clause-installed : goal.returns-clause-installed
returns-clause-installed g c clean =
    let old = state g.S.Store c.args.conn.now in
    let new = state g.S.Store c.commit_change.new.conn in
    let done = c.in_default.ensures.made clean in
    installed_there (summary_shown c.args.summary.now) c.args.id.now c.args.command.now c.in_ok-change.change c.in_ok-change.ensures.writable.0 old new
    c.requires.holds (clean_before old new c.commit_change.ensures.crash clean) (c.commit_change.ensures.lives clean done.is_open) done

pub returns-clause-grows : goal.returns-clause-grows
returns-clause-grows g c = grows_by (summary_shown c.args.summary.now) c.args.command.now c.in_ok-change.change c.in_ok-change.ensures.planned

pub returns-in-Err-clause-refused : goal.returns-in-Err-clause-refused
returns-in-Err-clause-refused g c =
    let old = state g.S.Store c.args.conn.now in
    let new = state g.S.Store c.commit_change.new.conn in
    let fault = c.in-Err.fault in
    (λ no. absurd (none_refused fault c.in-Err.ensures.kinds no))

pub returns-in-Err-clause-stays : goal.returns-in-Err-clause-stays
returns-in-Err-clause-stays g c = λ clean live.
    ((c.in-Err.ensures.stays clean).committed live)
