use Rattle.std.proofs.Common.{◌≡◌, true, false, None, Some, sym, subst, rules, ◌⊎◌, ◌∙◌, inl, OnErr, OnOk}
use Rattle.sqlite.specs.State.{HasCleanDisk}
use Rattle.sqlite.specs.Held.{state}
use Rattle.sqlite.proofs.StateLemmas.{survives_then}
use Rattle.dict_text.specs.Names.{is_request_id}
use Rattle.dict_catalogue.specs.Steps.{kept_under, Catalogue, summary_of, step}
use Rattle.dict_catalogue.specs.Tests.{refusal_of}
use Rattle.dict_catalogue.specs.Views.{command_meant, command_shown, kept_shown, summary_shown}
use Rattle.store_commands.proofs.ApplyLemmas.{kept_step, rests_unchanged, holds_now, holds_again, not_shut, new_fails, failed_answers}
use Rattle.store_commands.proofs.WriteLemmas.{clean_before, others_none}
use Rattle.store_commands.proofs.LoopLemmas.{each_err}
use Rattle.store_commands.specs.KeptRecords.{KeepsTextRows, SparesTablesOfOthers}
use Rattle.store_commands.specs.Answers.{numbers_after}
use Rattle.store_commands.proofs.AboveLemmas.{above_same, none_refused}
use Rattle.store_holdings.specs.Committed.{IsTreesOf}
use Rattle.sqlite.specs.Effect.{Database}
use Rattle.store_sql.proofs.StreamLemmas.{passed_on}
use Rattle.dict_desk.specs.Faults.{is_failure}
use Rattle.dict_desk.specs.declared.fault.Fault.TheVariants.{Memory}
use Rattle.store_holdings.specs.Holds.{Holds, Rests}
use Rattle.store_commands.specs.Answers.{FailsToAct, FailsToApply}
use Rattle.std.proofs.lemmas.Result.{err_from_is_err_and}
use Rattle.store_commands.proofs.applying.apply.Goals as goal
use Rattle.store_rows.specs.Versions.{known}

pub returns-in-Some-clause-value : goal.returns-in-Some-clause-value
returns-in-Some-clause-value g c = λ clean M rests is.
    let old = state g.S.Store c.args.conn.now in
    let new = state g.S.Store c.kept_reply.new.conn in
    let there : kept_under M.kept c.args.id.now ≡ Some (kept_shown c.in-Some.kept) = sym (rw c.in-Some.is at (c.in_ok-kept.ensures.value clean known M (holds_now old M rests))) in
    let lawful : is_request_id c.args.id.now ≡ true = search rules in
    (there, kept_step M c.args.id.now (command_meant c.args.command.now) (kept_shown c.in-Some.kept) lawful there, rests_unchanged old new M (c.in_ok-kept.ensures.same clean) rests)

pub returns-clause-crash : goal.returns-clause-crash
returns-clause-crash g c =
    let old = state g.S.Store c.args.conn.now in
    let mid = state g.S.Store c.kept_reply.new.conn in
    let new = state g.S.Store c.apply_new.new.conn in
    survives_then old mid new _ _ _ (λ clean trees none. absurd none)
    (λ clean trees left. (
      (c.in_ok-kept.ensures.same (clean_before mid new c.apply_new.ensures.crash clean)).0.was_open,
      λ M rests is.
          let early : HasCleanDisk mid = clean_before mid new c.apply_new.ensures.crash clean in
          let none : kept_under M.kept c.args.id.now ≡ None = sym (rw c.in_default.is at (c.in_ok-kept.ensures.value early known M (holds_now old M rests))) in
          left M (rests_unchanged old mid M (c.in_ok-kept.ensures.same early) rests) is none,
    )) c.kept_reply.ensures.survives c.apply_new.ensures.crash

pub returns-clause-holds : goal.returns-clause-holds
returns-clause-holds g c =
    let old = state g.S.Store c.args.conn.now in
    let mid = state g.S.Store c.kept_reply.new.conn in
    let new = state g.S.Store c.apply_new.new.conn in
    let early = λ (clean : HasCleanDisk new). clean_before mid new c.apply_new.ensures.crash clean in
    holds_again (summary_shown c.args.summary.now) c.args.id.now (command_meant c.args.command.now) old new c.apply_new.result c.requires.holds (λ clean. clean_before old mid c.kept_reply.ensures.survives (early clean))
    (λ clean lives. (c.in_ok-kept.ensures.same (early clean)).0.was_open)
    (λ clean M rests is.
    let none : kept_under M.kept c.args.id.now ≡ None = sym (rw c.in_default.is at (c.in_ok-kept.ensures.value (early clean) known M (holds_now old M rests))) in
    c.apply_new.ensures.value clean M (rests_unchanged old mid M (c.in_ok-kept.ensures.same (early clean)) rests) is none)

pub returns-in-Some-clause-shut : goal.returns-in-Some-clause-shut
returns-in-Some-clause-shut g c = λ clean shut. not_shut (state g.S.Store c.args.conn.now).is_open (c.in_ok-kept.ensures.same clean).0.was_open shut

pub returns-clause-shut : goal.returns-clause-shut
returns-clause-shut g c = λ clean shut.
    not_shut (state g.S.Store c.args.conn.now).is_open (c.in_ok-kept.ensures.same (clean_before (state g.S.Store c.kept_reply.new.conn) (state g.S.Store c.apply_new.new.conn) c.apply_new.ensures.crash clean)).0.was_open shut

pub returns-in_err-kept-clause-failed : goal.returns-in_err-kept-clause-failed
returns-in_err-kept-clause-failed g c clean =
    let new = c.kept_reply.new.conn in
    passed_on (λ fault. is_failure fault ≡ true → FailsToApply g.S.Store (summary_shown c.args.summary.now) c.args.id.now (command_meant c.args.command.now) c.args.conn.now new fault) c.in_err-kept.field-0.0
    c.from_residual.result c.from_residual.ensures.1
    (λ real. inl (c.in_err-kept.ensures.failed clean))

pub returns-clause-failed : goal.returns-clause-failed
returns-clause-failed g c clean =
    let old = c.args.conn.now in
    let mid = c.kept_reply.new.conn in
    let new = c.apply_new.new.conn in
    let summary = summary_shown c.args.summary.now in
    let command = command_meant c.args.command.now in
    let unrefused = refusal_of summary (command_shown c.args.command.now) ≡ None in
    let early : HasCleanDisk (state g.S.Store mid) = clean_before (state g.S.Store mid) (state g.S.Store new) c.apply_new.ensures.crash clean in
    let same = c.in_ok-kept.ensures.same early in
    let P = λ (db : Database). (M : Catalogue) → Rests known (state g.S.Store mid) M → summary_of M ≡ summary → kept_under M.kept c.args.id.now ≡ None → Holds known db (step M c.args.id.now command).catalogue in
    each_err c.apply_new.result (λ fault. is_failure fault ≡ true → ((fault ≡ Memory) × (new ≡ mid) × unrefused) ⊎ FailsToAct g.S.Store summary c.args.id.now command P mid new fault)
    (λ fault. is_failure fault ≡ true → FailsToApply g.S.Store summary c.args.id.now command old new fault)
    (λ fault h real. new_fails g.S.Store unrefused summary c.args.id.now command P old mid new same c.kept_reply.ensures.survives
    (λ db then M rests is.
    let none : kept_under M.kept c.args.id.now ≡ None = sym (rw c.in_default.is at (c.in_ok-kept.ensures.value early known M (holds_now (state g.S.Store old) M rests))) in
    then M (rests_unchanged (state g.S.Store old) (state g.S.Store mid) M same rests) is none) fault (h real)) (c.apply_new.ensures.failed clean)

pub returns-in_err-kept-clause-value : goal.returns-in_err-kept-clause-value
returns-in_err-kept-clause-value g c = λ clean M rests is.
    let p = err_from_is_err_and c.from_residual.result c.from_residual.ensures.1 in
    rw (p.1, p.2) (failed_answers (state g.S.Store c.args.conn.now) (state g.S.Store c.kept_reply.new.conn) M c.args.id.now _ c.in_err-kept.field-0.0 c.in_err-kept.ensures.kinds (c.in_err-kept.ensures.stays clean) rests)

pub returns-in-Some-clause-others : goal.returns-in-Some-clause-others
returns-in-Some-clause-others g c = λ clean.
    let old = state g.S.Store c.args.conn.now in
    subst (λ db. SparesTablesOfOthers old.now db) (sym (c.in_ok-kept.ensures.same clean).0.now_is) (others_none old.now)

pub returns-clause-others : goal.returns-clause-others
returns-clause-others g c = λ clean.
    let old = state g.S.Store c.args.conn.now in
    let mid = state g.S.Store c.kept_reply.new.conn in
    let new = state g.S.Store c.apply_new.new.conn in
    let same = (c.in_ok-kept.ensures.same (clean_before mid new c.apply_new.ensures.crash clean)).0.now_is in
    subst (λ a. OnOk c.apply_new.result (SparesTablesOfOthers a new.now)) same (c.apply_new.ensures.others clean)

pub returns-clause-beside : goal.returns-clause-beside
returns-clause-beside g c =
    let old = state g.S.Store c.args.conn.now in
    let mid = state g.S.Store c.kept_reply.new.conn in
    let new = state g.S.Store c.apply_new.new.conn in
    survives_then old mid new _ _ _ (λ clean trees none. absurd none)
    (λ clean trees left.
    let same = (c.in_ok-kept.ensures.same (clean_before mid new c.apply_new.ensures.crash clean)).0 in
    subst (λ a. IsTreesOf (SparesTablesOfOthers a) trees) same.now_is (left same.is_open)) c.kept_reply.ensures.survives c.apply_new.ensures.beside

pub returns-in-Some-clause-above : goal.returns-in-Some-clause-above
returns-in-Some-clause-above g c clean = above_same c.args.summary.now.installs _ (state g.S.Store c.args.conn.now).now (state g.S.Store c.kept_reply.new.conn).now (c.in_ok-kept.ensures.same clean).0.now_is

pub returns-clause-above : goal.returns-clause-above
returns-clause-above g c = λ clean.
    let mid = state g.S.Store c.kept_reply.new.conn in
    let new = state g.S.Store c.apply_new.new.conn in
    let same = (c.in_ok-kept.ensures.same (clean_before mid new c.apply_new.ensures.crash clean)).0.now_is in
    subst (λ (db : Database). OnOk c.apply_new.result (KeepsTextRows c.args.summary.now.installs (numbers_after (summary_shown c.args.summary.now) c.apply_new.result) db new.now)) same (c.apply_new.ensures.above clean)

pub returns-clause-refused : goal.returns-clause-refused
returns-clause-refused g c = λ clean.
    let old = state g.S.Store c.args.conn.now in
    let mid = state g.S.Store c.kept_reply.new.conn in
    let new = state g.S.Store c.apply_new.new.conn in
    let same = (c.in_ok-kept.ensures.same (clean_before mid new c.apply_new.ensures.crash clean)).0.now_is in
    each_err c.apply_new.result (λ fault. is_failure fault ≡ false → new.now ≡ mid.now) (λ fault. is_failure fault ≡ false → new.now ≡ old.now) (λ fault h no. h no ∙ same) c.apply_new.ensures.refused

pub returns-in_err-kept-clause-refused : goal.returns-in_err-kept-clause-refused
returns-in_err-kept-clause-refused g c = λ clean.
    let old = state g.S.Store c.args.conn.now in
    let new = state g.S.Store c.kept_reply.new.conn in
    let fault = c.in_err-kept.field-0.0 in
    passed_on (λ fault. is_failure fault ≡ false → new.now ≡ old.now) fault c.from_residual.result c.from_residual.ensures.1 (λ no. absurd (none_refused fault c.in_err-kept.ensures.kinds no))

pub returns-in_err-kept-clause-stays : goal.returns-in_err-kept-clause-stays
returns-in_err-kept-clause-stays g c = λ clean live.
    let p = err_from_is_err_and c.from_residual.result c.from_residual.ensures.1 in
    rw p.1 ((c.in_err-kept.ensures.stays clean).committed live)

pub returns-clause-stays : goal.returns-clause-stays
returns-clause-stays g c = λ clean live.
    let mid = state g.S.Store c.kept_reply.new.conn in
    let new = state g.S.Store c.apply_new.new.conn in
    let same = (c.in_ok-kept.ensures.same (clean_before mid new c.apply_new.ensures.crash clean)).0.committed_is in
    subst (λ (db : Database). OnErr c.apply_new.result (new.committed ≡ db)) same (c.apply_new.ensures.stays clean live)
