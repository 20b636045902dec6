use Rattle.std.proofs.Common.{inr}
use Rattle.std.specs.Prelude.{IsTrue}
use Rattle.sqlite.specs.Effect.{Database}
use Rattle.sqlite.specs.Held.{state}
use Rattle.sqlite.proofs.StateLemmas.{survives_weaker}
use Rattle.dict_catalogue.specs.Views.{summary_shown}
use Rattle.store_commands.specs.KeptRecords.{TurnsRecords}
use Rattle.store_commands.specs.Changes.{with_mark}
use Rattle.store_commands.specs.Statements.{mark_anew}
use Rattle.store_rows.specs.Versions.{known}
use Rattle.store_holdings.specs.Committed.{IsCommitted}
use Rattle.store_commands.specs.Marking.{Remains, FailsToCommitRun, FailsToMark}
use Rattle.store_commands.proofs.DraftLemmas.{on_ok}
use Rattle.store_commands.proofs.LoopLemmas.{each_err}
use Rattle.store_commands.proofs.FinishLemmas.{usable_by}
use Rattle.store_commands.proofs.WriteLemmas.{clean_before}
use Rattle.store_commands.proofs.MarkingLemmas.{remains_by, committed_wider}
use Rattle.store_commands.proofs.marking.write_mark_again.Goals as goal

pub commit_mark-requires-clause-usable : goal.commit_mark-requires-clause-usable
commit_mark-requires-clause-usable g c = usable_by (summary_shown c.args.summary.now) (state g.S.Store c.args.conn.now) c.requires.holds

pub returns-clause-made : goal.returns-clause-made
returns-clause-made g c clean =
    let summary = summary_shown c.args.summary.now in
    let old = state g.S.Store c.args.conn.now in
    let new = state g.S.Store c.commit_mark.new.conn in
    let P = λ (db : Database). IsTrue old.is_open × TurnsRecords (with_mark summary.installs) old.now db in
    on_ok c.commit_mark.result (IsCommitted P new) (IsCommitted (Remains summary old.committed) new)
    (committed_wider P (Remains summary old.committed) new (λ db it. remains_by summary old c.requires.holds (clean_before old new c.commit_mark.ensures.crash clean) it.0 db it.1))
    (c.commit_mark.ensures.made clean)

pub returns-clause-failed : goal.returns-clause-failed
returns-clause-failed g c clean =
    each_err c.commit_mark.result (FailsToCommitRun g.S.Store (mark_anew known c.args.summary.now.installs) c.args.conn.now c.commit_mark.new.conn)
    (FailsToMark g.S.Store c.args.summary.now.installs c.args.conn.now c.commit_mark.new.conn) (λ why h. inr h) (c.commit_mark.ensures.failed clean)

pub returns-clause-crash : goal.returns-clause-crash
returns-clause-crash g c =
    let summary = summary_shown c.args.summary.now in
    let old = state g.S.Store c.args.conn.now in
    let new = state g.S.Store c.commit_mark.new.conn in
    survives_weaker old new _ _
    (λ clean trees it. (it.3.0, (it.0, it.1, it.2, remains_by summary old c.requires.holds (clean_before old new c.commit_mark.ensures.crash clean) it.3.0 it.0 it.3.1)))
    c.commit_mark.ensures.crash
