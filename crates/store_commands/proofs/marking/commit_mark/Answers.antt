use Rattle.std.proofs.Common.{◌≡◌, rules}
use Rattle.store_rows.specs.Versions.{known}
use Rattle.store_commands.specs.KeptRecords.{TurnsRecords}
use Rattle.store_commands.specs.Changes.{with_mark}
use Rattle.store_commands.specs.Statements.{mark_anew}
use Rattle.store_commands.proofs.EndLemmas.{spans, made_open, leaves_made, commits_made, uncommitted_stays, uncommitted_faults, uncommitted_run, undone_run, undone_faults}
use Rattle.store_commands.proofs.marking.commit_mark.Goals as goal

pub returns-in-Ok-clause-made : goal.returns-in-Ok-clause-made
returns-in-Ok-clause-made g c =
    let same : c.commit.new.tx.0 ≡ c.conn-2-1.given.0 = search rules in
    let tx = spans g.S.Store c.args.conn.now c.transaction-tx.ensures.begun c.write_mark.ensures.spares same c.commit.ensures.survives in
    commits_made tx _ (made_open tx (TurnsRecords (with_mark c.args.installs)) (λ clean. (c.in_default.ensures.wrote.ran clean).1.0.1.was_open) c.in_default.ensures.wrote.turns c.in_default.ensures.sound)
    c.in-Ok.ensures.committed c.in-Ok.ensures.only

pub returns-in-Ok-clause-crash : goal.returns-in-Ok-clause-crash
returns-in-Ok-clause-crash g c =
    let same : c.commit.new.tx.0 ≡ c.conn-2-1.given.0 = search rules in
    let tx = spans g.S.Store c.args.conn.now c.transaction-tx.ensures.begun c.write_mark.ensures.spares same c.commit.ensures.survives in
    leaves_made tx _ (made_open tx (TurnsRecords (with_mark c.args.installs)) (λ clean. (c.in_default.ensures.wrote.ran clean).1.0.1.was_open) c.in_default.ensures.wrote.turns c.in_default.ensures.sound)

pub returns-in-Err-commit : goal.returns-in-Err-commit
returns-in-Err-commit g c =
    let same : c.commit.new.tx.0 ≡ c.conn-2-1.given.0 = search rules in
    let tx = spans g.S.Store c.args.conn.now c.transaction-tx.ensures.begun c.write_mark.ensures.spares same c.commit.ensures.survives in
    let stays = uncommitted_stays tx c.in_default.ensures.inside c.in-Err-commit.ensures.failed in
    record {
      made = λ clean. tt;
      stays = stays;
      lives = λ clean. (stays clean).was_open;
      failed = uncommitted_run tx c.in_default.ensures.inside c.in-Err-commit.ensures.failed c.in_default.ensures.wrote c.fault_filed-in-Err-commit.ensures.is;
      faulted = uncommitted_faults tx c.in_default.ensures.inside c.in-Err-commit.ensures.failed c.fault_filed-in-Err-commit.ensures.disk;
      kinds = c.fault_filed-in-Err-commit.ensures.kind;
      autocommit = search rules;
      crash = leaves_made tx _
          (made_open tx (TurnsRecords (with_mark c.args.installs)) (λ clean. (c.in_default.ensures.wrote.ran clean).1.0.1.was_open) c.in_default.ensures.wrote.turns c.in_default.ensures.sound);
    }

pub returns-in-Err-clause-failed : goal.returns-in-Err-clause-failed
returns-in-Err-clause-failed g c =
    let same : c.drop-tx.new.self.0 ≡ c.conn-1.given.0 = search rules in
    let tx = spans g.S.Store c.args.conn.now c.transaction-tx.ensures.begun c.write_mark.ensures.spares same c.drop-tx.ensures.survives in
    undone_run tx c.drop-tx.ensures.undone (mark_anew known c.args.installs) c.in-Err.error c.in-Err.ensures.failed c.fault_filed.ensures.is

pub returns-in-Err-clause-faulted : goal.returns-in-Err-clause-faulted
returns-in-Err-clause-faulted g c =
    let same : c.drop-tx.new.self.0 ≡ c.conn-1.given.0 = search rules in
    let tx = spans g.S.Store c.args.conn.now c.transaction-tx.ensures.begun c.write_mark.ensures.spares same c.drop-tx.ensures.survives in
    undone_faults tx c.drop-tx.ensures.undone (mark_anew known c.args.installs) c.in-Err.error c.in-Err.ensures.failed c.fault_filed.ensures.disk
