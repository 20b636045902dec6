use Rattle.std.proofs.Common.{◌≡◌, rules, sym}
use Rattle.std.proofs.lemmas.Bool.{false≢true}
use Rattle.store_holdings.specs.AllTables.{all_after}
use Rattle.store_rows.specs.Versions.{known}
use Rattle.store_commands.specs.KeptRecords.{TurnsRecords}
use Rattle.store_commands.specs.Changes.{change_by}
use Rattle.store_commands.specs.Statements.{statements_of}
use Rattle.store_commands.proofs.EndLemmas.{spans, made_by, leaves_made, commits_made, uncommitted_stays, uncommitted_end, undone_end}
use Rattle.store_commands.proofs.committing.commit_files.Goals as goal

pub returns-in-Ok-clause-made : goal.returns-in-Ok-clause-made
returns-in-Ok-clause-made g c =
    let f = all_after known (change_by c.args.id.now c.args.command.now c.args.change.now) in
    let same : c.commit.new.tx.0 ≡ c.conn-2-1.given.0 = search rules in
    let tx = spans g.S.Store c.args.conn.now c.transaction-tx.ensures.begun c.write_all.ensures.spares same c.commit.ensures.survives in
    commits_made tx _ (made_by tx (TurnsRecords f) c.in_default.ensures.wrote.turns c.in_default.ensures.sound) c.in-Ok.ensures.committed c.in-Ok.ensures.only

pub returns-in-Ok-clause-crash : goal.returns-in-Ok-clause-crash
returns-in-Ok-clause-crash g c =
    let f = all_after known (change_by c.args.id.now c.args.command.now c.args.change.now) in
    let same : c.commit.new.tx.0 ≡ c.conn-2-1.given.0 = search rules in
    let tx = spans g.S.Store c.args.conn.now c.transaction-tx.ensures.begun c.write_all.ensures.spares same c.commit.ensures.survives in
    leaves_made tx _ (made_by tx (TurnsRecords f) c.in_default.ensures.wrote.turns c.in_default.ensures.sound)

pub returns-in-Err-commit : goal.returns-in-Err-commit
returns-in-Err-commit g c =
    let f = all_after known (change_by c.args.id.now c.args.command.now c.args.change.now) in
    let same : c.commit.new.tx.0 ≡ c.conn-2-1.given.0 = search rules in
    let tx = spans g.S.Store c.args.conn.now c.transaction-tx.ensures.begun c.write_all.ensures.spares same c.commit.ensures.survives in
    let made = made_by tx (TurnsRecords f) c.in_default.ensures.wrote.turns c.in_default.ensures.sound in
    let stays = uncommitted_stays tx c.in_default.ensures.inside c.in-Err-commit.ensures.failed in
    record {
      made = λ clean. tt;
      lives = λ clean. (stays clean).was_open;
      stays = stays;
      adds_none = λ no. absurd (false≢true (sym no));
      failed = uncommitted_end tx c.in_default.ensures.inside c.in-Err-commit.ensures.failed c.in_default.ensures.wrote _ made;
      kinds = tt;
      autocommit = search rules;
      crash = leaves_made tx _ made;
    }

pub returns-in-Err-clause-failed : goal.returns-in-Err-clause-failed
returns-in-Err-clause-failed g c =
    let same : c.drop-tx.new.self.0 ≡ c.conn-1.given.0 = search rules in
    let tx = spans g.S.Store c.args.conn.now c.transaction-tx.ensures.begun c.write_all.ensures.spares same c.drop-tx.ensures.survives in
    undone_end tx c.drop-tx.ensures.undone (statements_of known (change_by c.args.id.now c.args.command.now c.args.change.now)) c.in-Err.error c.in-Err.ensures.failed _ c.fault_of.ensures
