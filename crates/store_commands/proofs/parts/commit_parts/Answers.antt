use Rattle.std.proofs.Common.{◌≡◌, rules, refl}
use Rattle.store_commands.specs.Filing.{filing_part}
use Rattle.store_commands.specs.FiledParts.{FilesUpTo}
use Rattle.store_commands.proofs.EndLemmas.{spans, made_open, leaves_made, commits_made, uncommitted_stays, uncommitted_faults, uncommitted_run, undone_run, undone_faults}
use Rattle.store_commands.proofs.parts.commit_parts.Goals as goal

pub returns-in-Ok-commit-clause-made : goal.returns-in-Ok-commit-clause-made
returns-in-Ok-commit-clause-made g c =
    let same : c.commit.new.tx.0 ≡ c.conn-2-1.given.0 = search rules in
    let tx = spans g.S.Store c.args.conn.now c.transaction-tx.ensures.begun c.write_parts.ensures.spares same c.commit.ensures.survives in
    commits_made tx _ (made_open tx (FilesUpTo c.args.filing.now c.in-Ok.filed) c.in-Ok.ensures.lives (λ clean. record { goes_on = c.in-Ok.ensures.wrote.goes_on; turns = c.in-Ok.ensures.wrote.wrote.turns clean })
    c.in-Ok.ensures.sound) c.in-Ok-commit.ensures.committed c.in-Ok-commit.ensures.only

pub returns-in-Ok-commit-clause-crash : goal.returns-in-Ok-commit-clause-crash
returns-in-Ok-commit-clause-crash g c =
    let same : c.commit.new.tx.0 ≡ c.conn-2-1.given.0 = search rules in
    let tx = spans g.S.Store c.args.conn.now c.transaction-tx.ensures.begun c.write_parts.ensures.spares same c.commit.ensures.survives in
    let made = made_open tx (FilesUpTo c.args.filing.now c.in-Ok.filed) c.in-Ok.ensures.lives (λ clean. record { goes_on = c.in-Ok.ensures.wrote.goes_on; turns = c.in-Ok.ensures.wrote.wrote.turns clean })
    c.in-Ok.ensures.sound in
    leaves_made tx _ (λ early. (((made early).0.0, c.in-Ok.filed, (made early).0.1), (made early).1))

pub returns-in-Err-commit : goal.returns-in-Err-commit
returns-in-Err-commit g c =
    let same : c.commit.new.tx.0 ≡ c.conn-2-1.given.0 = search rules in
    let tx = spans g.S.Store c.args.conn.now c.transaction-tx.ensures.begun c.write_parts.ensures.spares same c.commit.ensures.survives in
    let stays = uncommitted_stays tx c.in-Ok.ensures.inside c.in-Err-commit.ensures.failed in
    let made = made_open tx (FilesUpTo c.args.filing.now c.in-Ok.filed) c.in-Ok.ensures.lives (λ clean. record { goes_on = c.in-Ok.ensures.wrote.goes_on; turns = c.in-Ok.ensures.wrote.wrote.turns clean })
    c.in-Ok.ensures.sound in
    record {
      made = λ clean. tt;
      more = tt;
      stays = stays;
      lives = λ clean. (stays clean).was_open;
      failed = λ clean. (
        filing_part c.args.filing.now.is_begun c.args.filing.now c.in-Ok.filed,
        (c.in-Ok.filed, refl),
        uncommitted_run tx c.in-Ok.ensures.inside c.in-Err-commit.ensures.failed c.in-Ok.ensures.wrote.wrote c.fault_filed-in-Err-commit.ensures.is clean,
      );
      faulted = uncommitted_faults tx c.in-Ok.ensures.inside c.in-Err-commit.ensures.failed c.fault_filed-in-Err-commit.ensures.disk;
      kinds = c.fault_filed-in-Err-commit.ensures.kind;
      autocommit = search rules;
      crash = leaves_made tx _ (λ early. (((made early).0.0, c.in-Ok.filed, (made early).0.1), (made early).1));
    }

pub returns-in-Err-clause-failed : goal.returns-in-Err-clause-failed
returns-in-Err-clause-failed g c clean =
    let same : c.drop-tx.new.self.0 ≡ c.conn-1.given.0 = search rules in
    let tx = spans g.S.Store c.args.conn.now c.transaction-tx.ensures.begun c.write_parts.ensures.spares same c.drop-tx.ensures.survives in
    let it = c.in-Err.ensures.failed in
    (it.0, it.1, undone_run tx c.drop-tx.ensures.undone it.0 c.in-Err.error it.2 c.fault_filed.ensures.is clean)

pub returns-in-Err-clause-faulted : goal.returns-in-Err-clause-faulted
returns-in-Err-clause-faulted g c =
    let same : c.drop-tx.new.self.0 ≡ c.conn-1.given.0 = search rules in
    let tx = spans g.S.Store c.args.conn.now c.transaction-tx.ensures.begun c.write_parts.ensures.spares same c.drop-tx.ensures.survives in
    undone_faults tx c.drop-tx.ensures.undone c.in-Err.ensures.failed.0 c.in-Err.error c.in-Err.ensures.failed.2 c.fault_filed.ensures.disk
