use Rattle.std.proofs.Common.{◌<◌, ◌≡◌, inr, refl, rules}
use Rattle.sqlite.specs.Effect.{Database}
use Rattle.sqlite.specs.Held.{state}
use Rattle.store_commands.specs.KeptRecords.{TurnsRecords}
use Rattle.store_commands.specs.Orphans.{LosesParts, HasNoParts, rows_left_under, with_parts_that}
use Rattle.store_commands.specs.Statements.{last_parts, taking_parts}
use Rattle.store_commands.proofs.TakingLemmas.{none_has}
use Rattle.store_commands.proofs.EndLemmas.{spans, clean_inside, clean_first, made_by, made_open, leaves_made, commits_made, uncommitted_stays, uncommitted_faults, uncommitted_run, undone_run, undone_faults}
use Rattle.store_commands.proofs.orphans.commit_slice.Goals as goal

pub returns-in-Ok-commit : goal.returns-in-Ok-commit
returns-in-Ok-commit g c =
    let same : c.commit.new.tx.0 ≡ c.conn-2-1.given.0 = search rules in
    let tx = spans g.S.Store c.args.conn.now c.transaction-tx.ensures.begun c.take_slice.ensures.spares same c.commit.ensures.survives in
    let it = c.in-Ok.ensures.taken in
    let R = λ (a b : Database). rows_left_under c.args.number b < rows_left_under c.args.number a in
    let turned = made_open tx (TurnsRecords (with_parts_that it.stays)) c.in-Ok.ensures.lives it.wrote.turns c.in-Ok.ensures.sound in
    let loses = made_open tx (LosesParts c.args.number) c.in-Ok.ensures.lives (λ clean. record { stays = it.stays; others = it.others; turns = it.wrote.turns clean }) c.in-Ok.ensures.sound in
    record {
      made = commits_made tx _ loses c.in-Ok-commit.ensures.committed c.in-Ok-commit.ensures.only;
      fewer = λ clean some.
          (commits_made tx (R (state g.S.Store c.args.conn.now).now) (made_by tx R (λ early. it.fewer early some) c.in-Ok.ensures.sound) c.in-Ok-commit.ensures.committed c.in-Ok-commit.ensures.only clean).holds;
      cleared = λ clean none. (commits_made tx (HasNoParts c.args.number) (λ early.
          let some = c.requires.usable (clean_first tx early) (turned early).0.0 in
          (none_has c.args.number it.stays (it.its none) _ some.0 ((turned early).0.1 some.0 some.1).0, c.in-Ok.ensures.sound early)) c.in-Ok-commit.ensures.committed c.in-Ok-commit.ensures.only clean).holds;
      stays = λ clean. tt;
      lives = λ clean live. (loses (clean_inside tx clean)).0.0;
      failed = λ clean. tt;
      faulted = λ clean. tt;
      kinds = tt;
      autocommit = search rules;
      crash = leaves_made tx _ loses;
    }

pub returns-in-Err-commit : goal.returns-in-Err-commit
returns-in-Err-commit g c =
    let same : c.commit.new.tx.0 ≡ c.conn-2-1.given.0 = search rules in
    let tx = spans g.S.Store c.args.conn.now c.transaction-tx.ensures.begun c.take_slice.ensures.spares same c.commit.ensures.survives in
    let it = c.in-Ok.ensures.taken in
    let stays = uncommitted_stays tx c.in-Ok.ensures.inside c.in-Err-commit.ensures.failed in
    record {
      made = λ clean. tt;
      fewer = λ clean. tt;
      cleared = λ clean. tt;
      stays = stays;
      lives = λ clean. (stays clean).was_open;
      failed = λ clean. record {
        statements = it.statements;
        are = it.are;
        fails = uncommitted_run tx c.in-Ok.ensures.inside c.in-Err-commit.ensures.failed it.wrote c.fault_filed-in-Err-commit.ensures.is clean;
      };
      faulted = uncommitted_faults tx c.in-Ok.ensures.inside c.in-Err-commit.ensures.failed c.fault_filed-in-Err-commit.ensures.disk;
      kinds = c.fault_filed-in-Err-commit.ensures.kind;
      autocommit = search rules;
      crash = leaves_made tx _
          (made_open tx (LosesParts c.args.number) c.in-Ok.ensures.lives (λ clean. record { stays = it.stays; others = it.others; turns = it.wrote.turns clean }) c.in-Ok.ensures.sound);
    }

pub returns-in-Err-clause-failed : goal.returns-in-Err-clause-failed
returns-in-Err-clause-failed g c clean =
    let same : c.drop-tx.new.self.0 ≡ c.conn-1.given.0 = search rules in
    let tx = spans g.S.Store c.args.conn.now c.transaction-tx.ensures.begun c.take_slice.ensures.spares same c.drop-tx.ensures.survives in
    let all = taking_parts c.args.number last_parts in
    record { statements = all; are = inr refl; fails = undone_run tx c.drop-tx.ensures.undone all c.in-Err.error c.in-Err.ensures.failed c.fault_filed.ensures.is clean }

pub returns-in-Err-clause-faulted : goal.returns-in-Err-clause-faulted
returns-in-Err-clause-faulted g c =
    let same : c.drop-tx.new.self.0 ≡ c.conn-1.given.0 = search rules in
    let tx = spans g.S.Store c.args.conn.now c.transaction-tx.ensures.begun c.take_slice.ensures.spares same c.drop-tx.ensures.survives in
    undone_faults tx c.drop-tx.ensures.undone (taking_parts c.args.number last_parts) c.in-Err.error c.in-Err.ensures.failed c.fault_filed.ensures.disk
