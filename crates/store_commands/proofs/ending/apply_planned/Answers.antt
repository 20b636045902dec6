use Rattle.std.proofs.Common.{subst}
use Rattle.sqlite.specs.Effect.{Database}
use Rattle.sqlite.specs.Held.{state}
use Rattle.dict_catalogue.specs.Views.{summary_shown}
use Rattle.store_commands.specs.Installs.{install_read}
use Rattle.store_commands.specs.Installed.{HasTextOf}
use Rattle.store_commands.proofs.DraftLemmas.{read_lawful, read_lies}
use Rattle.store_commands.proofs.AboveLemmas.{installed_there}
use Rattle.store_commands.proofs.FinishLemmas.{rest_done, rest_failed, rest_fails, usable_by}
use Rattle.store_commands.proofs.WriteLemmas.{clean_before}
use Rattle.store_commands.proofs.ending.apply_planned.Goals as goal

pub commit_read-requires-clause-usable : goal.commit_read-requires-clause-usable
commit_read-requires-clause-usable g c = usable_by (summary_shown c.args.summary.now) (state g.S.Store c.args.conn.now) c.requires.holds

pub returns-clause-applied : goal.returns-clause-applied
returns-clause-applied g c =
    rest_done (summary_shown c.args.summary.now) c.args.id.now (install_read c.args.name.now c.args.reading.now) c.args.change (state g.S.Store c.args.conn.now) (state g.S.Store c.commit_read.new.conn) c.requires.id c.requires.planned.0
    (read_lawful c.args.name.now c.args.reading.now c.requires.read) (read_lies c.args.name.now c.args.reading.now c.requires.read) c.requires.free c.requires.holds c.commit_read.ensures.crash c.commit_read.ensures.autocommit
    c.in_default.ensures.made c.commit_read.ensures.lives c.requires.planned.2

pub returns-in-Err-clause-applied : goal.returns-in-Err-clause-applied
returns-in-Err-clause-applied g c =
    rest_failed (summary_shown c.args.summary.now) c.args.id.now (install_read c.args.name.now c.args.reading.now) c.args.change (state g.S.Store c.args.conn.now) (state g.S.Store c.commit_read.new.conn) c.requires.id c.requires.planned.0
    (read_lawful c.args.name.now c.args.reading.now c.requires.read) (read_lies c.args.name.now c.args.reading.now c.requires.read) c.requires.free c.requires.holds c.commit_read.ensures.crash c.commit_read.ensures.autocommit
    c.in-Err.fault c.in-Err.ensures.kinds c.in-Err.ensures.stays c.in-Err.ensures.adds_none c.requires.range

pub returns-in-Err-clause-failed : goal.returns-in-Err-clause-failed
returns-in-Err-clause-failed g c clean = λ real.
    rest_fails g.S.Store (summary_shown c.args.summary.now) c.args.id.now (install_read c.args.name.now c.args.reading.now) c.args.change c.args.conn.now c.commit_read.new.conn c.requires.id c.requires.planned.0
    (read_lawful c.args.name.now c.args.reading.now c.requires.read) (read_lies c.args.name.now c.args.reading.now c.requires.read)
    (c.requires.free (clean_before (state g.S.Store c.args.conn.now) (state g.S.Store c.commit_read.new.conn) c.commit_read.ensures.crash clean)) c.in-Err.fault (c.in-Err.ensures.failed clean)

pub returns-clause-installed : goal.returns-clause-installed
returns-clause-installed g c = λ clean live.
    let old = state g.S.Store c.args.conn.now in
    let new = state g.S.Store c.commit_read.new.conn in
    let made = c.in_default.ensures.made clean in
    subst (λ (db : Database). HasTextOf (install_read c.args.name.now c.args.reading.now) c.args.change.summary.installs db) made.settled
    (installed_there (summary_shown c.args.summary.now) c.args.id.now (install_read c.args.name.now c.args.reading.now) c.args.change c.requires.planned.1 old new c.requires.holds
    (clean_before old new c.commit_read.ensures.crash clean) (c.commit_read.ensures.lives clean live) made)

pub returns-in-Err-clause-stays : goal.returns-in-Err-clause-stays
returns-in-Err-clause-stays g c = λ clean live. (c.in-Err.ensures.stays clean).committed live
