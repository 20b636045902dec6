use Rattle.std.proofs.Common.{subst}
use Rattle.dict_catalogue.specs.Views.{summary_shown, command_meant}
use Rattle.sqlite.specs.Effect.{Database}
use Rattle.store_commands.specs.Installed.{HasInstalled}
use Rattle.store_desk.proofs.AppliedLemmas.{applied_over}
use Rattle.store_desk.proofs.keeper.apply_over.Goals as goal

pub returns-clause-over : goal.returns-clause-over
returns-clause-over g c =
    applied_over g.S.Store (summary_shown c.args.summary.now) c.args.id.now (command_meant c.args.command.now) c.args.conn.now c.apply.new.conn c.apply.result c.requires.holds c.apply.ensures.crash
    c.apply.ensures.holds c.apply.ensures.lives c.apply.ensures.value c.apply.ensures.spares c.apply.ensures.shut c.apply.ensures.failed c.apply.ensures.above c.apply.ensures.refused c.apply.ensures.others
    c.apply.ensures.beside c.apply.ensures.grows c.apply.ensures.kinds c.apply.ensures.range c.apply.ensures.autocommit

pub returns-clause-installed : goal.returns-clause-installed
returns-clause-installed g c = λ clean live. subst (λ (db : Database). HasInstalled c.args.command.now c.apply.result db) (c.apply.ensures.holds clean live).1.settled (c.apply.ensures.installed clean)
