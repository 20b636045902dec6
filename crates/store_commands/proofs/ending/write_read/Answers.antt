use Rattle.std.proofs.Common.{Some, sym, ap}
use Rattle.store_commands.specs.Changes.{installed_by}
use Rattle.store_commands.specs.Installs.{install_read}
use Rattle.store_commands.proofs.ending.write_read.Goals as goal

pub returns-clause-wrote : goal.returns-clause-wrote
returns-clause-wrote g c =
    c.write_rest.ensures.wrote (installed_by c.args.change.now.summary.installs (install_read c.args.name.now c.args.reading.now))
    (ap Some (sym (c.header_row-header.ensures c.args.reading.now (sym c.title.ensures) (sym c.info.ensures))))

pub returns-clause-failed : goal.returns-clause-failed
returns-clause-failed g c =
    c.write_rest.ensures.failed (installed_by c.args.change.now.summary.installs (install_read c.args.name.now c.args.reading.now))
    (ap Some (sym (c.header_row-header.ensures c.args.reading.now (sym c.title.ensures) (sym c.info.ensures))))
