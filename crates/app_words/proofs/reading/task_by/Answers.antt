use Rattle.std.proofs.Common.{◌∙◌, ap}
use Rattle.clap.specs.Matches.{found_of}
use Rattle.clap.specs.Walk.{rows_of}
use Rattle.app_words.specs.Asked.{change_asked}
use Rattle.app_words.proofs.reading.task_by.Goals as goal

pub returns-in-install : goal.returns-in-install
returns-in-install c =
    rw c.in-install.is (c.change_task.ensures ∙ ap (change_asked (rows_of (found_of c.args.found.now))) c.install_of.ensures)

pub returns-in-virtual : goal.returns-in-virtual
returns-in-virtual c =
    rw c.in-virtual.is (c.change_task-in-virtual.ensures ∙ ap (change_asked (rows_of (found_of c.args.found.now))) c.virtual_of.ensures)

pub returns-in-place : goal.returns-in-place
returns-in-place c =
    rw c.in-place.is (c.change_task-in-place.ensures ∙ ap (change_asked (rows_of (found_of c.args.found.now))) c.place_of.ensures)
