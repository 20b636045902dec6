use Rattle.app_commands.proofs.EndLemmas as ends
use Rattle.app_commands.proofs.laws.status_laws.Goals as goal

pub returns-clause-statuses : goal.returns-clause-statuses
returns-clause-statuses g c = λ files plain old new. ends.statuses g.K.Lookup g.D.DeskOpener g.D.Catalogues g.B.Network g.K.Keeper.fails_to_apply g.K.Preparer.expects g.K.Preparer.prepares plain old new g.I.InputFiles files

pub returns-clause-done : goal.returns-clause-done
returns-clause-done g c = λ files plain old new. ends.done g.K.Lookup g.D.DeskOpener g.D.Catalogues g.B.Network g.K.Keeper.fails_to_apply g.K.Preparer.expects g.K.Preparer.prepares plain old new g.I.InputFiles files

pub returns-clause-refused : goal.returns-clause-refused
returns-clause-refused g c = λ files plain old new. ends.refused g.K.Lookup g.D.DeskOpener g.D.Catalogues g.B.Network g.K.Keeper.fails_to_apply g.K.Preparer.expects g.K.Preparer.prepares plain old new g.I.InputFiles files

pub returns-clause-misread : goal.returns-clause-misread
returns-clause-misread g c = λ files plain old new. ends.misread g.K.Lookup g.D.DeskOpener g.D.Catalogues g.B.Network g.K.Keeper.fails_to_apply g.K.Preparer.expects g.K.Preparer.prepares plain old new g.I.InputFiles files

pub returns-clause-failed : goal.returns-clause-failed
returns-clause-failed g c = λ files plain old new. ends.failed g.K.Lookup g.D.DeskOpener g.D.Catalogues g.B.Network g.K.Keeper.fails_to_apply g.K.Preparer.expects g.K.Preparer.prepares plain old new g.I.InputFiles files

pub returns-clause-memory : goal.returns-clause-memory
returns-clause-memory g c = λ files plain old new. ends.memory g.K.Lookup g.D.DeskOpener g.D.Catalogues g.B.Network g.K.Keeper.fails_to_apply g.K.Preparer.expects g.K.Preparer.prepares plain old new g.I.InputFiles files
