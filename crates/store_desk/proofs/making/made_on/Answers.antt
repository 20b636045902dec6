use Rattle.std.proofs.Common.{subst}
use Rattle.store_desk.specs.Coming.{IsIndexOfInstall}
use Rattle.store_desk.specs.declared.making.IndexPart.{IndexPart}
use Rattle.store_desk.proofs.making.made_on.Goals as goal

pub take_slice-requires-clause-index : goal.take_slice-requires-clause-index
take_slice-requires-clause-index c = subst (λ (part : IndexPart). IsIndexOfInstall c.args.install.now part) c.in-Entries.is c.requires.index

pub returns-in-Parts-clause-index : goal.returns-in-Parts-clause-index
returns-in-Parts-clause-index c = c.step_parts.ensures.index c.args.install.now (subst (λ (part : IndexPart). IsIndexOfInstall c.args.install.now part) c.in-Parts.is c.requires.index)
