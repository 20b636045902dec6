use Rattle.std.proofs.Common.{subst, ◌∙◌}
use Rattle.store_desk.specs.Coming.{IsIndexOfInstall}
use Rattle.store_desk.specs.declared.making.IndexPart.{IndexPart}
use Rattle.store_desk.proofs.making.whole_index.Goals as goal

pub returns-in-Ok : goal.returns-in-Ok
returns-in-Ok c = λ reading h. c.in-Ok.ensures ∙ (subst (λ (part : IndexPart). IsIndexOfInstall c.args.install.now part) c.in-Parts.is c.requires) reading h
