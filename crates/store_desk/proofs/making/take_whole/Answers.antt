use Rattle.std.proofs.Common.{sym, subst}
use Rattle.store_desk.specs.Coming.{IsIndexOfInstall}
use Rattle.store_desk.specs.declared.making.IndexPart.{IndexPart}
use Rattle.store_desk.proofs.making.take_whole.Goals as goal

pub whole_index-requires : goal.whole_index-requires
whole_index-requires c = subst (λ (part : IndexPart). IsIndexOfInstall c.args.install.now part) (sym c.replace-before.ensures.value) c.requires

pub returns-clause-index : goal.returns-clause-index
returns-clause-index c = subst (λ (part : IndexPart). IsIndexOfInstall c.args.install.now part) (sym c.replace-before.ensures.after) tt
