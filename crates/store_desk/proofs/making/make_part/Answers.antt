use Rattle.std.proofs.Common.{sym, subst}
use Rattle.store_desk.specs.Coming.{IsIndexOfInstall}
use Rattle.store_desk.specs.declared.making.IndexPart.{IndexPart}
use Rattle.store_desk.proofs.making.make_part.Goals as goal

pub made_on-made-requires-clause-index : goal.made_on-made-requires-clause-index
made_on-made-requires-clause-index c = subst (λ (part : IndexPart). IsIndexOfInstall c.args.install.now part) (sym c.replace-before.ensures.value) c.requires.index
