use Rattle.app_words.proofs.line.with_leaf.Goals as goal

pub returns : goal.returns
returns c = λ app start. c.with_command.ensures _ _ start c.leaf.ensures
