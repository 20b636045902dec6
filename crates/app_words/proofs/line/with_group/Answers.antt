use Rattle.app_words.proofs.line.with_group.Goals as goal

pub returns : goal.returns
returns c = λ app start.
    c.with_command.ensures _ _ start (c.with_arg.ensures _ _ c.leaf-group.ensures c.several-member.ensures.rule c.several-member.ensures.local)
