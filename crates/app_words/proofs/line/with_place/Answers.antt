use Rattle.app_words.proofs.line.with_place.Goals as goal

pub returns : goal.returns
returns c = λ app start.
    c.with_command.ensures _ _ start (c.with_arg.ensures _ _ c.leaf-place.ensures c.number.ensures.rule c.number.ensures.local)
