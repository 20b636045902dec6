use Rattle.app_words.proofs.line.with_arrangements.Goals as goal

pub returns : goal.returns
returns c = λ start. c.with_place.ensures _ (c.with_group.ensures _ start)
