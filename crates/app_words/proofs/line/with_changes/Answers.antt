use Rattle.app_words.proofs.line.with_changes.Goals as goal

pub returns : goal.returns
returns c = λ start.
    let one = c.with_leaf-line.ensures _ start in
    let two = c.with_leaf-line-2.ensures _ one in
    c.with_leaf.ensures _ two
