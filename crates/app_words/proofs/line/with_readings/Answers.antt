use Rattle.app_words.proofs.line.with_readings.Goals as goal

pub returns : goal.returns
returns c = λ start.
    let one = c.with_leaf-line.ensures _ start in
    let two = c.with_leaf-line-2.ensures _ one in
    let three = c.with_leaf-line-3.ensures _ two in
    let four = c.with_leaf-line-4.ensures _ three in
    c.with_leaf.ensures _ four
