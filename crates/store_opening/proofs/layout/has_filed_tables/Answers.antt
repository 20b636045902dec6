use Rattle.store_opening.proofs.layout.has_filed_tables.Goals as goal

pub returns-then-has_keyed_table : goal.returns-then-has_keyed_table
returns-then-has_keyed_table c =
    let e = c.has_keyed_table.ensures.0 c.if-has_keyed_table.true in
    (λ yes. let b = c.has_pieces.ensures.0 yes in (e, b.0, b.1), λ t. c.has_pieces.ensures.1 (t.1, t.2))
