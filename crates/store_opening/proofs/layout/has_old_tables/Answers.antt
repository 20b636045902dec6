use Rattle.store_opening.proofs.layout.has_old_tables.Goals as goal

pub returns-then-has_old_entry : goal.returns-then-has_old_entry
returns-then-has_old_entry c =
    let e = c.has_old_entry.ensures.0 c.if-has_old_entry.true in
    (λ yes. let b = c.has_pieces.ensures.0 yes in (e, b.0, b.1), λ t. c.has_pieces.ensures.1 (t.1, t.2))
