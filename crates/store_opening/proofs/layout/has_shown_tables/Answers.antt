use Rattle.store_opening.proofs.layout.has_shown_tables.Goals as goal

pub returns-then-has_older : goal.returns-then-has_older
returns-then-has_older c =
    let a = c.has_older.ensures.0 c.if-has_older.true in
    (λ yes. let b = c.has_filed_tables.ensures.0 yes in (a.0, (a.1, (a.2, (a.3, (a.4, (b.0, (b.1, (b.2, tt)))))))), λ t. c.has_filed_tables.ensures.1 (t.1.1.1.1.1.0, t.1.1.1.1.1.1.0, t.1.1.1.1.1.1.1.0))
