use Rattle.store_opening.proofs.layout.has_parted_tables.Goals as goal

pub returns-then-has_common : goal.returns-then-has_common
returns-then-has_common c =
    let a = c.has_common.ensures.0 c.if-has_common.true in
    (λ yes. let b = c.has_file_tables.ensures.0 yes in (a.0, (a.1, (a.2, (a.3, (b.0, (b.1, tt)))))), λ t. c.has_file_tables.ensures.1 (t.1.1.1.1.0, t.1.1.1.1.1.0))
