use Rattle.store_opening.proofs.layout.has_keyed.Goals as goal

pub returns-then-has_keyed_tables : goal.returns-then-has_keyed_tables
returns-then-has_keyed_tables c =
    (λ yes. record { tables = c.has_keyed_tables.ensures.0 c.if-has_keyed_tables.true; room = c.has_part_room.ensures.0 yes }, λ layout. c.has_part_room.ensures.1 layout.room)
