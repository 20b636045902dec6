use Rattle.store_opening.proofs.layout.has_plain.Goals as goal

pub returns-then-has_plain_tables : goal.returns-then-has_plain_tables
returns-then-has_plain_tables c =
    (λ yes. record { tables = c.has_plain_tables.ensures.0 c.if-has_plain_tables.true; room = c.has_part_room.ensures.0 yes }, λ layout. c.has_part_room.ensures.1 layout.room)
