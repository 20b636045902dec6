use Rattle.store_opening.proofs.layout.has_parted.Goals as goal

pub returns : goal.returns
returns c = (λ yes. record { tables = c.has_parted_tables.ensures.0 yes; room = tt }, λ layout. c.has_parted_tables.ensures.1 layout.tables)
