use Rattle.store_holdings.proofs.HeldLemmas.{held_one, held_readable, held_tables, text_once}
use Rattle.store_holdings.proofs.lookup_laws.held_laws.Goals as goal

pub returns-clause-tables : goal.returns-clause-tables
returns-clause-tables c = held_tables

pub returns-clause-one : goal.returns-clause-one
returns-clause-one c = held_one

pub returns-clause-once : goal.returns-clause-once
returns-clause-once c = text_once

pub returns-clause-readable : goal.returns-clause-readable
returns-clause-readable c = held_readable
