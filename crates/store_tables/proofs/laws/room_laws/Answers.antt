use Rattle.store_tables.proofs.MadeLemmas.{room_for, room_kept, unused_still}
use Rattle.store_tables.proofs.laws.room_laws.Goals as goal

pub returns-clause-each : goal.returns-clause-each
returns-clause-each c = room_for

pub returns-clause-kept : goal.returns-clause-kept
returns-clause-kept c = room_kept

pub returns-clause-unused : goal.returns-clause-unused
returns-clause-unused c = unused_still
