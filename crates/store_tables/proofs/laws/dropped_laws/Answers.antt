use Rattle.store_tables.proofs.DroppedLemmas.{dropped_own, dropped_unreferred, dropped_room, free_left, freed_left, counted_left}
use Rattle.store_tables.proofs.laws.dropped_laws.Goals as goal

pub returns-clause-kept : goal.returns-clause-kept
returns-clause-kept c = dropped_own

pub returns-clause-unreferred : goal.returns-clause-unreferred
returns-clause-unreferred c = dropped_unreferred

pub returns-clause-room : goal.returns-clause-room
returns-clause-room c = dropped_room

pub returns-clause-unused : goal.returns-clause-unused
returns-clause-unused c = free_left

pub returns-clause-freed : goal.returns-clause-freed
returns-clause-freed c = freed_left

pub returns-clause-counted : goal.returns-clause-counted
returns-clause-counted c = counted_left
