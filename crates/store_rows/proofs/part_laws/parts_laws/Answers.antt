use Rattle.store_rows.proofs.PartLemmas.{parts_join, parts_regular, parts_only, parts_at}
use Rattle.store_rows.proofs.part_laws.parts_laws.Goals as goal

pub returns-clause-joined : goal.returns-clause-joined
returns-clause-joined c = parts_join

pub returns-clause-regular : goal.returns-clause-regular
returns-clause-regular c = parts_regular

pub returns-clause-only : goal.returns-clause-only
returns-clause-only c = parts_only

pub returns-clause-each : goal.returns-clause-each
returns-clause-each c = parts_at
