use Rattle.std.proofs.Common.{codes, inl, refl}
use Rattle.store_sql.specs.Columns.{entry_columns}
use Rattle.store_migration.proofs.KitLemmas.{passed_on, list_keeps, unchanged_keeps, signed_back}
use Rattle.store_migration.proofs.FailLemmas.{fails_here, lines_fail, reading}
use Rattle.store_migration.proofs.ReadLemmas.{plain_selected}
use Rattle.store_migration.proofs.index.plain_index.Goals as goal

pub returns-clause-index : goal.returns-clause-index
returns-clause-index g c clean =
    let it = rw (signed_back _ c.ranges.number) at (c.in_ok-entries.ensures.selected clean) in
    (record { entries = _; lines = plain_selected _ _ _ it.0; written = c.in_ok-octets.ensures.written }, it.1)

pub returns-clause-keeps : goal.returns-clause-keeps
returns-clause-keeps g c clean = unchanged_keeps _ _ (c.in_ok-entries.ensures.selected clean).1

pub returns-in_err-octets-clause-keeps : goal.returns-in_err-octets-clause-keeps
returns-in_err-octets-clause-keeps g c clean = unchanged_keeps _ _ (c.in_ok-entries.ensures.selected clean).1

pub returns-in_err-entries-clause-keeps : goal.returns-in_err-entries-clause-keeps
returns-in_err-entries-clause-keeps g c clean = list_keeps entry_columns _ _ _ c.in_err-entries.field-0.0 (c.in_err-entries.ensures.failed clean)

pub returns-in_err-entries-clause-failed : goal.returns-in_err-entries-clause-failed
returns-in_err-entries-clause-failed g c clean =
    passed_on _ _ _ c.from_residual.ensures.1 (fails_here (reading (codes "entry") entry_columns c.args.number) (inl (refl, refl)) (rw (signed_back _ c.ranges.number) at (c.in_err-entries.ensures.failed clean)))

pub returns-in_err-octets-clause-failed : goal.returns-in_err-octets-clause-failed
returns-in_err-octets-clause-failed g c clean =
    let it = rw (signed_back _ c.ranges.number) at (c.in_ok-entries.ensures.selected clean) in
    passed_on _ _ _ c.from_residual-in_err-octets.ensures.1 (lines_fail _ c.entries_inside.ensures.survives it.1 (plain_selected _ _ _ it.0) c.in_err-octets.ensures.failed)
