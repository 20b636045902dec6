use Rattle.store_tables.specs.declared.tables.StoreTable.TheVariants.{Kept}
use Rattle.store_sql.specs.Columns.{kept_columns}
use Rattle.store_sql.specs.Encodings.{stored_kept}
use Rattle.store_sql.proofs.StreamLemmas.{passed_on}
use Rattle.store_scans.proofs.TakerLemmas.{if_err_then}
use Rattle.store_opening.proofs.StepLemmas.{before}
use Rattle.store_opening.proofs.WrongLemmas.{wrong_rowids}
use Rattle.store_opening.proofs.rowids.test_other_rowids.Goals as goal

pub returns-in_err-test_small-clause-damaged : goal.returns-in_err-test_small-clause-damaged
returns-in_err-test_small-clause-damaged g c clean =
    passed_on _ _ c.from_residual.result c.from_residual.ensures.1 (λ is records apart. c.in_err-test_small.ensures.damaged clean is records apart.0)

pub returns-clause-damaged : goal.returns-clause-damaged
returns-clause-damaged g c clean =
    let first = before c.test_rowids.ensures.reads c.in_ok-test_small.ensures.same clean in
    if_err_then _ _ c.test_rowids.result
    (λ fault wrong is records apart. wrong_rowids stored_kept kept_columns Kept _ _ first.1 records.1.1.1.0 apart.1 (wrong is))
    (c.test_rowids.ensures.damaged clean)
