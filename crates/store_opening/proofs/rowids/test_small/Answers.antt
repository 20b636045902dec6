use Rattle.std.proofs.Common.{refl, ◌∙◌}
use Rattle.store_tables.specs.declared.tables.StoreTable.TheVariants.{Mark, Item, Member}
use Rattle.store_sql.specs.Columns.{mark_columns, item_columns, member_columns}
use Rattle.store_sql.specs.Encodings.{stored_mark, stored_item, stored_member}
use Rattle.store_sql.proofs.StreamLemmas.{passed_on}
use Rattle.store_scans.proofs.TakerLemmas.{if_err_then}
use Rattle.store_opening.proofs.StepLemmas.{before}
use Rattle.store_opening.proofs.WrongLemmas.{wrong_rowids}
use Rattle.store_opening.proofs.rowids.test_small.Goals as goal

pub returns-in_err-test_rowids-clause-damaged : goal.returns-in_err-test_rowids-clause-damaged
returns-in_err-test_rowids-clause-damaged g c clean =
    passed_on _ _ c.from_residual.result c.from_residual.ensures.1
    (λ is records apart. wrong_rowids stored_mark mark_columns Mark _ _ refl records.0 apart.0 (c.in_err-test_rowids.ensures.damaged clean is))

pub returns-in_err-test_rowids-2-clause-damaged : goal.returns-in_err-test_rowids-2-clause-damaged
returns-in_err-test_rowids-2-clause-damaged g c clean =
    let first = before c.test_rowids-2.ensures.reads c.in_ok-test_rowids.ensures.same clean in
    passed_on _ _ c.from_residual-in_err-test_rowids-2.result c.from_residual-in_err-test_rowids-2.ensures.1
    (λ is records apart. wrong_rowids stored_item item_columns Item _ _ first.1 records.1.0 apart.1 (c.in_err-test_rowids-2.ensures.damaged clean is))

pub returns-clause-damaged : goal.returns-clause-damaged
returns-clause-damaged g c clean =
    let late = before c.test_rowids-3.ensures.reads c.in_ok-test_rowids-2.ensures.same clean in
    let early = before c.test_rowids-2.ensures.reads c.in_ok-test_rowids.ensures.same late.0 in
    if_err_then _ _ c.test_rowids-3.result
    (λ fault wrong is records apart. wrong_rowids stored_member member_columns Member _ _ (late.1 ∙ early.1) records.1.1.0 apart.2 (wrong is))
    (c.test_rowids-3.ensures.damaged clean)
