use Rattle.std.proofs.Common.{sym, subst}
use Rattle.std.proofs.lemmas.Result.{on_ok_weaker}
use Rattle.store_sql.proofs.StreamLemmas.{passed_on}
use Rattle.store_scans.proofs.TakerLemmas.{if_err_then}
use Rattle.store_opening.specs.Layouts.{layout_in}
use Rattle.store_opening.specs.Opens.{ArePartRows}
use Rattle.store_opening.proofs.StepLemmas.{before}
use Rattle.store_sql.specs.Readings.{IsReadable, contents}
use Rattle.store_opening.proofs.strays.test_numbers.Goals as goal

pub returns-in_err-test_records-clause-damaged : goal.returns-in_err-test_records-clause-damaged
returns-in_err-test_records-clause-damaged g c clean =
    passed_on _ _ c.from_residual.result c.from_residual.ensures.1 (λ is readable known. c.in_err-test_records.ensures.damaged clean is readable.0 known.editions)

pub returns-clause-known : goal.returns-clause-known
returns-clause-known g c clean =
    let first = before c.test_contents.ensures.reads c.in_ok-test_records.ensures.same clean in
    on_ok_weaker c.test_contents.result (λ known. record { editions = c.in_ok-test_records.ensures.known first.0; contents = rw first.1 at known }) (c.test_contents.ensures.known clean)

pub returns-clause-parts : goal.returns-clause-parts
returns-clause-parts g c clean =
    let first = before c.test_contents.ensures.reads c.in_ok-test_records.ensures.same clean in
    on_ok_weaker c.test_contents.result (λ parts. subst (ArePartRows (layout_in c.args.layout)) first.1 parts) (c.test_contents.ensures.parts clean)

pub returns-clause-damaged : goal.returns-clause-damaged
returns-clause-damaged g c clean =
    let first = before c.test_contents.ensures.reads c.in_ok-test_records.ensures.same clean in
    if_err_then _ _ c.test_contents.result
    (λ fault wrong is readable known. wrong is (subst (IsReadable (contents (layout_in c.args.layout))) (sym first.1) readable.1.0) (rw first.1 known.contents))
    (c.test_contents.ensures.damaged clean)
