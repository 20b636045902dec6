use Rattle.std.proofs.Common.{sym, ◌∙◌}
use Rattle.std.proofs.lemmas.Result.{on_ok_weaker}
use Rattle.store_scans.proofs.ScanLemmas.{rows_damaged}
use Rattle.store_scans.proofs.TakerLemmas.{if_err_then, on_damage}
use Rattle.store_opening.proofs.WrongLemmas.{rows_stray}
use Rattle.store_opening.proofs.strays.test_strays.Goals as goal

pub returns-in-Err-clause-damaged : goal.returns-in-Err-clause-damaged
returns-in-Err-clause-damaged g c clean is taken h fits T M K =
    on_damage c.in-Err.fault _ c.in-Err.ensures.damaged (rows_damaged c.in-Err.fault (sym c.fault_of_rows.ensures ∙ is)) c.args.version taken h

pub returns-clause-known : goal.returns-clause-known
returns-clause-known g c clean =
    let are = c.deref.ensures.value ∙ c.in-Ok.ensures.numbers in
    on_ok_weaker c.test_numbers.result (λ known. rw c.may_have_orphans.ensures at (rw c.layout_of.ensures at (rw are at known))) (c.test_numbers.ensures.known clean)

pub returns-clause-parts : goal.returns-clause-parts
returns-clause-parts g c clean = on_ok_weaker c.test_numbers.result (λ parts. rw c.layout_of.ensures at parts) (c.test_numbers.ensures.parts clean)

pub returns-clause-damaged : goal.returns-clause-damaged
returns-clause-damaged g c clean =
    let are = c.deref.ensures.value ∙ c.in-Ok.ensures.numbers in
    if_err_then _ _ c.test_numbers.result
    (λ fault wrong is taken h fits. rows_stray c.args.version _ c.args.reader.now taken h fits (rw c.may_have_orphans.ensures at (rw c.layout_of.ensures at (rw are at wrong is))))
    (c.test_numbers.ensures.damaged clean)
