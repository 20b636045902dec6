use Rattle.std.proofs.Common.{refl}
use Rattle.std.proofs.lemmas.Result.{on_ok_weaker}
use Rattle.store_sql.proofs.StreamLemmas.{passed_on}
use Rattle.store_rows.specs.Given.{kept_given}
use Rattle.store_rows.specs.Whole.{with_replies}
use Rattle.store_scans.proofs.TakerLemmas.{if_err_then}
use Rattle.store_opening.proofs.StepLemmas.{before}
use Rattle.store_opening.proofs.WrongLemmas.{replies_wrong, ids_twice, ids_apart}
use Rattle.store_opening.proofs.records.read_kept.Goals as goal

pub returns-in_err-read_replies-clause-damaged : goal.returns-in_err-read_replies-clause-damaged
returns-in_err-read_replies-clause-damaged g c clean =
    passed_on _ _ c.from_residual.result c.from_residual.ensures.1
    (λ is taken h fits none. replies_wrong c.args.version _ c.args.reader.now taken h fits none (c.in_err-read_replies.ensures.damaged clean is))

pub returns-clause-replies : goal.returns-clause-replies
returns-clause-replies g c clean =
    let first = before c.test_ids.ensures.reads c.in_ok-read_replies.ensures.same clean in
    let all = c.in_ok-read_replies.ensures.whole first.0 in
    on_ok_weaker c.test_ids.result
    (λ apart taken h. (
      with_replies taken (kept_given all.0),
      all.2 c.args.version taken h,
      record { given = all.0; listing = all.1; after_is = refl; ids = ids_apart _ all.0 all.1 (rw first.1 at apart) },
    ))
    (c.test_ids.ensures.whole clean)

pub returns-clause-damaged : goal.returns-clause-damaged
returns-clause-damaged g c clean =
    let first = before c.test_ids.ensures.reads c.in_ok-read_replies.ensures.same clean in
    if_err_then _ _ c.test_ids.result (λ fault wrong is taken h fits none. ids_twice c.args.version _ taken.members (rw first.1 at wrong is)) (c.test_ids.ensures.damaged clean)
