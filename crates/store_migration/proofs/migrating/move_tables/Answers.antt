use Rattle.std.proofs.Common.{inl, inr}
use Rattle.store_migration.proofs.KitLemmas.{passed_on, was_clean, two_survive}
use Rattle.store_migration.proofs.FailLemmas.{fails_later, fails_within}
use Rattle.store_migration.proofs.FlowLemmas.{apart_headed}
use Rattle.store_migration.proofs.MovedLemmas.{mark_behind}
use Rattle.store_migration.proofs.migrating.move_tables.Goals as goal

pub head_editions-requires : goal.head_editions-requires
head_editions-requires g c clean open' =
    apart_headed c.args.layout c.args.numbers.now _ _ _ (c.requires.old (was_clean c.take_apart.ensures.survives clean) ((c.take_apart.ensures.keeps clean).was_open open')) (c.in_ok-headers.ensures.apart clean)

pub renew_mark-requires-clause-mark : goal.renew_mark-requires-clause-mark
renew_mark-requires-clause-mark g c clean open' =
    let clean1 = was_clean c.head_editions.ensures.survives clean in
    let opened = (c.take_apart.ensures.keeps clean1).was_open ((c.head_editions.ensures.keeps clean).was_open open') in
    let headed = rw c.deref.ensures.value at (c.in_ok-head_editions.ensures.headed clean) in
    mark_behind c.args.layout c.args.numbers.now _ _ _ _ (c.requires.old (was_clean c.take_apart.ensures.survives clean1) opened) (c.in_ok-headers.ensures.apart clean1) headed

pub returns-clause-moved : goal.returns-clause-moved
returns-clause-moved g c clean =
    let clean2 = was_clean c.renew_mark.ensures.survives clean in
    let clean1 = was_clean c.head_editions.ensures.survives clean2 in
    let marked = c.in_ok-renew_mark.ensures.marked clean in
    let headed = rw c.deref.ensures.value at (c.in_ok-head_editions.ensures.headed clean2) in
    let took = c.in_ok-headers.ensures in
    (record { was_open = took.opened clean1; moved = record { headers = _; apart = _; headed = _; takes = took.apart clean1; heads = headed; marked = marked } }, marked.put.sound)

pub returns-in_err-headers-clause-failed : goal.returns-in_err-headers-clause-failed
returns-in_err-headers-clause-failed g c clean =
    passed_on _ _ _ c.from_residual.ensures.1
    (fails_within (λ part at it. inl it) (c.in_err-headers.ensures.failed clean))

pub returns-in_err-head_editions-clause-failed : goal.returns-in_err-head_editions-clause-failed
returns-in_err-head_editions-clause-failed g c clean =
    let early = was_clean c.head_editions.ensures.survives clean in
    let failed = rw c.deref.ensures.value at (c.in_err-head_editions.ensures.failed clean) in
    passed_on _ _ _ c.from_residual-in_err-head_editions.ensures.1
    (fails_later c.take_apart.ensures.survives (λ begun. c.in_ok-headers.ensures.inside early)
    (λ part at it. inr (_, (_, c.in_ok-headers.ensures.apart early, inl it))) failed)

pub returns-in_err-renew_mark-clause-failed : goal.returns-in_err-renew_mark-clause-failed
returns-in_err-renew_mark-clause-failed g c clean =
    let early = was_clean c.renew_mark.ensures.survives clean in
    let first = was_clean c.head_editions.ensures.survives early in
    let headed = rw c.deref.ensures.value at (c.in_ok-head_editions.ensures.headed early) in
    passed_on _ _ _ c.from_residual-in_err-renew_mark.ensures.1
    (fails_later (two_survive _ _ _ c.take_apart.ensures.survives c.head_editions.ensures.survives) (λ begun. c.in_ok-head_editions.ensures.inside early)
    (λ part at it. inr (_, (_, c.in_ok-headers.ensures.apart first, inr (_, headed, it)))) (c.in_err-renew_mark.ensures.failed clean))
