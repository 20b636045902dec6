use Rattle.std.proofs.Common.{refl}
use Rattle.http_service.specs.Responding.{failed}
use Rattle.http_service.proofs.RespondLemmas.{after_prepared, other_if_open, responds_before}
use Rattle.http_service.proofs.changing.install_files.Goals as goal

pub returns-in-Ok-Some-clause-responds : goal.returns-in-Ok-Some-clause-responds
returns-in-Ok-Some-clause-responds g c = λ trusted M shown none.
    after_prepared _ g.K.Lookup.is_closed g.K.Lookup.shows g.K.Lookup.leaves_one_of c.args.desk.now c.answer_prepared.new.self M c.args.id.now c.args.name.now c.args.index.now c.args.text.now _ c.in-Ok-Some.answered
    shown none
    (rw c.in-Ok-Some.field-0-is at c.in-Ok-Some.ensures.done) (rw c.in-Ok-Some.field-0-is at (c.in-Ok-Some.ensures.value trusted M shown)) (rw c.in-Ok-Some.field-0-is at (c.in-Ok-Some.ensures.left trusted M shown))
    (rw c.in-Ok-Some.field-0-is at c.in-Ok-Some.ensures.closes_done) (rw c.in-Ok-Some.field-0-is at c.in-Ok-Some.ensures.refused) c.prepared_answer.ensures

pub returns-in-Ok-None-clause-responds : goal.returns-in-Ok-None-clause-responds
returns-in-Ok-None-clause-responds g c = λ trusted M shown none.
    let before = c.install_read.ensures.trust trusted in
    responds_before _ _ _ _ _ M _ _ (λ ms left. rw c.in-Ok-None.field-0-is at (c.in-Ok-None.ensures.leaves ms left))
    (c.install_read.ensures.responds trusted M (rw c.in-Ok-None.field-0-is at (c.in-Ok-None.ensures.shows before M shown)) none)

pub returns-in-Err-clause-responds : goal.returns-in-Err-clause-responds
returns-in-Err-clause-responds g c = λ trusted M shown none.
    failed c.unavailable.ensures (c.in-Err.ensures.shows trusted M shown) c.in-Err.ensures.leaves

pub returns-in-Ok-Some-clause-closed : goal.returns-in-Ok-Some-clause-closed
returns-in-Ok-Some-clause-closed g c = λ shut. absurd (other_if_open _ _ _ refl c.in-Ok-Some.ensures.closed shut)

pub returns-in-Ok-None-clause-closed : goal.returns-in-Ok-None-clause-closed
returns-in-Ok-None-clause-closed g c = λ shut. absurd (other_if_open _ _ _ refl c.in-Ok-None.ensures.closed shut)
