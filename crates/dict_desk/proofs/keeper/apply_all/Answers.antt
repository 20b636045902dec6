use Rattle.std.proofs.Common.{◌+◌, [], ◌∷◌, ◌++◌, inr, sym, ◌∙◌, subst, take, arith}
use Rattle.std.proofs.lemmas.Grind.{common_steps}
use Rattle.dict_catalogue.specs.Steps.{after}
use Rattle.dict_desk.specs.Faults.{has_closed_by}
use Rattle.dict_desk.specs.AllApplied.{AllAnswered, HaltsAt, AreApplied, HasHalted}
use Rattle.dict_desk.specs.Requests.{request_meant, requests_meant}
use Rattle.dict_desk.proofs.AllLemmas.{all_one_more, applied_one_more, stands_by, fails_by, halts, front_and_next, none_failed_by, none_closed_by, still_so, not_closed}
use Rattle.dict_desk.proofs.keeper.apply_all.Goals as goal

-- the command that failed stands behind those that were answered
pub returns-in-Err-clause-halted : goal.returns-in-Err-clause-halted
returns-in-Err-clause-halted g c = λ trusted M shown.
    let all = requests_meant c.args.requests.now in
    let i = c.loop-request.request-index in
    let front = c.loop-request.invariant.answered (c.apply.ensures.trust trusted) M shown in
    subst (λ n. HaltsAt (g.K.Lookup.shows c.apply.new.self) (g.K.Lookup.leaves_one_of c.args.desk.now) (g.K.Lookup.leaves_one_of c.apply.new.self) M all n c.in-Err.fault)
    (sym c.loop-request.invariant.counted ∙ sym c.len.ensures)
    (halts (g.K.Lookup.shows c.loop-request.desk) (g.K.Lookup.shows c.apply.new.self) (g.K.Lookup.leaves_one_of c.args.desk.now) (g.K.Lookup.leaves_one_of c.loop-request.desk) (g.K.Lookup.leaves_one_of c.apply.new.self)
    M all i (request_meant c.request-item.result) c.loop-request.outcomes.items c.apply.result c.in-Err.fault
    (front_and_next c.args.requests.now i c.request-item.result c.loop-request-test.true c.request-item.is)
    (sym c.in-Err.ensures)
    (c.apply.ensures.value trusted (after M (take i all)) front.shown)
    (c.apply.ensures.leaves trusted (after M (take i all)) front.shown)
    front)

-- and it is the one behind them
pub returns-in-Err-clause-failed : goal.returns-in-Err-clause-failed
returns-in-Err-clause-failed g c =
    let all = requests_meant c.args.requests.now in
    let i = c.loop-request.request-index in
    let stand = sym c.loop-request.invariant.counted ∙ sym c.len.ensures in
    let next = front_and_next c.args.requests.now i c.request-item.result c.loop-request-test.true c.request-item.is in
    let last = subst (λ r. g.K.Keeper.applies c.loop-request.desk (request_meant c.request-item.result) r c.apply.new.self) (fails_by c.apply.result c.in-Err.fault (sym c.in-Err.ensures)) c.apply.ensures.applied in
    subst (λ n. HasHalted g.K.Keeper.applies c.args.desk.now all n c.in-Err.fault c.apply.new.self) stand
    (inr (c.loop-request.outcomes.items, c.loop-request.desk, request_meant c.request-item.result, next, c.loop-request.invariant.called, last))

pub loop-request-preserved : goal.loop-request-preserved
loop-request-preserved g c = record {
  answered = λ trusted M shown.
      let all = requests_meant c.args.requests.now in
      let i = c.loop-request.request-index in
      let front = c.loop-request.invariant.answered (c.apply.ensures.trust trusted) M shown in
      subst (λ xs. AllAnswered (g.K.Lookup.shows c.apply.new.self) (g.K.Lookup.leaves_one_of c.args.desk.now) (g.K.Lookup.leaves_one_of c.apply.new.self) M (take (i + 1) all) xs)
      (sym c.push_reserved.ensures.items)
      (all_one_more (g.K.Lookup.shows c.loop-request.desk) (g.K.Lookup.shows c.apply.new.self) (g.K.Lookup.leaves_one_of c.args.desk.now) (g.K.Lookup.leaves_one_of c.loop-request.desk) (g.K.Lookup.leaves_one_of c.apply.new.self)
      M (take i all) (take (i + 1) all) (request_meant c.request-item.result) c.loop-request.outcomes.items c.apply.result c.in-Ok-settled.outcome
      (front_and_next c.args.requests.now i c.request-item.result c.loop-request-test.true c.request-item.is)
      (sym c.in-Ok-settled.ensures)
      (c.apply.ensures.value trusted (after M (take i all)) front.shown)
      (c.apply.ensures.leaves trusted (after M (take i all)) front.shown)
      front);
  called =
      let all = requests_meant c.args.requests.now in
      let i = c.loop-request.request-index in
      let next = front_and_next c.args.requests.now i c.request-item.result c.loop-request-test.true c.request-item.is in
      let last = subst (λ r. g.K.Keeper.applies c.loop-request.desk (request_meant c.request-item.result) r c.apply.new.self) (stands_by c.apply.result c.in-Ok-settled.outcome (sym c.in-Ok-settled.ensures)) c.apply.ensures.applied in
      subst (λ xs. AreApplied g.K.Keeper.applies c.args.desk.now (take (i + 1) all) xs c.apply.new.self) (sym c.push_reserved.ensures.items)
      (subst (λ rs. AreApplied g.K.Keeper.applies c.args.desk.now rs (c.loop-request.outcomes.items ++ c.in-Ok-settled.outcome ∷ []) c.apply.new.self) (sym next)
      (applied_one_more g.K.Keeper.applies c.args.desk.now c.loop-request.desk c.apply.new.self (take i all) c.loop-request.outcomes.items (request_meant c.request-item.result) c.in-Ok-settled.outcome c.loop-request.invariant.called last));
  trust = λ trusted. c.loop-request.invariant.trust (c.apply.ensures.trust trusted);
  beside = λ beside kept. c.apply.ensures.beside beside (c.loop-request.invariant.beside beside kept);
  counted = grind (arith, common_steps, c.push_reserved.ensures.len, c.loop-request.invariant.counted);
  room = grind (arith, common_steps, c.push_reserved.ensures.capacity, c.loop-request.invariant.room);
  first = λ none. absurd (omega (arith, none));
  unfailed = λ _. c.apply.ensures.failed ∙ none_failed_by c.apply.result c.in-Ok-settled.outcome (sym c.in-Ok-settled.ensures);
  closes = still_so (g.K.Lookup.is_closed c.apply.new.self) (g.K.Lookup.is_closed c.loop-request.desk) (g.K.Lookup.is_closed c.args.desk.now) (has_closed_by c.apply.result)
      c.apply.ensures.closes (none_closed_by c.apply.result c.in-Ok-settled.outcome (sym c.in-Ok-settled.ensures)) c.loop-request.invariant.closes;
  never = λ _. not_closed (g.K.Lookup.is_closed c.args.desk.now) c.apply.result c.in-Ok-settled.outcome (sym c.in-Ok-settled.ensures)
      (λ was. c.apply.ensures.closed.1 (c.loop-request.invariant.closes ∙ was));
}
