use Rattle.std.proofs.Common.{List, ℕ, true, subst}
use Rattle.dict_session.specs.Answers.{counted_rows}
use Rattle.dict_session.specs.Ending.{PutsAnswer}
use Rattle.dict_session.specs.Rows.{answering}
use Rattle.dict_session.proofs.FoundLemmas.{found_none, found_some}
use Rattle.dict_session.proofs.found.put_found.Goals as goal

pub returns-then-counted-eq0-clause-value : goal.returns-then-counted-eq0-clause-value
returns-then-counted-eq0-clause-value g c = λ trusted M shown few.
    let failed = g.L.Lookup.has_failed c.count_asked.new.desk in
    let all = answering c.args.query.now M.items c.args.asked.places.items c.args.asked.is_first in
    subst (λ (answer : List ℕ). PutsAnswer failed c.put_whole.result (g.K.Sink.stream c.args.sink.now) (g.K.Sink.stream c.put_whole.new.sink) answer (counted_rows c.args.query.now.what) true)
    (found_none c.args.query.now M.items all c.in-Ok.counted (c.in-Ok.ensures.value trusted M shown few) c.if-counted-eq0.true) (c.put_whole.ensures failed (counted_rows c.args.query.now.what) true)

pub returns-clause-value : goal.returns-clause-value
returns-clause-value g c = λ trusted M shown few.
    let failed = g.L.Lookup.has_failed c.put_counted.new.desk in
    let all = answering c.args.query.now M.items c.args.asked.places.items c.args.asked.is_first in
    let earlier = c.put_counted.ensures.desk.trust trusted in
    subst (λ (answer : List ℕ). PutsAnswer failed c.put_counted.result (g.K.Sink.stream c.args.sink.now) (g.K.Sink.stream c.put_counted.new.sink) answer (counted_rows c.args.query.now.what) true)
    (found_some c.args.query.now M.items all c.in-Ok.counted (c.in-Ok.ensures.value earlier M shown few) c.if-counted-eq0.false) (c.put_counted.ensures.value trusted M (c.in-Ok.ensures.desk.shows earlier M shown))
