use Rattle.std.proofs.Common.{List, ℕ, subst, sym}
use Rattle.dict_session.specs.Answers.{no_rows}
use Rattle.dict_session.specs.Ending.{PutsAnswer}
use Rattle.dict_session.specs.Shows.{status_answer}
use Rattle.dict_session.proofs.ShowLemmas.{not_open, status_is}
use Rattle.dict_session.proofs.show.put_status.Goals as goal

pub returns-in-Ok : goal.returns-in-Ok
returns-in-Ok g c = λ M shown failed.
    subst (λ (answer : List ℕ). PutsAnswer failed c.put_whole.result (g.K.Sink.stream c.args.sink.now) (g.K.Sink.stream c.put_whole.new.sink) answer no_rows (g.L.Lookup.is_closed c.args.desk.now))
    (status_is M c.in-Ok.count (c.in-Ok.ensures.value M shown)) (c.put_whole.ensures failed no_rows (g.L.Lookup.is_closed c.args.desk.now))

pub returns-in-Err : goal.returns-in-Err
returns-in-Err g c = λ M shown failed.
    subst (PutsAnswer failed c.put_unavailable.result (g.K.Sink.stream c.args.sink.now) (g.K.Sink.stream c.put_unavailable.new.sink) (status_answer M) no_rows) (sym (not_open _ c.in-Err.ensures.open))
    (c.put_unavailable.ensures (status_answer M) failed no_rows)
