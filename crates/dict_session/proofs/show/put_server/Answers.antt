use Rattle.std.proofs.Common.{subst, sym}
use Rattle.dict_proto.specs.Streams.{Puts}
use Rattle.dict_session.specs.Answers.{no_rows}
use Rattle.dict_session.specs.Ending.{PutsAnswer}
use Rattle.dict_session.specs.Shows.{server_answer}
use Rattle.dict_session.proofs.ShowLemmas.{not_open, server_is}
use Rattle.dict_session.proofs.show.put_server.Goals as goal

pub returns-in-Ok : goal.returns-in-Ok
returns-in-Ok g c = λ M shown failed.
    c.whole.ensures (g.K.Sink.stream c.args.sink.now) (g.K.Sink.stream c.put_replies.new.sink) (server_answer M c.args.host.now) failed no_rows (g.L.Lookup.is_closed c.args.desk.now)
    (subst (Puts c.put_replies.result (g.K.Sink.stream c.args.sink.now) (g.K.Sink.stream c.put_replies.new.sink)) (server_is M c.args.host c.in-Ok.count (c.in-Ok.ensures.value M shown)) c.put_replies.ensures)

pub returns-in-Err : goal.returns-in-Err
returns-in-Err g c = λ M shown failed.
    subst (PutsAnswer failed c.put_unavailable.result (g.K.Sink.stream c.args.sink.now) (g.K.Sink.stream c.put_unavailable.new.sink) (server_answer M c.args.host.now) no_rows) (sym (not_open _ c.in-Err.ensures.open))
    (c.put_unavailable.ensures (server_answer M c.args.host.now) failed no_rows)
