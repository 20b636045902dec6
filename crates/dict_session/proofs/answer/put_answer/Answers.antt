use Rattle.std.proofs.Common.{true, false, refl}
use Rattle.dict_session.specs.Answers.{no_rows}
use Rattle.dict_session.proofs.LooksLemmas.{quiet}
use Rattle.dict_session.proofs.answer.put_answer.Goals as goal

pub returns-in-ShowDatabases-clause-looks : goal.returns-in-ShowDatabases-clause-looks
returns-in-ShowDatabases-clause-looks g c = λ M shown. quiet _ c.put_databases.result _ _ refl _ _ _ _ _ (c.put_databases.ensures M shown false)

pub returns-in-ShowStrategies-clause-looks : goal.returns-in-ShowStrategies-clause-looks
returns-in-ShowStrategies-clause-looks g c = λ M shown. quiet _ c.whole.result _ _ refl (g.K.Sink.stream c.args.sink.now) (g.K.Sink.stream c.put_strategies.new.sink) _ no_rows true
    (c.whole.ensures (g.K.Sink.stream c.args.sink.now) (g.K.Sink.stream c.put_strategies.new.sink) _ false no_rows true c.put_strategies.ensures)

pub returns-in-ShowServer-clause-looks : goal.returns-in-ShowServer-clause-looks
returns-in-ShowServer-clause-looks g c = λ M shown. quiet _ c.put_server.result _ _ refl _ _ _ _ _ (c.put_server.ensures M shown false)

pub returns-in-Client-clause-looks : goal.returns-in-Client-clause-looks
returns-in-Client-clause-looks g c = λ M shown. quiet _ c.put_whole.result _ _ refl _ _ _ _ _ (c.put_whole.ensures false no_rows true)

pub returns-in-Status-clause-looks : goal.returns-in-Status-clause-looks
returns-in-Status-clause-looks g c = λ M shown. quiet _ c.put_status.result _ _ refl _ _ _ _ _ (c.put_status.ensures M shown false)

pub returns-in-Help-clause-looks : goal.returns-in-Help-clause-looks
returns-in-Help-clause-looks g c = λ M shown. quiet _ c.whole-in-Help.result _ _ refl (g.K.Sink.stream c.args.sink.now) (g.K.Sink.stream c.put_help.new.sink) _ no_rows true
    (c.whole-in-Help.ensures (g.K.Sink.stream c.args.sink.now) (g.K.Sink.stream c.put_help.new.sink) _ false no_rows true c.put_help.ensures)

pub returns-in-Quit-clause-looks : goal.returns-in-Quit-clause-looks
returns-in-Quit-clause-looks g c = λ M shown. quiet _ c.put_whole-in-Quit.result _ _ refl _ _ _ _ _ (c.put_whole-in-Quit.ensures false no_rows true)
