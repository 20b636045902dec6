use Rattle.std.proofs.Common.{◌++◌}
use Rattle.dict_session.specs.Answers.{answer_to}
use Rattle.dict_session.specs.Desks.{condition}
use Rattle.dict_session.specs.Lines.{cut}
use Rattle.dict_session.specs.Session.{session_host}
use Rattle.dict_session.specs.Through.{looks_up}
use Rattle.dict_session.proofs.SessionLemmas.{keeps_by}
use Rattle.dict_session.proofs.ThroughLemmas.{leaves_of}
use Rattle.dict_session.proofs.session.Session.advance.Goals as goal

pub returns-clause-answers : goal.returns-clause-answers
returns-clause-answers g c = λ step trusted M shown rest h.
    let course = c.read-course.result in
    let read = c.read-course.new.self in
    let leaves = leaves_of (answer_to M (session_host c.args.self.now)) (looks_up M) (g.L.Lookup.is_closed c.args.desk.now) (condition g.L.Lookup.has_failed g.L.Lookup.is_closed c.read-course.new.desk) course read
    (g.K.Sink.stream c.args.sink.now) (g.K.Sink.stream c.read-course.new.sink) (rest ++ c.args.piece.now) (c.read-course.ensures.answers trusted M shown rest h) in
    (leaves.0, keeps_by course read c.note.new.self (cut (rest ++ c.args.piece.now)).rest (c.note.ensures.line _) leaves.1)

pub returns-clause-through : goal.returns-clause-through
returns-clause-through g c = λ step trusted M shown rest h.
    let course = c.read-course.result in
    let read = c.read-course.new.self in
    let leaves = c.read-course.ensures.answers trusted M shown rest h in
    (leaves.0, keeps_by course read c.note.new.self (cut (rest ++ c.args.piece.now)).rest (c.note.ensures.line _) leaves.1)
