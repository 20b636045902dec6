use Rattle.std.proofs.Common.{◌≡◌, ◌⊎◌, ℕ, ◌≤◌, List, [], ◌++◌, arith, length, take, refl, ◌∙◌, ap, subst, length-append, append-nil, inl, inr}
use Rattle.std.proofs.lemmas.List.{length-take-le}
use Rattle.std.specs.Io.KnownBytes.{Consumes}
use Rattle.std.proofs.KnownBytes.{Consumes-kept, Consumes-nil, Consumes-trans}
use Rattle.dict_proto.specs.Streams.{Stream, HasFailed, GivesAll, PutsAll, PutsFront}
use Rattle.dict_proto.proofs.PutLemmas.{puts_none, given_after}
use Rattle.dict_proto.specs.Replies.{banner_octets}
use Rattle.dict_session.specs.Lines.{cut}
use Rattle.dict_session.specs.Answers.{answer_to}
use Rattle.dict_session.specs.Session.{LeavesSession, course_of, session_host, connection_of}
use Rattle.dict_session.specs.Ending.{PutsLine, step_at}
use Rattle.dict_session.specs.declared.step.Course.{Course}
use Rattle.dict_session.specs.declared.step.Step.{Step}
use Rattle.dict_session.specs.declared.step.Step.TheVariants as steps
use Rattle.dict_session.specs.declared.step.Course.TheVariants.{More, Quit, SinkFailed, DeskFailed}
use Rattle.dict_session.proofs.PartLemmas.{stays_same, stays_after}
use Rattle.dict_session.proofs.SessionLemmas.{leaves_more}
use Rattle.dict_session.proofs.RunLemmas.{answered, ended_in}
use Rattle.dict_session.proofs.ThroughLemmas.{through_held, through_more}
use Rattle.dict_session.specs.Through.{LeavesThrough, looks_up}
use Rattle.dict_session.specs.Desks.{condition}
use Rattle.dict_session.proofs.session.run.run.Goals as goal

more_of : (course : Course) → step_at course ≡ steps.More → course ≡ More
more_of More e = refl
more_of Quit e = cc
more_of SinkFailed e = cc
more_of DeskFailed e = cc

pub returns-in-Err-clause-answers : goal.returns-in-Err-clause-answers
returns-in-Err-clause-answers g c = λ trusted M shown.
    let (b, read, turns, (greeted, hello, left)) = c.reads.invariant.left trusted M shown in
    let answer = answer_to M c.args.host.now in (
      b,
      (
        Consumes-kept _ _ _ _ read.octets c.in-Err.ensures.given.octets,
        inl (subst (λ n. HasFailed n (g.S.Source.stream c.take.new.self).failures) read.failures c.in-Err.ensures.given.failures),
        answered answer (condition g.L.Lookup.has_failed g.L.Lookup.is_closed c.reads.desk) (banner_octets c.args.host.now c.args.connection) (g.K.Sink.stream c.args.writer.now) greeted hello (g.K.Sink.stream c.reads.writer) b left.0,
      ),
    )

pub returns-in-Ok-eq0-clause-answers : goal.returns-in-Ok-eq0-clause-answers
returns-in-Ok-eq0-clause-answers g c = λ trusted M shown.
    let (b, read, turns, (greeted, hello, left)) = c.reads.invariant.left trusted M shown in
    let answer = answer_to M c.args.host.now in
    let none : b ++ take c.in-Ok-eq0.field-0 c.take.new.room ≡ b = rw c.in-Ok-eq0.field-0-test (append-nil b) in (
      b,
      (
        subst (GivesAll _ _) none (given_after _ _ _ b (take c.in-Ok-eq0.field-0 c.take.new.room) read c.in-Ok-eq0.ensures.given),
        c.in-Ok-eq0.ensures.end c.in-Ok-eq0.field-0-test (omega arith),
        answered answer (condition g.L.Lookup.has_failed g.L.Lookup.is_closed c.reads.desk) (banner_octets c.args.host.now c.args.connection) (g.K.Sink.stream c.args.writer.now) greeted hello (g.K.Sink.stream c.reads.writer) b left.0,
      ),
    )

pub returns-in-Quit-advance-clause-answers : goal.returns-in-Quit-advance-clause-answers
returns-in-Quit-advance-clause-answers g c = λ trusted M shown.
    let earlier = c.in-Quit-advance.ensures.desk.trust trusted in
    let (b, read, turns, (greeted, hello, left)) = c.reads.invariant.left earlier M shown in
    let answer = answer_to M c.args.host.now in
    let desk = condition g.L.Lookup.has_failed g.L.Lookup.is_closed c.advance.new.desk in
    let piece = take c.in-Ok-take.n c.take.new.room in
    let few : length piece ≤ 4096 = omega (arith, c.take.auto.room, c.reads.invariant.space, c.in-Ok-take.ensures.count, length-take-le c.in-Ok-take.n c.take.new.room c.in-Ok-take.ensures.count) in
    let last = subst (λ (host : List ℕ). LeavesSession (answer_to M host) desk Quit c.advance.new.self (g.K.Sink.stream c.reads.writer) (g.K.Sink.stream c.advance.new.sink) ((cut b).rest ++ piece))
    c.reads.invariant.host (c.in-Quit-advance.ensures.answers c.reads.invariant.step trusted M (c.reads.invariant.desk.shows earlier M shown) (cut b).rest left.1) in (
      b ++ piece,
      (
        given_after _ _ _ b piece read c.in-Ok-take.ensures.given,
        ended_in answer (condition g.L.Lookup.has_failed g.L.Lookup.is_closed c.reads.desk) (banner_octets c.args.host.now c.args.connection) (g.K.Sink.stream c.args.writer.now) greeted hello
            desk c.in-Quit-advance.ensures.desk.closed Quit (g.K.Sink.stream c.reads.writer) (g.K.Sink.stream c.advance.new.sink) b piece few left.0 last.0,
      ),
    )

pub returns-in-SinkFailed-clause-answers : goal.returns-in-SinkFailed-clause-answers
returns-in-SinkFailed-clause-answers g c = λ trusted M shown.
    let earlier = c.in-SinkFailed.ensures.desk.trust trusted in
    let (b, read, turns, (greeted, hello, left)) = c.reads.invariant.left earlier M shown in
    let answer = answer_to M c.args.host.now in
    let desk = condition g.L.Lookup.has_failed g.L.Lookup.is_closed c.advance.new.desk in
    let piece = take c.in-Ok-take.n c.take.new.room in
    let few : length piece ≤ 4096 = omega (arith, c.take.auto.room, c.reads.invariant.space, c.in-Ok-take.ensures.count, length-take-le c.in-Ok-take.n c.take.new.room c.in-Ok-take.ensures.count) in
    let last = subst (λ (host : List ℕ). LeavesSession (answer_to M host) desk SinkFailed c.advance.new.self (g.K.Sink.stream c.reads.writer) (g.K.Sink.stream c.advance.new.sink) ((cut b).rest ++ piece))
    c.reads.invariant.host (c.in-SinkFailed.ensures.answers c.reads.invariant.step trusted M (c.reads.invariant.desk.shows earlier M shown) (cut b).rest left.1) in (
      b ++ piece,
      (
        given_after _ _ _ b piece read c.in-Ok-take.ensures.given,
        inr (ended_in answer (condition g.L.Lookup.has_failed g.L.Lookup.is_closed c.reads.desk) (banner_octets c.args.host.now c.args.connection) (g.K.Sink.stream c.args.writer.now) greeted hello
            desk c.in-SinkFailed.ensures.desk.closed SinkFailed (g.K.Sink.stream c.reads.writer) (g.K.Sink.stream c.advance.new.sink) b piece few left.0 last.0),
      ),
    )

pub returns-in-DeskFailed-clause-answers : goal.returns-in-DeskFailed-clause-answers
returns-in-DeskFailed-clause-answers g c = λ trusted M shown.
    let earlier = c.in-DeskFailed.ensures.desk.trust trusted in
    let (b, read, turns, (greeted, hello, left)) = c.reads.invariant.left earlier M shown in
    let answer = answer_to M c.args.host.now in
    let desk = condition g.L.Lookup.has_failed g.L.Lookup.is_closed c.advance.new.desk in
    let piece = take c.in-Ok-take.n c.take.new.room in
    let few : length piece ≤ 4096 = omega (arith, c.take.auto.room, c.reads.invariant.space, c.in-Ok-take.ensures.count, length-take-le c.in-Ok-take.n c.take.new.room c.in-Ok-take.ensures.count) in
    let last = subst (λ (host : List ℕ). LeavesSession (answer_to M host) desk DeskFailed c.advance.new.self (g.K.Sink.stream c.reads.writer) (g.K.Sink.stream c.advance.new.sink) ((cut b).rest ++ piece))
    c.reads.invariant.host (c.in-DeskFailed.ensures.answers c.reads.invariant.step trusted M (c.reads.invariant.desk.shows earlier M shown) (cut b).rest left.1) in (
      b ++ piece,
      (
        given_after _ _ _ b piece read c.in-Ok-take.ensures.given,
        ended_in answer (condition g.L.Lookup.has_failed g.L.Lookup.is_closed c.reads.desk) (banner_octets c.args.host.now c.args.connection) (g.K.Sink.stream c.args.writer.now) greeted hello
            desk c.in-DeskFailed.ensures.desk.closed DeskFailed (g.K.Sink.stream c.reads.writer) (g.K.Sink.stream c.advance.new.sink) b piece few left.0 last.0,
      ),
    )

pub reads-init : goal.reads-init
reads-init g c =
    let hello = subst (λ (host : List ℕ). PutsAll (g.K.Sink.stream c.args.writer.now) (g.K.Sink.stream c.greet.new.sink) (banner_octets host c.args.connection)) c.in-Ok.ensures.host
    (subst (λ (n : ℕ). PutsAll (g.K.Sink.stream c.args.writer.now) (g.K.Sink.stream c.greet.new.sink) (banner_octets (session_host c.in-Ok.session) n)) c.in-Ok.ensures.connection
    (subst (λ (course : Course). PutsLine course (g.K.Sink.stream c.args.writer.now) (g.K.Sink.stream c.greet.new.sink) (banner_octets (session_host c.in-Ok.session) (connection_of c.in-Ok.session)))
    (more_of _ c.in-More.ensures.step) (c.in-More.ensures.greeting c.in-Ok.ensures.step))) in
    record {
      left = λ trusted M shown. ([], record { octets = Consumes-nil _; failures = refl }, omega arith, (g.K.Sink.stream c.greet.new.sink, hello, (([], (refl, refl), puts_none _), c.in-More.ensures.line [] c.in-Ok.ensures.line)));
      through = λ trusted M shown. (
        [],
        g.K.Sink.stream c.greet.new.sink,
        Consumes-nil _,
        hello,
        through_held (answer_to M c.args.host.now) (looks_up M) (condition g.L.Lookup.has_failed g.L.Lookup.is_closed c.args.desk.now) c.greet.new.self (g.K.Sink.stream c.greet.new.sink) [] (c.in-Ok.ensures.line).unfinished
            (c.in-More.ensures.line [] c.in-Ok.ensures.line),
      );
      desk = stays_same g.L.Lookup.shows g.L.Lookup.leaves_one_of g.L.Lookup.keeps_beside g.L.Lookup.is_trusted g.L.Lookup.is_closed c.args.desk.now;
      step = c.in-More.ensures.step;
      host = c.in-More.ensures.same.host ∙ c.in-Ok.ensures.host;
      space = omega arith;
    }

pub reads-preserved : goal.reads-preserved
reads-preserved g c =
    record {
      left = λ trusted M shown.
          (let earlier = c.in-More-advance.ensures.desk.trust trusted in
          let (b, read, turns, (greeted, hello, left)) = c.reads.invariant.left earlier M shown in
          let answer = answer_to M c.args.host.now in
          let desk = condition g.L.Lookup.has_failed g.L.Lookup.is_closed c.advance.new.desk in
          let piece = take c.in-Ok-take.n c.take.new.room in
          let few : length piece ≤ 4096 = omega (arith, c.take.auto.room, c.reads.invariant.space, c.in-Ok-take.ensures.count, length-take-le c.in-Ok-take.n c.take.new.room c.in-Ok-take.ensures.count) in
          let last = subst (λ (host : List ℕ). LeavesSession (answer_to M host) desk More c.advance.new.self (g.K.Sink.stream c.reads.writer) (g.K.Sink.stream c.advance.new.sink) ((cut b).rest ++ piece))
          c.reads.invariant.host (c.in-More-advance.ensures.answers c.reads.invariant.step trusted M (c.reads.invariant.desk.shows earlier M shown) (cut b).rest left.1) in (
            b ++ piece,
            given_after _ _ _ b piece read c.in-Ok-take.ensures.given,
            omega (arith, length-append b piece, length-take-le c.in-Ok-take.n c.take.new.room c.in-Ok-take.ensures.count),
            (
              greeted,
              hello,
              leaves_more answer (condition g.L.Lookup.has_failed g.L.Lookup.is_closed c.reads.desk) desk c.in-More-advance.ensures.desk.closed More c.reads.session c.advance.new.self greeted
                  (g.K.Sink.stream c.reads.writer) _ b piece left last,
            ),
          ));
      through = λ trusted M shown.
          (let earlier = c.in-More-advance.ensures.desk.trust trusted in
          let (b, greeted, read, hello, left) = c.reads.invariant.through earlier M shown in
          let piece = take c.in-Ok-take.n c.take.new.room in
          let desk = condition g.L.Lookup.has_failed g.L.Lookup.is_closed c.advance.new.desk in
          let last = subst (λ (host : List ℕ). LeavesThrough (answer_to M host) (looks_up M) (g.L.Lookup.is_closed c.reads.desk) desk More c.advance.new.self (g.K.Sink.stream c.reads.writer) (g.K.Sink.stream c.advance.new.sink)
          ((cut b).rest ++ piece))
          c.reads.invariant.host (c.in-More-advance.ensures.through c.reads.invariant.step trusted M (c.reads.invariant.desk.shows earlier M shown) (cut b).rest left.1) in (
            b ++ piece,
            greeted,
            Consumes-trans _ _ _ b piece read c.in-Ok-take.ensures.given.octets,
            hello,
            through_more (answer_to M c.args.host.now) (looks_up M) (g.L.Lookup.is_closed c.args.desk.now) (condition g.L.Lookup.has_failed g.L.Lookup.is_closed c.reads.desk) desk More c.reads.session c.advance.new.self greeted
                (g.K.Sink.stream c.reads.writer) _ b piece left last,
          ));
      desk = stays_after g.L.Lookup.shows g.L.Lookup.leaves_one_of g.L.Lookup.keeps_beside g.L.Lookup.is_trusted g.L.Lookup.is_closed _ _ _ c.reads.invariant.desk c.in-More-advance.ensures.desk;
      step = ap step_at c.in-More-advance.ensures.course;
      host = c.in-More-advance.ensures.same.host ∙ c.reads.invariant.host;
      space = c.take.auto.room ∙ c.reads.invariant.space;
    }

pub returns-clause-answers : goal.returns-clause-answers
returns-clause-answers g c = λ trusted M shown.
    let (b, read, turns, (greeted, hello, left)) = c.reads.invariant.left trusted M shown in
    let answer = answer_to M c.args.host.now in (
      b,
      (
        read.octets,
        inr (omega arith),
        answered answer (condition g.L.Lookup.has_failed g.L.Lookup.is_closed c.reads.desk) (banner_octets c.args.host.now c.args.connection) (g.K.Sink.stream c.args.writer.now) greeted hello
            (g.K.Sink.stream c.reads.writer) b left.0,
      ),
    )

pub returns-in-Quit-advance-clause-desk : goal.returns-in-Quit-advance-clause-desk
returns-in-Quit-advance-clause-desk g c = stays_after g.L.Lookup.shows g.L.Lookup.leaves_one_of g.L.Lookup.keeps_beside g.L.Lookup.is_trusted g.L.Lookup.is_closed _ _ _ c.reads.invariant.desk c.in-Quit-advance.ensures.desk

pub returns-in-SinkFailed-clause-desk : goal.returns-in-SinkFailed-clause-desk
returns-in-SinkFailed-clause-desk g c = stays_after g.L.Lookup.shows g.L.Lookup.leaves_one_of g.L.Lookup.keeps_beside g.L.Lookup.is_trusted g.L.Lookup.is_closed _ _ _ c.reads.invariant.desk c.in-SinkFailed.ensures.desk

pub returns-in-DeskFailed-clause-desk : goal.returns-in-DeskFailed-clause-desk
returns-in-DeskFailed-clause-desk g c = stays_after g.L.Lookup.shows g.L.Lookup.leaves_one_of g.L.Lookup.keeps_beside g.L.Lookup.is_trusted g.L.Lookup.is_closed _ _ _ c.reads.invariant.desk c.in-DeskFailed.ensures.desk

pub returns-in-Err-clause-through : goal.returns-in-Err-clause-through
returns-in-Err-clause-through g c = λ trusted M shown.
    let (b, greeted, read, hello, left) = c.reads.invariant.through trusted M shown in
    inl (b, greeted, Consumes-kept _ _ _ _ read c.in-Err.ensures.given.octets, hello, left.0)

pub returns-in-Ok-eq0-clause-through : goal.returns-in-Ok-eq0-clause-through
returns-in-Ok-eq0-clause-through g c = λ trusted M shown.
    let (b, greeted, read, hello, left) = c.reads.invariant.through trusted M shown in
    let none : b ++ take c.in-Ok-eq0.field-0 c.take.new.room ≡ b = rw c.in-Ok-eq0.field-0-test (append-nil b) in
    inl (b, greeted, subst (Consumes _ _) none (Consumes-trans _ _ _ b (take c.in-Ok-eq0.field-0 c.take.new.room) read c.in-Ok-eq0.ensures.given.octets), hello, left.0)

pub returns-in-Quit-advance-clause-through : goal.returns-in-Quit-advance-clause-through
returns-in-Quit-advance-clause-through g c = λ trusted M shown.
    let earlier = c.in-Quit-advance.ensures.desk.trust trusted in
    let (b, greeted, read, hello, left) = c.reads.invariant.through earlier M shown in
    let piece = take c.in-Ok-take.n c.take.new.room in
    let desk = condition g.L.Lookup.has_failed g.L.Lookup.is_closed c.advance.new.desk in
    let last = subst (λ (host : List ℕ). LeavesThrough (answer_to M host) (looks_up M) (g.L.Lookup.is_closed c.reads.desk) desk Quit c.advance.new.self (g.K.Sink.stream c.reads.writer) (g.K.Sink.stream c.advance.new.sink)
    ((cut b).rest ++ piece))
    c.reads.invariant.host (c.in-Quit-advance.ensures.through c.reads.invariant.step trusted M (c.reads.invariant.desk.shows earlier M shown) (cut b).rest left.1) in
    inl (
      b ++ piece,
      greeted,
      Consumes-trans _ _ _ b piece read c.in-Ok-take.ensures.given.octets,
      hello,
      (through_more (answer_to M c.args.host.now) (looks_up M) (g.L.Lookup.is_closed c.args.desk.now) (condition g.L.Lookup.has_failed g.L.Lookup.is_closed c.reads.desk) desk Quit c.reads.session c.advance.new.self greeted
          (g.K.Sink.stream c.reads.writer) _ b piece left last).0,
    )

pub returns-in-SinkFailed-clause-through : goal.returns-in-SinkFailed-clause-through
returns-in-SinkFailed-clause-through g c = λ trusted M shown.
    let earlier = c.in-SinkFailed.ensures.desk.trust trusted in
    let (b, greeted, read, hello, left) = c.reads.invariant.through earlier M shown in
    let piece = take c.in-Ok-take.n c.take.new.room in
    let desk = condition g.L.Lookup.has_failed g.L.Lookup.is_closed c.advance.new.desk in
    let last = subst (λ (host : List ℕ). LeavesThrough (answer_to M host) (looks_up M) (g.L.Lookup.is_closed c.reads.desk) desk SinkFailed c.advance.new.self (g.K.Sink.stream c.reads.writer) (g.K.Sink.stream c.advance.new.sink)
    ((cut b).rest ++ piece))
    c.reads.invariant.host (c.in-SinkFailed.ensures.through c.reads.invariant.step trusted M (c.reads.invariant.desk.shows earlier M shown) (cut b).rest left.1) in
    inl (
      b ++ piece,
      greeted,
      Consumes-trans _ _ _ b piece read c.in-Ok-take.ensures.given.octets,
      hello,
      (through_more (answer_to M c.args.host.now) (looks_up M) (g.L.Lookup.is_closed c.args.desk.now) (condition g.L.Lookup.has_failed g.L.Lookup.is_closed c.reads.desk) desk SinkFailed c.reads.session c.advance.new.self greeted
          (g.K.Sink.stream c.reads.writer) _ b piece left last).0,
    )

pub returns-in-DeskFailed-clause-through : goal.returns-in-DeskFailed-clause-through
returns-in-DeskFailed-clause-through g c = λ trusted M shown.
    let earlier = c.in-DeskFailed.ensures.desk.trust trusted in
    let (b, greeted, read, hello, left) = c.reads.invariant.through earlier M shown in
    let piece = take c.in-Ok-take.n c.take.new.room in
    let desk = condition g.L.Lookup.has_failed g.L.Lookup.is_closed c.advance.new.desk in
    let last = subst (λ (host : List ℕ). LeavesThrough (answer_to M host) (looks_up M) (g.L.Lookup.is_closed c.reads.desk) desk DeskFailed c.advance.new.self (g.K.Sink.stream c.reads.writer) (g.K.Sink.stream c.advance.new.sink)
    ((cut b).rest ++ piece))
    c.reads.invariant.host (c.in-DeskFailed.ensures.through c.reads.invariant.step trusted M (c.reads.invariant.desk.shows earlier M shown) (cut b).rest left.1) in
    inl (
      b ++ piece,
      greeted,
      Consumes-trans _ _ _ b piece read c.in-Ok-take.ensures.given.octets,
      hello,
      (through_more (answer_to M c.args.host.now) (looks_up M) (g.L.Lookup.is_closed c.args.desk.now) (condition g.L.Lookup.has_failed g.L.Lookup.is_closed c.reads.desk) desk DeskFailed c.reads.session c.advance.new.self greeted
          (g.K.Sink.stream c.reads.writer) _ b piece left last).0,
    )

pub returns-clause-through : goal.returns-clause-through
returns-clause-through g c = λ trusted M shown.
    let (b, greeted, read, hello, left) = c.reads.invariant.through trusted M shown in
    inl (b, greeted, read, hello, left.0)

-- a greeting that ended the session was broken off by the writer
greeting_front : (course : Course) (a b : Stream) (bs : List ℕ) → (step_at course ≡ steps.Quit) ⊎ (step_at course ≡ steps.Broken) → PutsLine course a b bs → PutsFront a b bs
greeting_front More a b bs (inl e) put = cc
greeting_front More a b bs (inr e) put = cc
greeting_front Quit a b bs e put = absurd put
greeting_front SinkFailed a b bs e put = put
greeting_front DeskFailed a b bs e put = absurd put

step_was : (a b : Step) → a ≡ b → (b ≡ steps.Quit) ⊎ (b ≡ steps.Broken) → (a ≡ steps.Quit) ⊎ (a ≡ steps.Broken)
step_was a b same (inl e) = inl (same ∙ e)
step_was a b same (inr e) = inr (same ∙ e)

pub returns-in-Quit : goal.returns-in-Quit
returns-in-Quit g c =
    let old = g.K.Sink.stream c.args.writer.now in
    let new = g.K.Sink.stream c.greet.new.sink in
    let front = greeting_front (course_of c.greet.new.self) old new (banner_octets c.args.host.now c.args.connection)
    (step_was _ _ c.greet.ensures.step c.in-Quit.is)
    (subst (λ (host : List ℕ). PutsLine (course_of c.greet.new.self) old new (banner_octets host c.args.connection)) c.in-Ok.ensures.host
    (subst (λ (n : ℕ). PutsLine (course_of c.greet.new.self) old new (banner_octets (session_host c.in-Ok.session) n)) c.in-Ok.ensures.connection (c.greet.ensures.greeting c.in-Ok.ensures.step))) in
    record {
      answers = λ trusted M shown. ([], (record { octets = Consumes-nil _; failures = refl }, inl (refl, front)));
      desk = stays_same g.L.Lookup.shows g.L.Lookup.leaves_one_of g.L.Lookup.keeps_beside g.L.Lookup.is_trusted g.L.Lookup.is_closed c.args.desk.now;
      through = λ trusted M shown. inr (inl (refl, front));
      memory = λ is. cc;
    }
