use Rattle.std.proofs.Common.{◌≡◌, ℕ, ◌≤◌, List, length}
use Rattle.dict_proto.specs.Streams.{Stream, PutsAll, GivesAll}
use Rattle.dict_catalogue.specs.Steps.{Catalogue}
use Rattle.dict_proto.specs.Replies.{banner_octets}
use Rattle.dict_session.specs.Answers.{answer_to}
use Rattle.std.specs.Io.KnownBytes.{Consumes}
use Rattle.dict_session.specs.Desks.{condition, Stays}
use Rattle.dict_session.specs.Through.{LeavesThrough, looks_up}
use Rattle.dict_session.specs.Session.{LeavesSession, step_of, session_host}
use Rattle.dict_session.specs.declared.step.Step.TheVariants.{More}
use Rattle.dict_session.specs.declared.step.Course.TheVariants as courses
use Rattle.dict_session.proofs.session.run.run.Given as goal

abbrev pub invariant-reads : goal.invariant-reads
invariant-reads g l = record {
  left : g.L.Lookup.is_trusted l.desk → (M : Catalogue) → g.L.Lookup.shows l.fn.desk M → (b : List ℕ) × GivesAll (g.S.Source.stream l.fn.reader) (g.S.Source.stream l.reader) b × (l._turn ≤ length b)
      × ((greeted : Stream) × PutsAll (g.K.Sink.stream l.fn.writer) greeted (banner_octets l.host l.connection)
      × LeavesSession (answer_to M l.host) (condition g.L.Lookup.has_failed g.L.Lookup.is_closed l.desk) courses.More l.session greeted (g.K.Sink.stream l.writer) b);
  through : g.L.Lookup.is_trusted l.desk → (M : Catalogue) → g.L.Lookup.shows l.fn.desk M → (b : List ℕ) × (greeted : Stream)
      × Consumes (g.S.Source.stream l.fn.reader).octets (g.S.Source.stream l.reader).octets b × PutsAll (g.K.Sink.stream l.fn.writer) greeted (banner_octets l.host l.connection)
      × LeavesThrough (answer_to M l.host) (looks_up M) (g.L.Lookup.is_closed l.fn.desk) (condition g.L.Lookup.has_failed g.L.Lookup.is_closed l.desk) courses.More l.session greeted (g.K.Sink.stream l.writer) b;
  desk : Stays g.L.Lookup.shows g.L.Lookup.leaves_one_of g.L.Lookup.keeps_beside g.L.Lookup.is_trusted g.L.Lookup.is_closed l.fn.desk l.desk;
  step : step_of l.session ≡ More;
  host : session_host l.session ≡ l.host;
  space : length l.room ≡ 4096;
}
