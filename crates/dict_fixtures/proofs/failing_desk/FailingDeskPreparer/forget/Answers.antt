use Rattle.dict_fixtures.proofs.TurnLemmas.{has_failed_then}
use Rattle.dict_fixtures.proofs.failing_desk.FailingDeskPreparer.forget.Goals as goal

pub returns-clause-keeps : goal.returns-clause-keeps
returns-clause-keeps c = record {
  trust = λ trusted. tt;
  beside = λ beside kept. kept;
  shows = λ trusted M shown. shown;
  leaves = λ ms left. left;
  kinds = c.turn.ensures.kinds;
  caused = λ trusted. c.turn.ensures.by_disk;
  failed =
      has_failed_then c.args.self.now.has_failed c.args.self.now.is_closed c.turn.new.self.has_failed c.turn.new.self.is_closed c.turn.result c.turn.ensures.kinds c.turn.ensures.same c.turn.ensures.failed c.turn.ensures.closes;
  closes = c.turn.ensures.closes;
  closed = c.turn.ensures.closed;
}
