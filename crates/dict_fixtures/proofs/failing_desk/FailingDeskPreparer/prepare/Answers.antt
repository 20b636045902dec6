use Rattle.std.specs.Prelude.{Ok, Err}
use Rattle.dict_fixtures.proofs.TurnLemmas.{has_failed_then}
use Rattle.dict_fixtures.proofs.failing_desk.FailingDeskPreparer.prepare.Goals as goal

pub returns-in-Ok-clause-keeps : goal.returns-in-Ok-clause-keeps
returns-in-Ok-clause-keeps c = record {
  trust = λ trusted. tt;
  beside = λ beside kept. kept;
  shows = λ trusted M shown. shown;
  leaves = λ ms left. left;
  kinds = tt;
  caused = λ trusted. tt;
  failed = has_failed_then c.args.self.now.has_failed c.args.self.now.is_closed c.turn.new.self.has_failed c.turn.new.self.is_closed (Ok tt) tt c.in-Ok.ensures.same tt c.in-Ok.ensures.closes;
  closes = c.in-Ok.ensures.closes;
  closed = (λ is. cc, λ shut. let e = c.in-Ok.ensures.closed.1 shut in cc);
}

pub returns-in-Err-clause-keeps : goal.returns-in-Err-clause-keeps
returns-in-Err-clause-keeps c = record {
  trust = λ trusted. tt;
  beside = λ beside kept. kept;
  shows = λ trusted M shown. shown;
  leaves = λ ms left. left;
  kinds = c.in-Err.ensures.kinds;
  caused = λ trusted. c.in-Err.ensures.by_disk;
  failed = has_failed_then c.args.self.now.has_failed c.args.self.now.is_closed c.turn.new.self.has_failed c.turn.new.self.is_closed (Err c.in-Err.fault) c.in-Err.ensures.kinds tt c.in-Err.ensures.failed c.in-Err.ensures.closes;
  closes = c.in-Err.ensures.closes;
  closed = (λ is. c.in-Err.ensures.closed.0 (let e = is in cc), λ shut. let e = c.in-Err.ensures.closed.1 shut in cc);
}
