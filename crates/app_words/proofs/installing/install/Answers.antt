use Rattle.std.proofs.Common.{◌≡◌, Err, refl, ap, inl, inr}
use Rattle.std.proofs.lemmas.Result.{IfErr-at_err}
use Rattle.app_words.specs.Installing.{InstallEnds}
use Rattle.app_words.proofs.installing.install.Goals as goal

pub returns-in-Ok-Some-clause-installed : goal.returns-in-Ok-Some-clause-installed
unfolding InstallEnds
returns-in-Ok-Some-clause-installed g c = inl (record {
  reply = c.in-Ok-Some.kept;
  kept = rw c.in-Ok-Some.field-0-is at c.in-Ok-Some.ensures.value;
  answers = g.met.K.Lookup.still_open _ c.in-Ok-Some.ensures.keeps.failed;
  stays = record {
    trust = c.in-Ok-Some.ensures.keeps.trust;
    shows = c.in-Ok-Some.ensures.keeps.shows;
    leaves = c.in-Ok-Some.ensures.keeps.leaves;
    beside = c.in-Ok-Some.ensures.keeps.beside;
    closed = λ is. search (is, c.in-Ok-Some.ensures.keeps.closes);
  };
  line = c.tell_kept.ensures;
})

pub returns-in-Ok-None-clause-installed : goal.returns-in-Ok-None-clause-installed
unfolding InstallEnds
returns-in-Ok-None-clause-installed g c = inr (inr (
  c.kept.new.self,
  record {
    none = rw c.in-Ok-None.field-0-is at c.in-Ok-None.ensures.value;
    answers = g.met.K.Lookup.still_open _ c.in-Ok-None.ensures.keeps.failed;
    stays = record {
      trust = c.in-Ok-None.ensures.keeps.trust;
      shows = c.in-Ok-None.ensures.keeps.shows;
      leaves = c.in-Ok-None.ensures.keeps.leaves;
      beside = c.in-Ok-None.ensures.keeps.beside;
      closed = λ is. search (is, c.in-Ok-None.ensures.keeps.closes);
    };
  },
  c.install_files.ensures.installed,
))

pub returns-in-Err-clause-installed : goal.returns-in-Err-clause-installed
unfolding InstallEnds
returns-in-Err-clause-installed g c = inr (inl (record {
  fault = c.in-Err.fault;
  kind = c.in-Err.ensures.keeps.kinds;
  caused = c.in-Err.ensures.keeps.caused;
  closed = (λ is. c.in-Err.ensures.keeps.closed.0 (ap Err is), λ is. IfErr-at_err (λ fault. c.in-Err.fault ≡ fault) (c.in-Err.ensures.keeps.closed.1 is) refl);
  told = ap Err c.from.ensures;
  stays = record {
    trust = c.in-Err.ensures.keeps.trust;
    shows = c.in-Err.ensures.keeps.shows;
    leaves = c.in-Err.ensures.keeps.leaves;
    beside = c.in-Err.ensures.keeps.beside;
    closed = λ is. search (is, c.in-Err.ensures.keeps.closes);
  };
  untouched = refl;
}))
