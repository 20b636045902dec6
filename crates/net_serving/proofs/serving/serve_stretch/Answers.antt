use Rattle.std.proofs.Common.{[], ◌∷◌, inl, inr, refl, ap, subst, arith}
use Rattle.std.proofs.lemmas.Result.{err_from_is_err_and}
use Rattle.std.specs.Prelude.{None, Ok, Err}
use Rattle.std.specs.Duration.{as_nanos}
use Rattle.std.specs.declared.io.Error.{Error}
use Rattle.net_driver.specs.Serving.{IsClosedBy}
use Rattle.net_driver.specs.declared.serving.RoundsEnd.{RoundsEnd}
use Rattle.net_serving.specs.Deeds.{Closes, Reopens}
use Rattle.net_serving.proofs.DeedLemmas.{does_none}
use Rattle.net_serving.proofs.serving.serve_stretch.Goals as goal

pub returns-in-Ok-Whole-clause-served : goal.returns-in-Ok-Whole-clause-served
returns-in-Ok-Whole-clause-served g c =
    let it = c.in-Ok-Whole.ensures in
    let closed = subst (λ (end : RoundsEnd). IsClosedBy {E = Error} (g.K.Lookup.is_closed c.serve.new.desk) c.args.pending.left (Ok end)) c.in-Ok-Whole.field-0-is it.closed in (
      c.serve.new.desk,
      Ok c.in-Ok-Whole.field-0,
      record {
        opened = c.requires.opened;
        led = it.led;
        by_rounds = (as_nanos c.args.wait, it.by_rounds.0, it.by_rounds.1);
        waits = refl;
        trust = it.trust;
        beside = it.beside;
        made = omega (arith, it.grown);
      },
      tt,
      inl (refl, closed c.requires.some, refl),
      inl ([], inl (refl, refl), does_none (g.D.DeskOpener.history c.args.desks.now)),
    )

pub returns-in_ok-desk-in-Ok-Closed-clause-served : goal.returns-in_ok-desk-in-Ok-Closed-clause-served
returns-in_ok-desk-in-Ok-Closed-clause-served g c =
    let it = c.in-Ok-Closed.ensures in
    let closed = subst (λ (end : RoundsEnd). IsClosedBy {E = Error} (g.K.Lookup.is_closed c.serve.new.desk) c.args.pending.left (Ok end)) c.in-Ok-Closed.field-0-is it.closed in
    let again = c.in_ok-desk-in-Ok-Closed.ensures in (
      c.serve.new.desk,
      Ok c.in-Ok-Closed.field-0,
      record {
        opened = c.requires.opened;
        led = it.led;
        by_rounds = (as_nanos c.args.wait, it.by_rounds.0, it.by_rounds.1);
        waits = refl;
        trust = it.trust;
        beside = it.beside;
        made = omega (arith, it.grown);
      },
      tt,
      inr (closed.0, again.follows, again.opened.opened, ap Ok c.in-Ok-Closed.field-0-is, again.history),
      inr (c.in_ok-desk-in-Ok-Closed.desk, refl, again.history),
    )

pub returns-in_err-desk-in-Ok-Closed-clause-served : goal.returns-in_err-desk-in-Ok-Closed-clause-served
returns-in_err-desk-in-Ok-Closed-clause-served g c =
    let it = c.in-Ok-Closed.ensures in
    let closed = subst (λ (end : RoundsEnd). IsClosedBy {E = Error} (g.K.Lookup.is_closed c.serve.new.desk) c.args.pending.left (Ok end)) c.in-Ok-Closed.field-0-is it.closed in
    let again = c.in_err-desk-in-Ok-Closed.ensures in
    let error = err_from_is_err_and c.from_residual.result c.from_residual.ensures.1 in (
      c.serve.new.desk,
      Ok c.in-Ok-Closed.field-0,
      record {
        opened = c.requires.opened;
        led = it.led;
        by_rounds = (as_nanos c.args.wait, it.by_rounds.0, it.by_rounds.1);
        waits = refl;
        trust = it.trust;
        beside = it.beside;
        made = omega (arith, it.grown);
      },
      rw (error.1, error.2) (inr (closed.0, (record { why = again.opened.0; leaves = again.leaves; beside = again.beside }, again.opened.1))),
      rw error.1 tt,
      rw error.1 (inl (Reopens c.args.path.now c.serve.new.desk None ∷ [], inr (inr (refl, refl)), again.history)),
    )

pub returns-in-Err-clause-served : goal.returns-in-Err-clause-served
returns-in-Err-clause-served g c =
    let it = c.in-Err.ensures in (
      c.serve.new.desk,
      Err c.in-Err.error,
      record {
        opened = c.requires.opened;
        led = it.led;
        by_rounds = (as_nanos c.args.wait, it.by_rounds.0, it.by_rounds.1);
        waits = refl;
        trust = it.trust;
        beside = it.beside;
        made = omega (arith, it.grown);
      },
      inl ((_, it.failure, c.waiting_fault.ensures), (c.close.result, c.close.ensures.shut)),
      tt,
      inl (Closes c.serve.new.desk ∷ [], inr (inl (refl, refl)), c.close.ensures.history),
    )
