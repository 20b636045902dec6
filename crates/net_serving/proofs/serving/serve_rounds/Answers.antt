use Rattle.std.proofs.Common.{◌≡◌, ◌∙◌, ◌-◌, ℕ, [], ◌++◌, ◌∷◌, inl, inr, refl, subst, arith}
use Rattle.std.proofs.lemmas.Result.{err_from_is_err_and}
use Rattle.std.specs.Prelude.{None}
use Rattle.std.specs.Duration.{as_nanos}
use Rattle.net_serving.specs.Serving.{IsNotReopened, IsOpenBehind, Stretch}
use Rattle.net_serving.specs.Deeds.{WasShut}
use Rattle.net_serving.proofs.DeedLemmas.{gone_first, gone_more, turned}
use Rattle.net_serving.proofs.StretchLemmas.{ends_more, first_goes, goes_more, open_more, served_more, where_left}
use Rattle.net_serving.proofs.serving.serve_rounds.Goals as goal

pub loop-pending-init : goal.loop-pending-init
loop-pending-init g c =
    record { served = ([], refl, tt, (λ some. (refl, refl)), gone_first c.args.path.now c.args.desk c.args.rounds (g.D.DeskOpener.history c.args.desks.now), refl); opened = λ some. c.requires; stands = inl c.requires; made = λ few. refl }

pub returns-in_err-pending-clause-served : goal.returns-in_err-pending-clause-served
returns-in_err-pending-clause-served g c =
    let held = c.loop-pending.invariant.served in
    let goes = held.3 c.loop-pending-test.true in
    let over = c.in_err-pending.ensures.served in
    let one : Stretch _ = record {
      opened = c.loop-pending.pending.desk;
      left = over.0;
      asked = c.loop-pending.pending.left;
      rounds = c.serve_stretch.new.driver.event_loop.rounds - c.loop-pending.driver.event_loop.rounds;
      ended =
          over.1;
    } in
    let error = err_from_is_err_and c.from_residual.result c.from_residual.ensures.1 in (
      held.0 ++ one ∷ [],
      served_more g.K.Lookup.shows g.K.Lookup.leaves_one_of g.K.Lookup.keeps_beside g.K.Lookup.is_trusted g.D.DeskOpener.is_opened g.K.Lookup.is_closed g.K.Lookup.has_failed g.K.Preparer.expects g.K.Preparer.prepares
          (as_nanos c.args.wait) c.args.rounds c.args.desk held.0 one c.args.driver.now c.loop-pending.driver c.serve_stretch.new.driver held.1 goes over.2,
      first_goes g.K.Lookup.shows g.K.Lookup.leaves_one_of g.K.Lookup.keeps_beside g.K.Lookup.is_trusted g.D.DeskOpener.is_opened g.K.Lookup.is_closed c.args.rounds c.args.desk held.0 one held.2 goes,
      rw (error.1, error.2) (ends_more g.K.Lookup.shows g.K.Lookup.leaves_one_of g.K.Lookup.keeps_beside g.K.Lookup.is_trusted g.D.DeskOpener.is_opened g.K.Lookup.is_closed
          (WasShut g.K.Lookup.shows g.K.Lookup.leaves_one_of g.K.Lookup.is_trusted g.D.DeskOpener.is_safe g.D.DeskOpener.holds_alone g.D.DeskOpener.still_leaves g.D.DeskOpener.still_keeps g.D.DeskOpener.is_uncopied
          c.serve_stretch.new.desks)
          (IsNotReopened g.K.Lookup.leaves_one_of g.D.DeskOpener.is_unreopened g.D.DeskOpener.still_leaves g.D.DeskOpener.still_keeps c.serve_stretch.new.desks c.args.path.now) held.0 one
          c.serve_stretch.new.driver _ over.3),
      rw error.1 (turned c.args.path.now c.args.desk held.0 one c.loop-pending.pending.left c.loop-pending-test.true (g.D.DeskOpener.history c.args.desks.now) (g.D.DeskOpener.history c.loop-pending.desks)
          (g.D.DeskOpener.history c.serve_stretch.new.desks) held.4 None over.5),
      rw error.1 tt,
    )

pub loop-pending-preserved : goal.loop-pending-preserved
loop-pending-preserved g c =
    let held = c.loop-pending.invariant.served in
    let goes = held.3 c.loop-pending-test.true in
    let over = c.in_ok-pending.ensures.served in
    let one : Stretch _ = record {
      opened = c.loop-pending.pending.desk;
      left = over.0;
      asked = c.loop-pending.pending.left;
      rounds = c.serve_stretch.new.driver.event_loop.rounds - c.loop-pending.driver.event_loop.rounds;
      ended =
          over.1;
    } in
    record {
      served = (
        held.0 ++ one ∷ [],
        served_more g.K.Lookup.shows g.K.Lookup.leaves_one_of g.K.Lookup.keeps_beside g.K.Lookup.is_trusted g.D.DeskOpener.is_opened g.K.Lookup.is_closed g.K.Lookup.has_failed g.K.Preparer.expects g.K.Preparer.prepares
            (as_nanos c.args.wait) c.args.rounds c.args.desk held.0 one c.args.driver.now c.loop-pending.driver c.serve_stretch.new.driver held.1 goes over.2,
        first_goes g.K.Lookup.shows g.K.Lookup.leaves_one_of g.K.Lookup.keeps_beside g.K.Lookup.is_trusted g.D.DeskOpener.is_opened g.K.Lookup.is_closed c.args.rounds c.args.desk held.0 one held.2 goes,
        λ some. (let gave = where_left c.in_ok-pending.pending.left over.4 some in
            goes_more g.K.Lookup.shows g.K.Lookup.leaves_one_of g.K.Lookup.keeps_beside g.K.Lookup.is_trusted g.D.DeskOpener.is_opened g.K.Lookup.is_closed c.args.rounds c.args.desk held.0 one c.in_ok-pending.pending.desk
            c.in_ok-pending.pending.left
            gave.0 gave.1 gave.2 gave.3),
        gone_more c.args.path.now c.args.desk held.0 one c.loop-pending.pending.left c.loop-pending-test.true (g.D.DeskOpener.history c.args.desks.now) (g.D.DeskOpener.history c.loop-pending.desks)
            (g.D.DeskOpener.history c.serve_stretch.new.desks) held.4 c.in_ok-pending.pending.desk c.in_ok-pending.pending.left over.5 (λ some. (where_left c.in_ok-pending.pending.left over.4 some).4),
        open_more g.K.Lookup.shows g.K.Lookup.leaves_one_of g.K.Lookup.keeps_beside g.K.Lookup.is_trusted g.D.DeskOpener.is_opened g.K.Lookup.is_closed c.args.desk held.0 one c.in_ok-pending.pending.desk
            c.in_ok-pending.pending.left (elim over.4 [
              | inl is ↦ inl (is.0, is.1)
              | inr gave ↦ inr (gave.0, gave.1, gave.2, gave.3)
            ]),
      );
      opened = c.in_ok-pending.ensures.opened;
      stands = c.in_ok-pending.ensures.stands;
      made = λ few. (let before = c.loop-pending.invariant.made few in c.in_ok-pending.ensures.made (omega (arith, before)) ∙ before);
    }

pub returns-clause-served : goal.returns-clause-served
returns-clause-served g c =
    let held = c.loop-pending.invariant.served in
    let none : c.loop-pending.pending.left ≡ 0 = omega (arith, c.loop-pending-test.false) in (
      held.0,
      held.1,
      held.2,
      tt,
      (held.4.0, held.4.2, held.4.1),
      subst (λ (n : ℕ). IsOpenBehind g.K.Lookup.shows g.K.Lookup.leaves_one_of g.K.Lookup.keeps_beside g.K.Lookup.is_trusted g.D.DeskOpener.is_opened g.K.Lookup.is_closed c.args.desk held.0 c.loop-pending.pending.desk n) none held.5,
    )
