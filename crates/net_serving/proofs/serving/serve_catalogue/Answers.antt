use Rattle.std.proofs.Common.{◌≡◌, ◌≤◌, inl, inr, refl, subst, arith}
use Rattle.std.specs.Prelude.{None, Some, Ok, Err}
use Rattle.net_driver.specs.Serving.{rounds_of}
use Rattle.std.proofs.lemmas.Result.{err_from_is_err_and}
use Rattle.net_serving.specs.Deeds.{WasShut}
use Rattle.net_serving.specs.Serving.{AreServed, IsFirstStretch, IsOpenBehind}
use Rattle.net_serving.proofs.DeedLemmas.{does_both, does_none, was_done}
use Rattle.net_serving.proofs.StretchLemmas.{was_opened}
use Rattle.net_serving.proofs.serving.serve_catalogue.Goals as goal

pub returns-in_err-desk : goal.returns-in_err-desk
returns-in_err-desk g c =
    let error = err_from_is_err_and c.from_residual.result c.from_residual.ensures.1 in
    inl (error.0, error.1, rw error.2 c.in_err-desk.ensures.opened, refl, c.in_err-desk.ensures.history, refl)

pub returns-in-Err : goal.returns-in-Err
returns-in-Err g c = inr (
  c.in_ok-desk.desk,
  c.in_ok-desk.ensures.opened,
  inl (
    c.in-Err.fault,
    refl,
    c.in-Err.ensures.begins,
    does_both (g.D.DeskOpener.history c.args.desks.now) (g.D.DeskOpener.history c.open.new.self) (g.D.DeskOpener.history c.close.new.self) _ _ c.in_ok-desk.ensures.history c.close.ensures.history,
    (c.close.result, c.close.ensures.shut),
    refl,
  ),
)

pub returns-in_err-desk-2 : goal.returns-in_err-desk-2
returns-in_err-desk-2 g c =
    let error = err_from_is_err_and c.from_residual-in_err-desk-2.result c.from_residual-in_err-desk-2.ensures.1 in
    let served = c.in_err-desk-2.ensures.served in
    let told = c.in-Ok.ensures.begins in
    let none : c.in-Ok.driver.event_loop.rounds ≡ 0 = c.in-Ok.ensures.rounds in
    let asked : c.pace-rounds.result.0 ≡ rounds_of c.args.wanted.now.rounds = c.pace-rounds.ensures.count in
    let made : c.serve_rounds-served.new.driver.event_loop.rounds ≤ rounds_of c.args.wanted.now.rounds =
    let some = c.in_err-desk-2.ensures.made (omega (arith, none)) in
    omega (arith, none, asked, some) in
    rw (error.1, error.2) (inr (
      c.in_ok-desk.desk,
      c.in_ok-desk.ensures.opened,
      inr (
        record {
          first = c.in-Ok.driver;
          last = c.serve_rounds-served.new.driver;
          readers = (told.0.2.0, told.0.2.1);
          editors = (told.0.3.0, told.0.3.1);
          bound = c.in-Ok.ensures.bound;
          told = told.1;
          begins = c.in-Ok.ensures.beginning;
          no_id = c.in-Ok.ensures.last;
          no_round = c.in-Ok.ensures.rounds;
          no_failure = c.in-Ok.ensures.failure;
          stretches = served.0;
          over = subst (λ n. IsFirstStretch n c.in_ok-desk.desk served.0) asked served.2;
          served = subst (λ n. AreServed g.K.Lookup.shows g.K.Lookup.leaves_one_of g.K.Lookup.keeps_beside g.K.Lookup.is_trusted g.D.DeskOpener.is_opened g.K.Lookup.has_failed g.K.Lookup.is_closed g.K.Preparer.expects
              g.K.Preparer.prepares n served.0 c.in-Ok.driver c.serve_rounds-served.new.driver) c.pace-rounds.ensures.wait served.1;
          made = made;
          ends = served.3;
        },
        was_done {A = Unit {0}} (λ last. IsOpenBehind g.K.Lookup.shows g.K.Lookup.leaves_one_of g.K.Lookup.keeps_beside g.K.Lookup.is_trusted g.D.DeskOpener.is_opened g.K.Lookup.is_closed c.in_ok-desk.desk served.0 last 0)
            (WasShut g.K.Lookup.shows g.K.Lookup.leaves_one_of g.K.Lookup.is_trusted g.D.DeskOpener.is_safe g.D.DeskOpener.holds_alone g.D.DeskOpener.still_leaves g.D.DeskOpener.still_keeps g.D.DeskOpener.is_uncopied
            c.serve_rounds-served.new.desks)
            (Err error.0) c.args.path.now c.in_ok-desk.desk served.0 None (g.D.DeskOpener.history c.args.desks.now) (g.D.DeskOpener.history c.open.new.self) (g.D.DeskOpener.history c.serve_rounds-served.new.desks)
            (g.D.DeskOpener.history c.serve_rounds-served.new.desks) c.in_ok-desk.ensures.history served.4 (does_none _) refl,
        refl,
        told,
      ),
    ))

pub returns : goal.returns
returns g c =
    let served = c.in_ok-desk-2.ensures.served in
    let told = c.in-Ok.ensures.begins in
    let none : c.in-Ok.driver.event_loop.rounds ≡ 0 = c.in-Ok.ensures.rounds in
    let asked : c.pace-rounds.result.0 ≡ rounds_of c.args.wanted.now.rounds = c.pace-rounds.ensures.count in
    let made : c.serve_rounds-served.new.driver.event_loop.rounds ≡ rounds_of c.args.wanted.now.rounds =
    let all = c.in_ok-desk-2.ensures.made (omega (arith, none)) in
    omega (arith, none, asked, all) in
    inr (
      c.in_ok-desk.desk,
      c.in_ok-desk.ensures.opened,
      inr (
        record {
          first = c.in-Ok.driver;
          last = c.serve_rounds-served.new.driver;
          readers = (told.0.2.0, told.0.2.1);
          editors = (told.0.3.0, told.0.3.1);
          bound = c.in-Ok.ensures.bound;
          told = told.1;
          begins = c.in-Ok.ensures.beginning;
          no_id = c.in-Ok.ensures.last;
          no_round = c.in-Ok.ensures.rounds;
          no_failure = c.in-Ok.ensures.failure;
          stretches = served.0;
          over = subst (λ n. IsFirstStretch n c.in_ok-desk.desk served.0) asked served.2;
          served = subst (λ n. AreServed g.K.Lookup.shows g.K.Lookup.leaves_one_of g.K.Lookup.keeps_beside g.K.Lookup.is_trusted g.D.DeskOpener.is_opened g.K.Lookup.has_failed g.K.Lookup.is_closed g.K.Preparer.expects
              g.K.Preparer.prepares n served.0 c.in-Ok.driver c.serve_rounds-served.new.driver) c.pace-rounds.ensures.wait served.1;
          made = made;
          ends = tt;
        },
        was_done {A = Unit {0}} (λ last. IsOpenBehind g.K.Lookup.shows g.K.Lookup.leaves_one_of g.K.Lookup.keeps_beside g.K.Lookup.is_trusted g.D.DeskOpener.is_opened g.K.Lookup.is_closed c.in_ok-desk.desk served.0 last 0)
            (WasShut g.K.Lookup.shows g.K.Lookup.leaves_one_of g.K.Lookup.is_trusted g.D.DeskOpener.is_safe g.D.DeskOpener.holds_alone g.D.DeskOpener.still_leaves g.D.DeskOpener.still_keeps g.D.DeskOpener.is_uncopied
            c.close-2.new.self) (Ok tt) c.args.path.now
            c.in_ok-desk.desk served.0 (Some c.in_ok-desk-2.desk) (g.D.DeskOpener.history c.args.desks.now) (g.D.DeskOpener.history c.open.new.self)
            (g.D.DeskOpener.history c.serve_rounds-served.new.desks) (g.D.DeskOpener.history c.close-2.new.self) c.in_ok-desk.ensures.history served.4 c.close-2.ensures.history (served.5, (c.close-2.result, c.close-2.ensures.shut)),
        refl,
        told,
      ),
    )

pub serve_rounds-served-requires : goal.serve_rounds-served-requires
serve_rounds-served-requires g c =
    was_opened g.K.Lookup.shows g.K.Lookup.leaves_one_of g.K.Lookup.keeps_beside g.K.Lookup.is_trusted g.D.DeskOpener.is_opened g.K.Lookup.is_closed None c.in_ok-desk.desk c.in_ok-desk.ensures.opened
