use Rattle.std.specs.Prelude.{Err, IfErr}
use Rattle.std.proofs.lemmas.Result.{err_from_is_err_and}
use Rattle.store_fixtures.proofs.AskedLemmas.{accepted_one_more, shown_one_more, stopped_behind}
use Rattle.dict_catalogue.specs.Steps.{after}
use Rattle.store_fixtures.specs.Asked.{FailsBehind, requests_asked}
use Rattle.std.proofs.Common.{◌≡◌, ◌∙◌, ap, sym, subst, take}
use Rattle.store_fixtures.proofs.desks.accept_all.Goals as goal

pub loop-id-preserved : goal.loop-id-preserved
loop-id-preserved g c =
    let editions = c.args.editions.now.all.items in
    let asked = c.args.asked.now in
    let i = c.loop-id.id-index in
    record {
      applied = accepted_one_more editions asked i _ _ c.loop-id-test.true c.command.ensures g.K.Keeper.applies _ _ _ _ _ c.in_ok-_kept.was c.loop-id.invariant.applied c.apply.ensures.applied;
      shows = λ trusted M shown. shown_one_more editions asked i _ _ c.loop-id-test.true c.command.ensures (g.K.Lookup.shows c.apply.new.self) M
          (c.in_ok-_kept.ensures.value trusted (after M (requests_asked editions (take i asked))) (c.loop-id.invariant.shows (c.apply.ensures.trust trusted) M shown)).1;
      trust = λ trusted. c.loop-id.invariant.trust (c.apply.ensures.trust trusted);
      beside = λ beside kept. c.apply.ensures.beside beside (c.loop-id.invariant.beside beside kept);
    }

pub returns-in_err-_kept-clause-stopped : goal.returns-in_err-_kept-clause-stopped
returns-in_err-_kept-clause-stopped g c =
    let editions = c.args.editions.now.all.items in
    let asked = c.args.asked.now in
    let told = err_from_is_err_and c.from_residual.result c.from_residual.ensures.1 in
    let was : c.apply.result ≡ Err told.0 = c.in_err-_kept.was ∙ ap (λ e. Err e) (sym told.2) in
    subst (λ r. IfErr r (λ fault. FailsBehind g.K.Keeper.applies c.args.desk.now (requests_asked editions asked) fault c.apply.new.self)) (sym told.1)
    (stopped_behind editions asked c.loop-id.id-index _ _ c.loop-id-test.true c.command.ensures g.K.Keeper.applies _ _ _ _ told.0 was c.loop-id.invariant.applied c.apply.ensures.applied)
