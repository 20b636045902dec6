use Rattle.std.proofs.Common.{◌≡◌, ◌∙◌, sym, ap, subst}
use Rattle.std.specs.Prelude.{Some}
use Rattle.http_request.specs.Paths.{IsPath}
use Rattle.http_service.specs.Actions.{action_of}
use Rattle.http_service.specs.Foreseeing.{AsksAnewBy, AsksBy}
use Rattle.http_service.proofs.service.Service.foresee.Goals as goal

pub returns-clause-foreseen : goal.returns-clause-foreseen
returns-clause-foreseen g c = λ taken.
    let whole = c.in-Whole.ensures in
    let asked = whole.1 in
    let tells = whole.3 in
    let route = c.in-Some.found.route in
    let name = c.in-Some.found.name.now in
    let action = c.in-Some-action_of.action in
    let told = c.foresee_change.ensures.foreseen taken asked.ids tells.ids in
    let found : action_of route c.in-Whole.request.method.now ≡ Some action = sym c.in-Some-action_of.ensures in
    record {
      asked = told.asked;
      asks = record {
        request = asked;
        is = whole.2;
        route = route;
        name = name;
        path = subst (λ t. IsPath t route name) tells.target c.in-Some.ensures;
        action = action;
        acts = sym (ap (action_of route) tells.method) ∙ found;
        asks = subst (λ b. AsksBy action asked.ids name b told.asked) tells.body told.asks;
      };
      told = told.told;
    }

pub returns-clause-anew : goal.returns-clause-anew
returns-clause-anew g c = λ taken trusted M shown.
    let whole = c.in-Whole.ensures in
    let asked = whole.1 in
    let tells = whole.3 in
    let route = c.in-Some.found.route in
    let name = c.in-Some.found.name.now in
    let action = c.in-Some-action_of.action in
    let told = c.foresee_change.ensures.anew taken trusted M shown asked.ids tells.ids in
    let by = subst (λ b. AsksAnewBy M action asked.ids name b told.asked) tells.body told.asks in
    let found : action_of route c.in-Whole.request.method.now ≡ Some action = sym c.in-Some-action_of.ensures in
    record {
      asked = told.asked;
      asks = record {
        asks = record {
          request = asked;
          is = whole.2;
          route = route;
          name = name;
          path = subst (λ t. IsPath t route name) tells.target c.in-Some.ensures;
          action = action;
          acts = sym (ap (action_of route) tells.method) ∙ found;
          asks = by.asks;
        };
        anew = by.anew;
      };
      told = told.told;
    }
