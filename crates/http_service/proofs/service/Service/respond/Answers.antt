use Rattle.std.proofs.Common.{◌∙◌, inl, inr, refl, sym, ap, subst}
use Rattle.http_request.specs.Paths.{IsPath}
use Rattle.http_service.specs.Answers.{plain}
use Rattle.http_service.specs.Actions.{action_of, changes}
use Rattle.http_service.specs.Settling.{stays}
use Rattle.http_service.specs.Responding.{ended, answered}
use Rattle.http_service.proofs.RespondLemmas.{responds_so}
use Rattle.http_service.proofs.ServiceLemmas.{settles_whole, no_request, false_unless}
use Rattle.http_service.proofs.service.Service.respond.Goals as goal

pub returns-in-Whole-clause-responds : goal.returns-in-Whole-clause-responds
returns-in-Whole-clause-responds g c = λ trusted M shown.
    let whole = c.in-Whole.ensures in
    responds_so _ _ _ _ M _ _ _ (λ s is. inr (whole.1, whole.2, is)) (c.respond_to.ensures.responds trusted M whole.1 shown whole.3)

pub returns-in-Refused-clause-responds : goal.returns-in-Refused-clause-responds
returns-in-Refused-clause-responds g c = λ trusted M shown.
    ended (stays M (plain c.in-Refused.status)) (inl (c.in-Refused.status, c.in-Refused.ensures, refl)) (answered c.refused.ensures shown (λ ms left. left))

pub returns-in-Whole-clause-shut : goal.returns-in-Whole-clause-shut
returns-in-Whole-clause-shut g c = λ M shut s is kind.
    let whole = c.in-Whole.ensures in
    c.respond_to.ensures.shut M whole.1 whole.3 shut s (settles_whole M c.args.octets.now whole.1 s whole.2 is) kind

pub returns-in-Whole-clause-quiet : goal.returns-in-Whole-clause-quiet
returns-in-Whole-clause-quiet g c = λ asks_none.
    let whole = c.in-Whole.ensures in
    c.respond_to.ensures.quiet (λ route name path. false_unless (changes (action_of route c.in-Whole.request.method.now)) (λ is. asks_none (record {
      request = whole.1;
      is = whole.2;
      route = route;
      name = name;
      path = subst (λ t. IsPath t route name) whole.3.target path;
      change = ap (λ m. changes (action_of route m)) (sym whole.3.method) ∙ is;
    })))

pub returns-in-Refused-clause-shut : goal.returns-in-Refused-clause-shut
returns-in-Refused-clause-shut g c = λ M shut s is kind.
    absurd (no_request M c.args.octets.now c.in-Refused.status s c.in-Refused.ensures is kind)
