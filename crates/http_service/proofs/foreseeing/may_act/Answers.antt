use Rattle.std.proofs.Common.{◌≡◌, ◌∙◌, Bool, true, false, ap, refl}
use Rattle.std.specs.Prelude.{◌||◌}
use Rattle.http_service.proofs.RespondLemmas.{other_if_open}
use Rattle.http_service.proofs.foreseeing.may_act.Goals as goal

pub returns-in-Ok-clause-finds : goal.returns-in-Ok-clause-finds
returns-in-Ok-clause-finds g c = λ none.
    let unclosed : g.K.Lookup.is_closed c.args.desk.now ≡ false = by (g.K.Lookup.is_closed c.args.desk.now) refl in
    record {
      trust = c.in-Ok.ensures.keeps.trust;
      beside = c.in-Ok.ensures.keeps.beside;
      shows = c.in-Ok.ensures.keeps.shows;
      leaves = c.in-Ok.ensures.keeps.leaves;
      answered = c.in-Ok.ensures.keeps.failed;
      was_open = unclosed;
      is_open = c.in-Ok.ensures.keeps.closes ∙ ap (λ b. b || false) unclosed;
    }
  where
    by : (b : Bool) → g.K.Lookup.is_closed c.args.desk.now ≡ b → g.K.Lookup.is_closed c.args.desk.now ≡ false
    by true is = absurd (other_if_open _ _ _ refl c.in-Ok.ensures.keeps.closed is)
    by false is = is
