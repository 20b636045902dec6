use Rattle.std.proofs.Common.{◌∷◌}
use Rattle.std.specs.Prelude.{Some, is_some}
use Rattle.dict_catalogue.specs.Steps.{kept_under, step}
use Rattle.dict_catalogue.specs.Views.{command_meant}
use Rattle.dict_desk.proofs.LeavesLemmas.{contains_later, leaves_any, leaves_failed}
use Rattle.dict_desk_tests.proofs.callers.kept_or_applied.Goals as goal

pub returns-in-Ok-Some-clause-any : goal.returns-in-Ok-Some-clause-any
returns-in-Ok-Some-clause-any g c = λ trusted M ms shown left.
    let after = (step M c.args.id.now (command_meant c.args.command.now)).catalogue in
    g.met.K.Lookup.wider c.kept.new.self ms (Some after ∷ ms) (λ m. contains_later (Some after) m ms) (c.kept.ensures.keeps.leaves ms left)

pub returns-in-Ok-None-clause-any : goal.returns-in-Ok-None-clause-any
returns-in-Ok-None-clause-any g c = λ trusted M ms shown left.
    leaves_any _ _ (g.met.K.Lookup.wider c.apply.new.self) _ _ _ (c.apply.ensures.leaves trusted M (c.kept.ensures.keeps.shows (c.apply.ensures.trust trusted) M shown)) ms (c.kept.ensures.keeps.leaves ms left)

pub returns-in-Err-clause-leaves : goal.returns-in-Err-clause-leaves
returns-in-Err-clause-leaves g c = λ trusted M shown.
    leaves_failed _ _ (g.met.K.Lookup.wider c.kept.new.self) c.kept.ensures.keeps.leaves (is_some (kept_under M.kept c.args.id.now)) (step M c.args.id.now (command_meant c.args.command.now)).catalogue
    c.in-Err.fault c.in-Err.ensures.keeps.kinds

pub returns-in-Err-clause-any : goal.returns-in-Err-clause-any
returns-in-Err-clause-any g c = λ trusted M ms shown left.
    let after = (step M c.args.id.now (command_meant c.args.command.now)).catalogue in
    g.met.K.Lookup.wider c.kept.new.self ms (Some after ∷ ms) (λ m. contains_later (Some after) m ms) (c.kept.ensures.keeps.leaves ms left)
