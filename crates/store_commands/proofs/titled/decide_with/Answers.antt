use Rattle.std.proofs.Common.{◌≡◌, ℕ, List, true, bytes_eq, sym, subst, ◌∙◌}
use Rattle.std.proofs.lemmas.Bool.{not-false}
use Rattle.std.proofs.lemmas.Slice.Eq.{bytes_eq-Decides}
use Rattle.dict_catalogue.specs.Commands.{install}
use Rattle.dict_catalogue.specs.Views.{summary_shown, IsChange}
use Rattle.store_commands.proofs.titled.decide_with.Goals as goal

pub returns-in-Ok-clause-planned : goal.returns-in-Ok-clause-planned
returns-in-Ok-clause-planned c =
    let equal : bytes_eq c.title.result.now c.args.title.now ≡ true = not-false _ (sym c.ne.ensures ∙ c.if-ne.false) in
    let same : c.args.edition.now.title ≡ c.args.title.now = sym c.title.ensures ∙ (bytes_eq-Decides c.title.result.now c.args.title.now).0 equal in
    subst (λ (title : List ℕ). IsChange (summary_shown c.args.summary.now) (install c.args.name.now title) c.in-Ok.change) same c.in-Ok.ensures.planned
