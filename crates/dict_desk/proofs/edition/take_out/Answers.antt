use Rattle.std.proofs.Common.{rules, not, ◌==◌}
use Rattle.std.specs.List.{list_any}
use Rattle.std.proofs.lemmas.Fn.{filter_same}
use Rattle.dict_desk.proofs.edition.take_out.Goals as goal

pub returns-clause-items : goal.returns-clause-items
returns-clause-items c = filter_same _ (λ stored. not (list_any (λ one. one == stored.number) c.args.gone.now)) _ (λ x b f' k. search rules) _ _ c.retain.ensures.filtered
