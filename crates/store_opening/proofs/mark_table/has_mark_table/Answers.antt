use Rattle.std.proofs.Common.{◌≡◌, rules, codes, IsTrue, Some, ap, subst, ◌∙◌}
use Rattle.store_tables.specs.Found.{found_table}
use Rattle.store_tables.specs.Tables.{mark}
use Rattle.store_opening.specs.Marks.{IsSingle}
use Rattle.store_opening.proofs.mark_table.has_mark_table.Goals as goal

pub returns-then-is_mark : goal.returns-then-is_mark
returns-then-is_mark c =
    let schema = c.args.schema.now in
    let table = c.in-Some.found.now in
    let there : found_table schema (codes "mark") ≡ Some table = search rules in
    let yes : IsTrue c.is_mark.result = search rules in
    let same : table ≡ mark table.tree = c.is_mark.ensures.0 yes in (
      λ single. record { tree = table.tree; found = there ∙ ap Some same; single = subst (IsSingle schema) same (c.is_single.ensures.0 single) },
      λ own. c.is_single.ensures.1 (subst (IsSingle schema) (let found = own.found in let it : mark own.tree ≡ table = cc in it) own.single),
    )
