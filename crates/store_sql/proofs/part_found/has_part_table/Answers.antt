use Rattle.std.proofs.Common.{◌≡◌, rules, codes, refl, IsTrue, Some}
use Rattle.store_tables.specs.Found.{found_table}
use Rattle.store_tables.proofs.FoundLemmas.{owns, is_own}
use Rattle.store_sql.specs.PartTable.{part}
use Rattle.store_sql.proofs.part_found.has_part_table.Goals as goal

pub returns-then-is_part : goal.returns-then-is_part
returns-then-is_part c =
    let schema = c.args.schema.now in
    let table = c.in-Some.found.now in
    let there : found_table schema (codes "dictcat_part") ≡ Some table = search rules in
    let yes : IsTrue c.is_part.result = search rules in (
      λ alone. owns schema part (codes "dictcat_part") (λ n. refl) (λ n. refl) table there (c.is_part.ensures.0 yes) (c.is_unshared.ensures.0 alone),
      λ own. c.is_unshared.ensures.1 (is_own schema part (codes "dictcat_part") (λ n. refl) (λ n. refl) table there own).1,
    )
