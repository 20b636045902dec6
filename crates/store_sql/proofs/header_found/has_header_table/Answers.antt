use Rattle.std.proofs.Common.{◌≡◌, rules, codes, refl, IsTrue, Some}
use Rattle.store_tables.specs.Found.{found_table}
use Rattle.store_tables.proofs.FoundLemmas.{owns, is_own}
use Rattle.store_sql.specs.HeaderTable.{header}
use Rattle.store_sql.proofs.header_found.has_header_table.Goals as goal

pub returns-then-is_header : goal.returns-then-is_header
returns-then-is_header c =
    let schema = c.args.schema.now in
    let table = c.in-Some.found.now in
    let there : found_table schema (codes "edition") ≡ Some table = search rules in
    let yes : IsTrue c.is_header.result = search rules in (
      λ alone. owns schema header (codes "edition") (λ n. refl) (λ n. refl) table there (c.is_header.ensures.0 yes) (c.is_unshared.ensures.0 alone),
      λ own. c.is_unshared.ensures.1 (is_own schema header (codes "edition") (λ n. refl) (λ n. refl) table there own).1,
    )
