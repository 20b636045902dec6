use Rattle.std.proofs.Common.{◌≡◌, rules, codes, refl, IsTrue, Some}
use Rattle.store_tables.specs.Keyed.{old_entry}
use Rattle.store_tables.specs.Found.{found_table}
use Rattle.store_tables.proofs.FoundLemmas.{owns, is_own}
use Rattle.store_older_sql.proofs.keyed_old.has_old_entry.Goals as goal

pub returns-then-is_old_entry : goal.returns-then-is_old_entry
returns-then-is_old_entry c =
    let schema = c.args.schema.now in
    let table = c.in-Some.found.now in
    let there : found_table schema (codes "entry") ≡ Some table = search rules in
    let yes : IsTrue c.is_old_entry.result = search rules in (
      λ alone. owns schema old_entry (codes "entry") (λ n. refl) (λ n. refl) table there (c.is_old_entry.ensures.0 yes) (c.is_unshared.ensures.0 alone),
      λ own. c.is_unshared.ensures.1 (is_own schema old_entry (codes "entry") (λ n. refl) (λ n. refl) table there own).1,
    )
