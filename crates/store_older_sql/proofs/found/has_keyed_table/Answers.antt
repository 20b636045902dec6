use Rattle.std.proofs.Common.{◌≡◌, rules, IsTrue, Some}
use Rattle.store_tables.specs.Keyed.{keyed_table_of}
use Rattle.store_tables.specs.Found.{found_table}
use Rattle.store_older_sql.proofs.TableLemmas.{name_is, tree_is}
use Rattle.store_tables.proofs.FoundLemmas.{owns, is_own}
use Rattle.store_older_sql.proofs.found.has_keyed_table.Goals as goal

pub returns-then-is_defined_as : goal.returns-then-is_defined_as
returns-then-is_defined_as c =
    let schema = c.args.schema.now in
    let which = c.args.table in
    let table = c.in-Some.found.now in
    let name = (keyed_table_of which 0).name in
    let there : found_table schema name ≡ Some table = search rules in
    let yes : IsTrue c.is_defined_as.result = search rules in (
      λ alone. owns schema (keyed_table_of which) name (name_is which) (tree_is which) table there (c.is_defined_as.ensures.0 yes) (c.is_unshared.ensures.0 alone),
      λ own. c.is_unshared.ensures.1 (is_own schema (keyed_table_of which) name (name_is which) (tree_is which) table there own).1,
    )
