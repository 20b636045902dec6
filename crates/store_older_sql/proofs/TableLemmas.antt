-- What each of the tables has in common.
use Rattle.std.proofs.Common.{◌≡◌, ℕ, refl}
use Rattle.store_tables.specs.Keyed.{keyed_table_of}
use Rattle.store_tables.specs.declared.keyed.KeyedTable.{KeyedTable}
use Rattle.store_tables.specs.declared.keyed.KeyedTable.TheVariants.{Entry, Word, Gram}

-- its name doesn't depend on its tree
pub name_is : (t : KeyedTable) (n : ℕ) → (keyed_table_of t n).name ≡ (keyed_table_of t 0).name
name_is Entry n = refl
name_is Word n = refl
name_is Gram n = refl

pub tree_is : (t : KeyedTable) (n : ℕ) → (keyed_table_of t n).tree ≡ n
tree_is Entry n = refl
tree_is Word n = refl
tree_is Gram n = refl
