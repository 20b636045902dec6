-- What each of the tables has in common.
use Rattle.std.proofs.Common.{◌≡◌, ℕ, refl}
use Rattle.store_tables.specs.Tables.{table_of}
use Rattle.store_tables.specs.declared.tables.StoreTable.{StoreTable}
use Rattle.store_tables.specs.declared.tables.StoreTable.TheVariants.{Mark, Item, Member, Edition, Entry, Kept}

-- its name doesn't depend on its tree
pub name_is : (t : StoreTable) (n : ℕ) → (table_of t n).name ≡ (table_of t 0).name
name_is Mark n = refl
name_is Item n = refl
name_is Member n = refl
name_is Edition n = refl
name_is Entry n = refl
name_is Kept n = refl

pub tree_is : (t : StoreTable) (n : ℕ) → (table_of t n).tree ≡ n
tree_is Mark n = refl
tree_is Item n = refl
tree_is Member n = refl
tree_is Edition n = refl
tree_is Entry n = refl
tree_is Kept n = refl
