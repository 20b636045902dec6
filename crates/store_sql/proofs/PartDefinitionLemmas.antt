-- The table of parts is defined for whichever tree it is made in, and takes no name of another table.
use Rattle.std.proofs.Common.{◌≡◌, ◌==◌, ℕ, true, refl, arith}
use Rattle.sqlite_schema.specs.Names.{same_name}
use Rattle.store_tables.specs.Definitions.{IsDefinition, are_named_apart}
use Rattle.store_tables.specs.Keyed.{keyed_table_of}
use Rattle.store_tables.specs.Tables as store
use Rattle.store_tables.specs.declared.keyed.KeyedTable.{KeyedTable}
use Rattle.store_tables.specs.declared.keyed.KeyedTable.TheVariants.{Entry, Word, Gram}
use Rattle.store_tables.specs.declared.tables.StoreTable.{StoreTable}
use Rattle.store_tables.specs.declared.tables.StoreTable.TheVariants as made
use Rattle.store_sql.specs.PartTable.{part}

itself : (n : ℕ) → (n == n) ≡ true
itself n = search arith

pub part_defined : IsDefinition part
part_defined = record { same = λ n. refl; unreferring = refl; keyed = λ n m. (rw (itself n) refl, tt) }

pub from_store : (o : StoreTable) → (are_named_apart (part 0) (store.table_of o 0) ≡ true) × (are_named_apart (store.table_of o 0) (part 0) ≡ true)
unfolding same_name
from_store made.Mark = (refl, refl)
from_store made.Item = (refl, refl)
from_store made.Member = (refl, refl)
from_store made.Edition = (refl, refl)
from_store made.Entry = (refl, refl)
from_store made.Kept = (refl, refl)

pub from_keyed : (t : KeyedTable) → (are_named_apart (part 0) (keyed_table_of t 0) ≡ true) × (are_named_apart (keyed_table_of t 0) (part 0) ≡ true)
unfolding same_name
from_keyed Entry = (refl, refl)
from_keyed Word = (refl, refl)
from_keyed Gram = (refl, refl)
