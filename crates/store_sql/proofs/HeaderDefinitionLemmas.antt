-- The table of headers is defined for whichever tree it is made in, and takes the names of the table of editions and no others.
use Rattle.std.proofs.Common.{◌≡◌, true, refl}
use Rattle.sqlite.specs.Table.{Table}
use Rattle.sqlite_schema.specs.Names.{same_name}
use Rattle.store_tables.specs.Definitions.{IsDefinition, are_named_apart, names_of}
use Rattle.store_tables.specs.Keyed.{keyed_table_of}
use Rattle.store_tables.specs.Tables as store
use Rattle.store_tables.specs.declared.keyed.KeyedTable.{KeyedTable}
use Rattle.store_tables.specs.declared.keyed.KeyedTable.TheVariants.{Entry, Word, Gram}
use Rattle.store_tables.specs.declared.tables.StoreTable.{StoreTable}
use Rattle.store_tables.specs.declared.tables.StoreTable.TheVariants as made
use Rattle.store_sql.specs.HeaderTable.{header}

pub header_defined : IsDefinition header
header_defined = record { same = λ n. refl; unreferring = refl; keyed = λ n m. tt }

pub same_names : names_of (header 0) ≡ names_of (store.edition 0)
same_names = refl

pub apart_as : (other : Table) → (are_named_apart (header 0) other ≡ are_named_apart (store.edition 0) other) × (are_named_apart other (header 0) ≡ are_named_apart other (store.edition 0))
apart_as other = (refl, refl)

pub from_store : (o : StoreTable) → (o ≡ made.Edition → ⊥) → (are_named_apart (header 0) (store.table_of o 0) ≡ true) × (are_named_apart (store.table_of o 0) (header 0) ≡ true)
unfolding same_name
from_store made.Mark h = (refl, refl)
from_store made.Item h = (refl, refl)
from_store made.Member h = (refl, refl)
from_store made.Edition h = absurd (h refl)
from_store made.Entry h = (refl, refl)
from_store made.Kept h = (refl, refl)

pub from_keyed : (t : KeyedTable) → (are_named_apart (header 0) (keyed_table_of t 0) ≡ true) × (are_named_apart (keyed_table_of t 0) (header 0) ≡ true)
unfolding same_name
from_keyed Entry = (refl, refl)
from_keyed Word = (refl, refl)
from_keyed Gram = (refl, refl)
