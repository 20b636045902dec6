-- The tables of what is derived are defined for whichever tree they are made in, and there is room for them.
use Rattle.std.proofs.Common.{◌≡◌, ◌==◌, ℕ, true, false, refl, arith}
use Rattle.sqlite_schema.specs.Names.{same_name}
use Rattle.store_tables.specs.Definitions.{IsDefinition, are_named_apart}
use Rattle.store_tables.specs.Tables as store
use Rattle.store_tables.specs.declared.tables.StoreTable.{StoreTable}
use Rattle.store_tables.specs.declared.tables.StoreTable.TheVariants as made
use Rattle.store_tables.specs.Keyed.{keyed_table_of}
use Rattle.store_tables.specs.declared.keyed.KeyedTable.{KeyedTable}
use Rattle.store_tables.specs.declared.keyed.KeyedTable.TheVariants.{Entry, Word, Gram}

itself : (n : ℕ) → (n == n) ≡ true
itself n = search arith

pub keyed_defined : (t : KeyedTable) → IsDefinition (keyed_table_of t)
keyed_defined Entry = record { same = λ n. refl; unreferring = refl; keyed = λ n m. (rw (itself n) refl, tt) }
keyed_defined Word = record { same = λ n. refl; unreferring = refl; keyed = λ n m. (rw (itself n) refl, tt) }
keyed_defined Gram = record { same = λ n. refl; unreferring = refl; keyed = λ n m. (rw (itself n) refl, tt) }

pub keyed_apart : (t o : KeyedTable) → (t ≡ o → ⊥) → are_named_apart (keyed_table_of t 0) (keyed_table_of o 0) ≡ true
unfolding same_name
keyed_apart Entry Entry other = absurd (other refl)
keyed_apart Entry Word other = refl
keyed_apart Entry Gram other = refl
keyed_apart Word Entry other = refl
keyed_apart Word Word other = absurd (other refl)
keyed_apart Word Gram other = refl
keyed_apart Gram Entry other = refl
keyed_apart Gram Word other = refl
keyed_apart Gram Gram other = absurd (other refl)

pub from_store : (t : KeyedTable) (o : StoreTable) → same_name (keyed_table_of t 0).name (store.table_of o 0).name ≡ false → (are_named_apart (keyed_table_of t 0) (store.table_of o 0) ≡ true)
    × (are_named_apart (store.table_of o 0) (keyed_table_of t 0) ≡ true)
unfolding same_name
from_store Entry made.Mark other = (refl, refl)
from_store Entry made.Item other = (refl, refl)
from_store Entry made.Member other = (refl, refl)
from_store Entry made.Edition other = (refl, refl)
from_store Entry made.Entry other = absurd (let e = other in cc)
from_store Entry made.Kept other = (refl, refl)
from_store Word made.Mark other = (refl, refl)
from_store Word made.Item other = (refl, refl)
from_store Word made.Member other = (refl, refl)
from_store Word made.Edition other = (refl, refl)
from_store Word made.Entry other = (refl, refl)
from_store Word made.Kept other = (refl, refl)
from_store Gram made.Mark other = (refl, refl)
from_store Gram made.Item other = (refl, refl)
from_store Gram made.Member other = (refl, refl)
from_store Gram made.Edition other = (refl, refl)
from_store Gram made.Entry other = (refl, refl)
from_store Gram made.Kept other = (refl, refl)
