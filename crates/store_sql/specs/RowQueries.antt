-- What a query gives whose rows are read one at a time.
use Rattle.std.specs.Prelude.{ℕ, Bool, List, [], ◌∷◌, ◌++◌, Option, Some, None}
use Rattle.sqlite.specs.Order.{Row}
use Rattle.sqlite.specs.Table.{Table}
use Rattle.sqlite.specs.Effect.{Database}
use Rattle.sqlite.specs.Held.{Held, state}
use Rattle.sqlite.specs.Given as kit
use Rattle.sqlite_trees.specs.declared.store.Store.{Ghosts}
use Rattle.store_tables.specs.Effects.{Has}
use Rattle.store_sql.specs.Reads.{IsListing, IsSelection}

-- the text that is run, the values that it is given, the table that it reads, and which rows of a database are all that are read, in their order
pub record RowQuery : Type 1 where
  pub text : List ℕ
  pub values : Row
  pub table : ℕ → Table
  pub IsWhole : Database → List Row → Type 0

-- all rows of the table, in the order of these columns
abbrev pub listing_query : List ℕ → (ℕ → Table) → List ℕ → RowQuery
listing_query text table columns = record { text = text; values = []; table = table; IsWhole = λ db rows. IsListing (table 0).name columns db rows }

-- those that pass the test
abbrev pub selection_query : List ℕ → Row → (ℕ → Table) → (Row → Bool) → List ℕ → RowQuery
selection_query text values table test columns = record { text = text; values = values; table = table; IsWhole = λ db rows. IsSelection (table 0).name test columns db rows }

-- the first of the rows that are read
abbrev pub IsFrontOfRows : RowQuery → Database → List Row → Type 0
IsFrontOfRows query db rows = (tail : List Row) × query.IsWhole db (rows ++ tail)

module _ {S : Type 0} (g : Ghosts S) where
  -- the connection runs this query, and has given these rows
  pub record HasGivenRows (query : RowQuery) (h : Held S) (given : List Row) : Type 0 where
    pub runs : kit.HasGiven g query.text query.values h given
    pub has : Has query.table (state g h).now
    pub front : IsFrontOfRows query (state g h).now given

  -- one more row is given, or those so far are all
  abbrev pub GivesOnRows : RowQuery → Held S → List Row → Option Row → Type 0
  GivesOnRows query new given (Some row) = HasGivenRows query new (given ++ row ∷ [])
  GivesOnRows query new given None = query.IsWhole (state g new).now given
