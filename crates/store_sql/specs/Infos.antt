-- What headers say of their databases, read alone.
use Rattle.std.specs.Prelude.{ℕ, ℤ, List, [], ◌∷◌, codes, filter, map, IsPermutation}
use Rattle.sqlite.specs.declared.types.Value.TheVariants.{Text as Words}
use Rattle.sqlite.specs.Order.{Row, column}
use Rattle.sqlite.specs.Effect.{Database}
use Rattle.sqlite.specs.State.{State, IsUnchanged}
use Rattle.store_sql.specs.Columns.{Content, Name, Number}
use Rattle.store_tables.specs.Effects.{equals_number, rows_of}

-- of the row of a header, its info and its number
abbrev pub informed : Row → Row
informed r = column r 4 ∷ column r 1 ∷ []

abbrev pub info_columns : List Content
info_columns = Name ∷ Number ∷ []

-- the rows of the headers with this number
abbrev pub headers_with : ℤ → Database → List Row
headers_with number db = filter (equals_number 1 number) (rows_of (codes "edition") db)

-- these are the infos of the headers with this number, in no order that counts, and nothing has changed
abbrev pub Informs : ℤ → State → State → List (List ℕ) → Type 0
Informs number old new infos = IsPermutation (map (λ r. column r 4) (headers_with number old.now)) (map Words infos) × IsUnchanged old new
