-- The table of the headers of editions, as data.
use Rattle.std.specs.Prelude.{ℕ, [], ◌∷◌, codes, Some}
use Rattle.sqlite.specs.Kind.TheVariants.{Integer, Text}
use Rattle.sqlite.specs.Table.{Table}
use Rattle.store_tables.specs.Tables.{needed, simple}

-- ---- edition, without the texts: those stand in parts. Its name is that of the table `edition` of the versions before.

abbrev pub header : ℕ → Table
header tree = simple (codes "edition") tree (needed (codes "number") Integer ∷ needed (codes "owner") Text ∷ needed (codes "title") Text ∷ needed (codes "info") Text ∷ []) (Some 0) (0 ∷ []) [] []
