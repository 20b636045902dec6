-- The table of the parts of files, as data.
use Rattle.std.specs.Prelude.{ℕ, [], ◌∷◌, codes, None}
use Rattle.sqlite.specs.Kind.TheVariants.{Integer, Blob}
use Rattle.sqlite.specs.Table.{Table}
use Rattle.sqlite_value.specs.Keys.{plain}
use Rattle.store_tables.specs.Tables.{needed, simple}

-- ---- dictcat_part: the parts of the two files of each edition

abbrev pub part : ℕ → Table
part tree =
    simple (codes "dictcat_part") tree (needed (codes "edition") Integer ∷ needed (codes "file") Integer ∷ needed (codes "number") Integer ∷ needed (codes "octets") Blob ∷ []) None (1 ∷ 2 ∷ 3 ∷ []) ((1 ∷ 2 ∷ 3 ∷ []) ∷ [])
    (plain ∷ [])
