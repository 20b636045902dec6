-- The tables of what is derived of headwords, and their indexes, as data.
use Rattle.std.specs.Prelude.{ℕ, [], ◌∷◌, codes, None}
use Rattle.sqlite.specs.Kind.TheVariants.{Integer, Text, Blob}
use Rattle.sqlite.specs.Table.{Table}
use Rattle.sqlite_value.specs.Keys.{plain}
use Rattle.store_tables.specs.Tables.{needed, simple}
use Rattle.store_tables.specs.declared.keyed.KeyedTable.{KeyedTable}
use Rattle.store_tables.specs.declared.keyed.KeyedTable.TheVariants.{Entry, Word, Gram}

-- ---- entry: the headwords of each edition, where their bodies stand, and the key of each, read in either direction

abbrev pub entry_with_keys : ℕ → Table
entry_with_keys tree =
    simple (codes "entry") tree (needed (codes "edition") Integer ∷ needed (codes "ord") Integer ∷ needed (codes "headword") Text ∷ needed (codes "start") Integer ∷ needed (codes "length") Integer ∷ needed (codes "key") Blob
    ∷ needed (codes "rkey") Blob ∷ needed (codes "shown") Text ∷ []) None (1 ∷ 2 ∷ []) ((1 ∷ 2 ∷ []) ∷ []) (plain ∷ [])

-- the same in schemas 2 and 3, which are only read and dropped
abbrev pub old_entry : ℕ → Table
old_entry tree =
    simple (codes "entry") tree (needed (codes "edition") Integer ∷ needed (codes "ord") Integer ∷ needed (codes "headword") Text ∷ needed (codes "start") Integer ∷ needed (codes "length") Integer ∷ needed (codes "key") Blob
    ∷ needed (codes "rkey") Blob ∷ []) None (1 ∷ 2 ∷ []) ((1 ∷ 2 ∷ []) ∷ []) (plain ∷ [])

-- ---- word: the words of each key

abbrev pub word : ℕ → Table
word tree = simple (codes "word") tree (needed (codes "edition") Integer ∷ needed (codes "word") Blob ∷ needed (codes "ord") Integer ∷ []) None (1 ∷ 2 ∷ 3 ∷ []) ((1 ∷ 2 ∷ 3 ∷ []) ∷ []) (plain ∷ [])

-- ---- gram: the runs of three octets of each key

abbrev pub gram : ℕ → Table
gram tree = simple (codes "gram") tree (needed (codes "edition") Integer ∷ needed (codes "gram") Blob ∷ needed (codes "ord") Integer ∷ []) None (1 ∷ 2 ∷ 3 ∷ []) ((1 ∷ 2 ∷ 3 ∷ []) ∷ []) (plain ∷ [])

-- ---- by name

abbrev pub keyed_table_of : KeyedTable → ℕ → Table
keyed_table_of Entry = entry_with_keys
keyed_table_of Word = word
keyed_table_of Gram = gram
