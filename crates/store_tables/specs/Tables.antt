-- The tables of schema 1 as data.
use Rattle.std.specs.Prelude.{ℕ, Bool, List, [], ◌∷◌, codes, Option, Some, None, true, false}
use Rattle.sqlite.specs.Collation.TheVariants.{Binary}
use Rattle.sqlite.specs.declared.types.Value.TheVariants.{Null}
use Rattle.sqlite.specs.Kind.{Kind}
use Rattle.sqlite.specs.Kind.TheVariants.{Integer, Text, Blob}
use Rattle.sqlite.specs.Table.{Table}
use Rattle.sqlite_schema.specs.declared.schema.Column.{Column}
use Rattle.sqlite_value.specs.declared.keys.Order.{Order}
use Rattle.sqlite_value.specs.Keys.{plain}
use Rattle.store_tables.specs.declared.tables.StoreTable.{StoreTable}
use Rattle.store_tables.specs.declared.tables.StoreTable.TheVariants.{Mark, Item, Member, Edition, Entry, Kept}

abbrev pub needed : List ℕ → Kind → Column
needed name kind = record { name = name; kind = kind; is_strict = true; not_null = true; default = Null; collation = Binary }

abbrev pub optional : List ℕ → Kind → Column
optional name kind = record { name = name; kind = kind; is_strict = true; not_null = false; default = Null; collation = Binary }

-- a strict column with no default
abbrev pub column_of : List ℕ → Kind → Bool → Column
column_of name kind not_null = record { name = name; kind = kind; is_strict = true; not_null = not_null; default = Null; collation = Binary }

-- a table with no CHECK, no reference, no default that reads the time and no AUTOINCREMENT
abbrev pub simple : List ℕ → ℕ → List Column → Option ℕ → List ℕ → List (List ℕ) → List Order → Table
simple name tree columns key primary uniques orders = record {
  name = name;
  tree = tree;
  columns = columns;
  key = key;
  primary = primary;
  uniques = uniques;
  orders = orders;
  checks = [];
  references = [];
  computed = [];
  stamps = record { places = []; terms = []; formats = [] };
  is_counted = false;
}

-- ---- mark: one row, whose id is 1

abbrev pub mark : ℕ → Table
mark tree = simple (codes "mark") tree (needed (codes "id") Integer ∷ needed (codes "magic") Text ∷ needed (codes "version") Integer ∷ needed (codes "installs") Integer ∷ []) (Some 0) (0 ∷ []) [] []

-- ---- item: the databases in order

abbrev pub item : ℕ → Table
item tree =
    simple (codes "item") tree (needed (codes "place") Integer ∷ needed (codes "name") Text ∷ needed (codes "kind") Integer ∷ optional (codes "title") Text ∷ optional (codes "current") Integer ∷ optional (codes "former") Integer
    ∷ []) (Some 0) (0 ∷ []) ((2 ∷ []) ∷ []) (plain ∷ [])

-- ---- member: the members of the virtual databases

abbrev pub member : ℕ → Table
member tree = simple (codes "member") tree (needed (codes "owner") Text ∷ needed (codes "ord") Integer ∷ needed (codes "name") Text ∷ []) None (1 ∷ 2 ∷ []) ((1 ∷ 2 ∷ []) ∷ (1 ∷ 3 ∷ []) ∷ []) (plain ∷ plain ∷ [])

-- ---- edition

abbrev pub edition : ℕ → Table
edition tree = simple (codes "edition") tree (needed (codes "number") Integer ∷ needed (codes "owner") Text ∷ needed (codes "title") Text ∷ needed (codes "info") Text ∷ needed (codes "body") Blob ∷ []) (Some 0) (0 ∷ []) [] []

-- ---- entry: the headwords of each edition, and where their bodies stand

abbrev pub entry : ℕ → Table
entry tree =
    simple (codes "entry") tree (needed (codes "edition") Integer ∷ needed (codes "ord") Integer ∷ needed (codes "headword") Text ∷ needed (codes "start") Integer ∷ needed (codes "length") Integer ∷ []) None (1 ∷ 2 ∷ [])
    ((1 ∷ 2 ∷ []) ∷ []) (plain ∷ [])

-- ---- kept: the kept replies

abbrev pub kept : ℕ → Table
kept tree =
    simple (codes "kept") tree (needed (codes "id") Text ∷ needed (codes "number") Integer ∷ needed (codes "verb") Text ∷ needed (codes "name") Text ∷ optional (codes "edition") Integer ∷ []) None (1 ∷ [])
    ((1 ∷ []) ∷ (2 ∷ []) ∷ []) (plain ∷ plain ∷ [])

-- ---- by name

abbrev pub table_of : StoreTable → ℕ → Table
table_of Mark = mark
table_of Item = item
table_of Member = member
table_of Edition = edition
table_of Entry = entry
table_of Kept = kept
