-- The texts that make the tables, and what CREATE TABLE does to a database.
use Rattle.std.specs.Prelude.{◌≡◌, ℕ, false, List, [], ◌∷◌, codes}
use Rattle.std.specs.List.{AllByRecursion}
use Rattle.sqlite.specs.Effect.{Database, IsDatabase, SparesFrozen}
use Rattle.sqlite.specs.Table.{Table}
use Rattle.sqlite.specs.Schema.{Schema}
use Rattle.sqlite.specs.Change.{created, is_used}
use Rattle.sqlite.specs.Does.{lacks_sequence}
use Rattle.store_tables.specs.declared.tables.StoreTable.{StoreTable}
use Rattle.store_tables.specs.declared.tables.StoreTable.TheVariants.{Mark, Item, Member, Edition, Entry, Kept}
use Rattle.sqlite.specs.State.{State}
use Rattle.sqlite.specs.declared.error.Error.{Error}
use Rattle.store_tables.specs.Tables.{table_of}
use Rattle.store_tables.specs.Found.{HasOwn}
use Rattle.store_tables.specs.Room.{HasRoom}
use Rattle.store_tables.specs.Effects.{rows_of, FailsIn, GoesOn}
use Rattle.store_tables.specs.Refusals.{RefusesToMake}

abbrev pub create_text : StoreTable → List ℕ
create_text Mark = codes "CREATE TABLE mark (id INTEGER NOT NULL PRIMARY KEY, magic TEXT NOT NULL, version INTEGER NOT NULL, installs INTEGER NOT NULL) STRICT"
create_text Item = codes "CREATE TABLE item (place INTEGER NOT NULL PRIMARY KEY, name TEXT NOT NULL UNIQUE, kind INTEGER NOT NULL, title TEXT, current INTEGER, former INTEGER) STRICT"
create_text Member = codes "CREATE TABLE member (owner TEXT NOT NULL, ord INTEGER NOT NULL, name TEXT NOT NULL, PRIMARY KEY (owner, ord), UNIQUE (owner, name)) STRICT"
create_text Edition = codes "CREATE TABLE edition (number INTEGER NOT NULL PRIMARY KEY, owner TEXT NOT NULL, title TEXT NOT NULL, info TEXT NOT NULL, body BLOB NOT NULL) STRICT"
create_text Entry = codes "CREATE TABLE entry (edition INTEGER NOT NULL, ord INTEGER NOT NULL, headword TEXT NOT NULL, start INTEGER NOT NULL, length INTEGER NOT NULL, PRIMARY KEY (edition, ord)) STRICT"
create_text Kept = codes "CREATE TABLE kept (id TEXT NOT NULL PRIMARY KEY, number INTEGER NOT NULL UNIQUE, verb TEXT NOT NULL, name TEXT NOT NULL, edition INTEGER) STRICT"

-- No table, index or view has the name, and no table with AUTOINCREMENT waits for its counter, which a CREATE would make too.
pub record IsFree (schema : Schema) (name : List ℕ) : Type 0 where
  pub unused : is_used schema name ≡ false
  pub counted : lacks_sequence schema ≡ false

-- The table is there with the indexes of its keys, in trees of their own, and has no rows. Each other table is as before, and what `sqlite` keeps and doesn't read.
pub record IsMade (table : Table) (old new : Database) : Type 0 where
  pub schema : new.schema ≡ created old.schema table
  pub counted : lacks_sequence new.schema ≡ false
  pub empty : rows_of table.name new ≡ []
  pub others : AllByRecursion (λ t. new.trees t.tree ≡ old.trees t.tree) old.schema.tables
  pub unread : SparesFrozen old new
  pub sound : IsDatabase new

abbrev pub Makes : Table → State → State → Type 0
Makes table old new = IsMade table old.now new.now × GoesOn old new

abbrev pub FailsToMake : Table → State → State → Error → Type 0
FailsToMake table old new = FailsIn (RefusesToMake table old) ⊥ old new

-- ---- all of them

-- no two of the tables are the same
abbrev pub AreApart : List StoreTable → Type 0
AreApart [] = Unit {0}
AreApart (t ∷ ts) = AllByRecursion (λ o. t ≡ o → ⊥) ts × AreApart ts

-- The tables were made one after the other.
abbrev pub MadeInTurn : List StoreTable → Database → Database → Type 0
MadeInTurn [] old new = new ≡ old
MadeInTurn (t ∷ ts) old new = (mid : Database) × IsMade (table_of t 0) old mid × MadeInTurn ts mid new

-- The tables are there, as the statements need them, and have no rows. The rows of each other table are as before.
pub record AreMade (tables : List StoreTable) (old new : Database) : Type 0 where
  pub in_turn : MadeInTurn tables old new
  pub own : AllByRecursion (λ t. HasOwn new.schema (table_of t)) tables
  pub empty : AllByRecursion (λ t. rows_of (table_of t 0).name new ≡ []) tables
  pub others : AllByRecursion (λ t. new.trees t.tree ≡ old.trees t.tree) old.schema.tables
  pub sound : IsDatabase new

-- There is room for all tables. Whether a schema has it is tested by `has_room`; that the database of an open connection is sound is known of every one.
pub record IsReady (db : Database) : Type 0 where
  pub room : HasRoom db.schema
  pub sound : IsDatabase db
