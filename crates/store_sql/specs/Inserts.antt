-- The texts that write a row of each table, and what they do.
use Rattle.std.specs.Prelude.{ℕ, List, codes}
use Rattle.sqlite.specs.Order.{Row}
use Rattle.sqlite.specs.State.{State}
use Rattle.sqlite.specs.declared.error.Error.{Error}
use Rattle.store_tables.specs.Effects.{IsAdded, FailsIn, GoesOn}
use Rattle.store_tables.specs.Refusals.{RefusesToAdd, IsTooBig}

abbrev pub insert_mark : List ℕ
insert_mark = codes "INSERT INTO mark (id, magic, version, installs) VALUES (?1, ?2, ?3, ?4)"

abbrev pub insert_item : List ℕ
insert_item = codes "INSERT INTO item (place, name, kind, title, current, former) VALUES (?1, ?2, ?3, ?4, ?5, ?6)"

abbrev pub insert_member : List ℕ
insert_member = codes "INSERT INTO member (owner, ord, name) VALUES (?1, ?2, ?3)"

abbrev pub insert_kept : List ℕ
insert_kept = codes "INSERT INTO kept (id, number, verb, name, edition) VALUES (?1, ?2, ?3, ?4, ?5)"

-- one row more in the table
abbrev pub Inserts : List ℕ → Row → State → State → Type 0
Inserts name row old new = IsAdded name row old.now new.now × GoesOn old new

abbrev pub FailsToInsert : List ℕ → Row → State → State → Error → Type 0
FailsToInsert name row old new = FailsIn (RefusesToAdd name row old) (IsTooBig name row old.now) old new
