-- Whether the table of parts can be made in a file of an older version, beside what is there.
use Rattle.std.specs.Prelude.{◌≡◌, false, ⊤}
use Rattle.sqlite.specs.Schema.{Schema}
use Rattle.sqlite.specs.Does.{lacks_sequence}
use Rattle.store_tables.specs.Room.{LeavesRoom}
use Rattle.store_sql.specs.PartTable.{part}
use Rattle.store_rows.specs.Versions.{Layout, Plain, Keyed, Shown, Parted}

-- There is room for it, and no table with AUTOINCREMENT waits for its counter, which a CREATE would make too. The tables of entries
-- and editions are dropped, and `edition` comes back under its own name.
pub record HasPartRoom (schema : Schema) : Type 0 where
  pub part : LeavesRoom schema (part 0)
  pub counted : lacks_sequence schema ≡ false

-- nothing is asked of the last layout
abbrev pub MayBecomeKnown : Layout → Schema → Type 0
MayBecomeKnown Plain schema = HasPartRoom schema
MayBecomeKnown Keyed schema = HasPartRoom schema
MayBecomeKnown Shown schema = HasPartRoom schema
MayBecomeKnown Parted schema = ⊤
