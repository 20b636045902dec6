-- Room for the table of parts is that for its name and for that of its index.
use Rattle.std.proofs.Common.{◌≡◌, false, codes}
use Rattle.std.specs.Fmt.{digits}
use Rattle.sqlite.specs.Schema.{Schema}
use Rattle.sqlite.specs.Change.{is_used}
use Rattle.store_tables.specs.Room.{LeavesRoom, is_referred}
use Rattle.store_sql.specs.PartTable.{part}

abbrev pub AreFree : Schema → Type 0
AreFree schema = (is_used schema (codes "dictcat_part") ≡ false) × ((is_referred schema (codes "dictcat_part") ≡ false) × (is_used schema (codes "sqlite_autoindex_dictcat_part_1") ≡ false))

pub part_room : (schema : Schema) → AreFree schema → LeavesRoom schema (part 0)
unfolding digits
part_room schema h = record { unused = h.0; unreferred = h.1.0; unindexed = (h.1.1, tt) }

pub part_names : (schema : Schema) → LeavesRoom schema (part 0) → AreFree schema
unfolding digits
part_names schema r = (r.unused, (r.unreferred, r.unindexed.0))
