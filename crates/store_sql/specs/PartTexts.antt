-- The texts of the statements over the parts of files.
use Rattle.std.specs.Prelude.{ℕ, List, codes}

abbrev pub part_create_text : List ℕ
part_create_text = codes "CREATE TABLE dictcat_part (edition INTEGER NOT NULL, file INTEGER NOT NULL, number INTEGER NOT NULL, octets BLOB NOT NULL, PRIMARY KEY (edition, file, number)) STRICT"

abbrev pub part_insert_text : List ℕ
part_insert_text = codes "INSERT INTO dictcat_part (edition, file, number, octets) VALUES (?1, ?2, ?3, ?4)"

-- all parts, in the order of their rowids
abbrev pub part_rowid_text : List ℕ
part_rowid_text = codes "SELECT rowid, * FROM dictcat_part ORDER BY 1"

-- those of one file, in order
abbrev pub file_text : List ℕ
file_text = codes "SELECT rowid, * FROM dictcat_part WHERE edition = ?1 AND file = ?2 ORDER BY 4"

-- the part of a file with this number
abbrev pub part_one_text : List ℕ
part_one_text = codes "SELECT rowid, * FROM dictcat_part WHERE edition = ?1 AND file = ?2 AND number = ?3 ORDER BY 4"

-- the parts of an edition go; and those of one of its files, from a number on
abbrev pub part_delete_text : List ℕ
part_delete_text = codes "DELETE FROM dictcat_part WHERE edition = ?1"

abbrev pub delete_from_text : List ℕ
delete_from_text = codes "DELETE FROM dictcat_part WHERE edition = ?1 AND file = ?2 AND number >= ?3"
