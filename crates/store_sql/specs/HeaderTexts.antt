-- The texts of the statements over the headers of editions.
use Rattle.std.specs.Prelude.{ℕ, List, codes}

abbrev pub header_create_text : List ℕ
header_create_text = codes "CREATE TABLE edition (number INTEGER NOT NULL PRIMARY KEY, owner TEXT NOT NULL, title TEXT NOT NULL, info TEXT NOT NULL) STRICT"

abbrev pub header_insert_text : List ℕ
header_insert_text = codes "INSERT INTO edition (number, owner, title, info) VALUES (?1, ?2, ?3, ?4)"

-- the header of this number goes
abbrev pub header_delete_text : List ℕ
header_delete_text = codes "DELETE FROM edition WHERE number = ?1"

-- all of them, in the order of their rowids
abbrev pub header_rowid_text : List ℕ
header_rowid_text = codes "SELECT rowid, * FROM edition ORDER BY 1"

-- the one of this number; and of that the info and the number alone
abbrev pub header_one_text : List ℕ
header_one_text = codes "SELECT rowid, * FROM edition WHERE number = ?1 ORDER BY 2"

abbrev pub info_text : List ℕ
info_text = codes "SELECT info, number FROM edition WHERE number = ?1"
