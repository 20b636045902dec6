-- The entries of an edition, as they are searched.
use Rattle.std.specs.Prelude.{ℕ, List, [], map, take, drop, slice_index_or}
use Rattle.dict_match.specs.Key.{key_of}
use Rattle.dict_index.specs.Line.{Line}
use Rattle.dict_index.specs.Found.{Row, row}

-- the key of its headword, what replies show of it, and the interval of its text
pub record Indexed : Type 0 where
  pub key : List ℕ
  pub shown : List ℕ
  pub start : ℕ
  pub size : ℕ

-- the entry that a line of an index makes
abbrev pub entry_of : Line → Indexed
entry_of line = record { key = key_of line.headword; shown = line.shown; start = line.offset; size = line.size }

abbrev pub no_entry : Indexed
no_entry = record { key = []; shown = []; start = 0; size = 0 }

-- the entry at a place, and an empty one where there is none
abbrev pub entry_at : List Indexed → ℕ → Indexed
entry_at entries place = slice_index_or entries place no_entry

-- the entries at these places
abbrev pub entries_at : List Indexed → List ℕ → List Indexed
entries_at entries places = map (entry_at entries) places

abbrev pub key_in : Indexed → List ℕ
key_in entry = entry.key

abbrev pub keys_of : List Indexed → List (List ℕ)
keys_of entries = map key_in entries

abbrev pub indexed_shown : Indexed → List ℕ
indexed_shown entry = entry.shown

-- the row that replies have of it, where this is the text of its edition
abbrev pub row_in : List ℕ → Indexed → Row
row_in text entry = row entry.shown (take entry.size (drop entry.start text))

-- the row of a headword that is shown
abbrev pub headword_row : List ℕ → Row
headword_row shown = row shown []
