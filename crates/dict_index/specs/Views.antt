-- What contracts see of an edition and its entries.
use Rattle.std.specs.Prelude.{◌≡◌, ℕ, ◌+◌, ◌≤◌, List, length, Option}
use Rattle.std.specs.Option.{option_map}
use Rattle.std.specs.Borrow.{Bor}
use Rattle.dict_match.specs.Key.{key_of, reserved_key_of}
use Rattle.dict_index.specs.Line.{Line, body_in}
use Rattle.dict_index.specs.declared.entry.Entry.{Entry as ReadEntry}

-- the line that an entry was read from
abbrev pub line_of : ReadEntry → Line
line_of entry = record { headword = entry.headword.now; offset = entry.offset; size = entry.size; shown = entry.shown.now }

-- the entry's body is what its interval cuts out of the text
abbrev pub HasBodyIn : List ℕ → ReadEntry → Type 0
HasBodyIn text entry = entry.body.now ≡ body_in text (line_of entry)

-- the entry's interval lies within the text
abbrev pub LiesIn : List ℕ → ReadEntry → Type 0
LiesIn text entry = entry.offset + entry.size ≤ length text

-- the entry's key is that of its headword
abbrev pub HasItsKey : ReadEntry → Type 0
HasItsKey entry = entry.key ≡ key_of entry.headword.now

-- the entry's key is the one by which headwords are reserved
abbrev pub HasReservedKey : ReadEntry → Type 0
HasReservedKey entry = entry.key ≡ reserved_key_of entry.headword.now

-- what a text that may be there points to
abbrev pub octets_of : Option (Bor (List ℕ)) → Option (List ℕ)
octets_of found = option_map (λ text. text.now) found
