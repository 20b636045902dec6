-- The reserved entries of a dictd database, by the key of their headwords, and what they tell of it.
use Rattle.std.specs.Prelude.{ℕ, ◌+◌, Bool, ◌||◌, nat_eq, List, [], ◌∷◌, length, drop, codes, Option, slice_get, slice_index_or, find, option_and_then, if◌then◌else◌}
use Rattle.std.specs.List.{starts_with, list_any}
use Rattle.std.specs.Option.{option_map, option_map_or}
use Rattle.std.specs.Str.{bytes_eq}
use Rattle.dict_text.specs.Lines.{text_lines}
use Rattle.dict_text.specs.Blanks.{without_blanks_at_ends}
use Rattle.dict_match.specs.Key.{reserved_key_of}
use Rattle.dict_index.specs.Line.{Line, body_in}

abbrev pub short_key : List ℕ
short_key = codes "00databaseshort"

abbrev pub info_key : List ℕ
info_key = codes "00databaseinfo"

-- the key is reserved: it begins with 00database
abbrev pub is_reserved : List ℕ → Bool
is_reserved key = starts_with nat_eq key (codes "00database")

-- the reserved key is one of those that are known
abbrev pub is_known_reserved : List ℕ → Bool
is_known_reserved key = list_any (bytes_eq key) (short_key ∷ info_key ∷ codes "00databaseurl" ∷ codes "00databaseutf8" ∷ codes "00databasealphabet" ∷ [])
    || starts_with nat_eq key (codes "00databasedictfmt")

-- the body of the first line with this key
abbrev pub text_under : List ℕ → List ℕ → List Line → Option (List ℕ)
text_under key text lines = option_map (body_in text) (find (λ said. bytes_eq (reserved_key_of said.headword) key) lines)

-- the first line of a text, or nothing where it has none
abbrev pub first_line_of : List ℕ → List ℕ
first_line_of text = slice_index_or (text_lines text) 0 []

-- a text without its first line and the LF behind that, where that line has this key
abbrev pub without_key_line : List ℕ → List ℕ → List ℕ
without_key_line key text = if bytes_eq (reserved_key_of (first_line_of text)) key then drop (length (first_line_of text) + 1) text else text

-- the first line that remains of the short text, without blanks at its ends
abbrev pub title_from : Option (List ℕ) → Option (List ℕ)
title_from short = option_and_then (λ text. option_map without_blanks_at_ends (slice_get (text_lines (without_key_line short_key text)) 0)) short

abbrev pub title_in : List ℕ → List Line → Option (List ℕ)
title_in text lines = title_from (text_under short_key text lines)

-- what remains of the info text, or the empty text where there is none
abbrev pub info_from : Option (List ℕ) → List ℕ
info_from info = option_map_or (without_key_line info_key) info []

abbrev pub info_in : List ℕ → List Line → List ℕ
info_in text lines = info_from (text_under info_key text lines)
