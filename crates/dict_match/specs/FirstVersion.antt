-- The first version of folding as its rule was written: first whatever of ASCII is no letter, digit or blank is taken
-- away, and then the rest is put into lower case.
use Rattle.std.specs.Prelude.{ℕ, List, length, map, filter, ◌==◌, if◌then◌else◌}
use Rattle.std.specs.Char.{to_ascii_lowercase}
use Rattle.std.specs.List.{join_with_byte}
use Rattle.std.specs.Str.{chars, encode_utf8_all}
use Rattle.dict_text.specs.Blanks.{without_blanks_at_ends}
use Rattle.dict_match.specs.Words.{words_between_blanks}
use Rattle.dict_match.specs.Key.{is_kept_first}

-- the characters that are kept, in lower case
abbrev pub kept_in_lower_case : List ℕ → List ℕ
kept_in_lower_case cs = map to_ascii_lowercase (filter is_kept_first cs)

-- the words of these, joined by one space
abbrev pub ascii_folded : List ℕ → List ℕ
ascii_folded cs = join_with_byte 32 (words_between_blanks (kept_in_lower_case cs))

-- the characters of the key of a text of these characters: what is folded, or, where that is nothing, the text
-- without blanks at its ends
abbrev pub key_chars : List ℕ → List ℕ
key_chars cs = if length (ascii_folded cs) == 0 then without_blanks_at_ends cs else ascii_folded cs

-- the key of a text
unfoldable pub first_key_of : List ℕ → List ℕ
first_key_of text = encode_utf8_all (key_chars (chars text))
