-- How lines, texts and quoted words are sent. RFC 2229, sections 2.2 and 2.4.3.
use Rattle.std.specs.Prelude.{ℕ, List, ◌∷◌, [], ◌++◌, slice_index, ◌==◌, if◌then◌else◌, ◌||◌, Bool}
use Rattle.std.specs.List.{flat_map}

-- what ends a line: CR LF
abbrev pub crlf : List ℕ
crlf = 13 ∷ 10 ∷ []

-- a period at the front of a text line is doubled
abbrev pub stuffed : List ℕ → List ℕ
stuffed line = if slice_index line 0 == 46 then 46 ∷ line else line

-- a text line as it is sent
unfoldable pub sent_line : List ℕ → List ℕ
sent_line line = stuffed line ++ crlf

-- a text as it is sent: each of its lines, and then a line of one period
abbrev pub block : List (List ℕ) → List ℕ
block lines = flat_map sent_line lines ++ 46 ∷ crlf

-- a double quote sign, or a backslash
abbrev pub needs_backslash : ℕ → Bool
needs_backslash octet = (octet == 34) || (octet == 92)

-- a backslash is put before each of these
abbrev pub escaped : ℕ → List ℕ
escaped octet = if needs_backslash octet then 92 ∷ octet ∷ [] else octet ∷ []

-- a text between quote signs
abbrev pub quoted : List ℕ → List ℕ
quoted text = 34 ∷ flat_map escaped text ++ 34 ∷ []
