-- The tests that an index and a text have to pass, and the order in which they are made.
use Rattle.std.specs.Prelude.{◌≡◌, ◌≢◌, ℕ, ◌+◌, ◌≤◌, ◌==◌, ◌⊎◌, List, [], ◌∷◌, ◌++◌, length, take, count_by, false, IsTrue, IsSome, IfSome, slice_index_or}
use Rattle.std.specs.List.{AllByRecursion, AllZip}
use Rattle.std.specs.Str.{IsUtf8}
use Rattle.dict_text.specs.Characters.{is_control, has_control}
use Rattle.dict_text.specs.Lines.{text_lines}
use Rattle.dict_match.specs.Key.{reserved_key_of}
use Rattle.dict_index.specs.Limits.{most_lines, most_octets}
use Rattle.dict_index.specs.Line.{Line, IsLine, body_in, tab}
use Rattle.dict_index.specs.Reserved.{is_reserved, is_known_reserved, title_in}
use Rattle.dict_index.specs.declared.fault.EditionRefusal.{EditionRefusal}
use Rattle.dict_index.specs.declared.fault.EditionRefusal.TheVariants.{IndexNotUtf8, Columns, Number, Interval, Headword, BodyText, BodyLine, Reserved, ReservedTwice, NoTitle, BadTitle, TooManyEntries, TextTooLong, LastLine, Shown}

-- what the line says, where it says something, has the property
abbrev pub IfSays : List ℕ → (Line → Type 0) → Type 0
IfSays line P = (said : Line) → IsLine line said → P said

-- the fourth column of a line that says something, where it has one, has the property
abbrev pub IfFourth : List ℕ → (List ℕ → Type 0) → Type 0
IfFourth line P = (said : Line) (is : IsLine line said) → IfSome is.fourth P

-- what all lines say, where each says something, has the property
abbrev pub IfAllSay : List (List ℕ) → (List Line → Type 0) → Type 0
IfAllSay lines P = (all_said : List Line) → AllZip IsLine lines all_said → P all_said

-- 1 to 255 octets, no control character, and a key that isn't empty
abbrev pub IsHeadword : List ℕ → Type 0
IsHeadword headword = (1 ≤ length headword) × (length headword ≤ 255) × (has_control headword ≡ false) × (reserved_key_of headword ≢ [])

-- 1 to 255 octets, and no control character
abbrev pub IsShown : List ℕ → Type 0
IsShown shown = (1 ≤ length shown) × (length shown ≤ 255) × (has_control shown ≡ false)

-- LF, tab, or no control character
abbrev pub IsTextOctet : ℕ → Type 0
IsTextOctet octet = (octet ≡ 10) ⊎ (octet ≡ 9) ⊎ ¬ IsTrue (is_control octet)

-- UTF-8, with no control character but LF and tab
abbrev pub IsText : List ℕ → Type 0
IsText octets = IsUtf8 octets × AllByRecursion IsTextOctet octets

-- no line of a text has more than 1,021 octets
abbrev pub HasShortLines : List ℕ → Type 0
HasShortLines octets = AllByRecursion (λ line. length line ≤ 1021) (text_lines octets)

-- no line says a headword with this key
abbrev pub NoneHasKey : List (List ℕ) → List ℕ → Type 0
NoneHasKey lines key = AllByRecursion (λ line. IfSays line (λ said. reserved_key_of said.headword ≢ key)) lines

-- 1 to 200 octets, no control character
abbrev pub IsTitle : List ℕ → Type 0
IsTitle title = (1 ≤ length title) × (length title ≤ 200) × (has_control title ≡ false)

-- an index that isn't empty ends by LF
abbrev pub EndsByLineFeed : List ℕ → Type 0
EndsByLineFeed index = (index ≡ []) ⊎ ((front : List ℕ) × (index ≡ front ++ 10 ∷ []))

-- the line of the index with this number, from 0
abbrev pub line_at : List ℕ → ℕ → List ℕ
line_at index k = slice_index_or (text_lines index) k []

-- what a test asks of the files as a whole; a test of a line asks nothing of them
abbrev pub PassesWhole : EditionRefusal → List ℕ → List ℕ → Type 0
PassesWhole TextTooLong index text = length text ≤ most_octets
PassesWhole IndexNotUtf8 index text = IsUtf8 index
PassesWhole LastLine index text = EndsByLineFeed index
PassesWhole TooManyEntries index text = length (text_lines index) ≤ most_lines
PassesWhole NoTitle index text = IfAllSay (text_lines index) (λ all_said. IsSome (title_in text all_said))
PassesWhole BadTitle index text = IfAllSay (text_lines index) (λ all_said. IfSome (title_in text all_said) IsTitle)
PassesWhole _ index text = Unit {0}

-- what a test asks of a line, over this text and behind these lines; a test of the whole asks nothing of it
abbrev pub PassesLine : EditionRefusal → List ℕ → List (List ℕ) → List ℕ → Type 0
PassesLine Columns text before line = (count_by (λ octet. octet == tab) line ≡ 2) ⊎ (count_by (λ octet. octet == tab) line ≡ 3)
PassesLine Number text before line = (said : Line) × IsLine line said
PassesLine Interval text before line = IfSays line (λ said. said.offset + said.size ≤ length text)
PassesLine Headword text before line = IfSays line (λ said. IsHeadword said.headword)
PassesLine Shown text before line = IfFourth line IsShown
PassesLine BodyText text before line = IfSays line (λ said. IsText (body_in text said))
PassesLine BodyLine text before line = IfSays line (λ said. HasShortLines (body_in text said))
PassesLine Reserved text before line = IfSays line (λ said. IsTrue (is_reserved (reserved_key_of said.headword)) → IsTrue (is_known_reserved (reserved_key_of said.headword)))
PassesLine ReservedTwice text before line = IfSays line (λ said. IsTrue (is_known_reserved (reserved_key_of said.headword)) → NoneHasKey before (reserved_key_of said.headword))
PassesLine _ text before line = Unit {0}

-- the index and the text pass the test; a test of a line is made at the line with this number, from 0
abbrev pub Passes : EditionRefusal → List ℕ → List ℕ → ℕ → Type 0
Passes refusal index text k = PassesWhole refusal index text × PassesLine refusal text (take k (text_lines index)) (line_at index k)
