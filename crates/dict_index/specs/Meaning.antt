-- What a pair of files in dictd's form means: an edition, or the first test that it doesn't pass.
use Rattle.std.specs.Prelude.{◌≡◌, ℕ, ◌+◌, ◌<◌, ◌⊎◌, not, List, length, filter, count_by, ◌==◌, Option, Some, None}
use Rattle.std.specs.List.{AllByRecursion, AllZip}
use Rattle.dict_text.specs.Lines.{text_lines}
use Rattle.dict_match.specs.Key.{reserved_key_of}
use Rattle.dict_index.specs.Line.{Line, IsLine, tab}
use Rattle.dict_index.specs.Reserved.{is_reserved, title_in, info_in}
use Rattle.dict_index.specs.Edition.{Edition, ReadEdition, edition_of}
use Rattle.dict_index.specs.Tests.{Passes}
use Rattle.dict_index.specs.Order.{IsOfLine, Precedes}
use Rattle.dict_index.specs.declared.fault.EditionRefusal.{EditionRefusal}

-- line k is there, from 0, where the test is one of a line
abbrev pub IsTestMade : EditionRefusal → List ℕ → ℕ → Type 0
IsTestMade refusal index k = IsOfLine refusal → k < length (text_lines index)

-- the number of the line that is told with a refusal, from 1: a test of the whole has none
abbrev pub TellsLine : EditionRefusal → ℕ → Option ℕ → Type 0
TellsLine refusal k line = (IsOfLine refusal × (line ≡ Some (k + 1))) ⊎ (¬ IsOfLine refusal × (line ≡ None))

-- the lines of the index that make entries, and what they say
abbrev pub entry_lines : List Line → List Line
entry_lines lines = filter (λ said. not (is_reserved (reserved_key_of said.headword))) lines

-- no test fails, and the reading is what the lines say: its lines are those of the index in order, without the
-- reserved ones
pub record IsReadEdition (index text : List ℕ) (reading : ReadEdition) : Type 0 where
  pub passes : (refusal : EditionRefusal) (k : ℕ) → IsTestMade refusal index k → Passes refusal index text k
  pub lines : List Line
  pub said : AllZip IsLine (text_lines index) lines
  pub entries : reading.lines ≡ entry_lines lines
  pub title : title_in text lines ≡ Some reading.title
  pub info : reading.info ≡ info_in text lines
  pub whole : reading.text ≡ text

-- no line of the index has a fourth column
abbrev pub HaveThreeColumns : List ℕ → Type 0
HaveThreeColumns index = AllByRecursion (λ line. count_by (λ octet. octet == tab) line ≡ 2) (text_lines index)

-- the edition that the index and the text say
abbrev pub IsEdition : List ℕ → List ℕ → Edition → Type 0
IsEdition index text edition = (reading : ReadEdition) × IsReadEdition index text reading × (edition ≡ edition_of reading)

-- what some index says of the text that the reading has
abbrev pub IsRead : ReadEdition → Type 0
IsRead reading = (index : List ℕ) × IsReadEdition index reading.text reading

-- the test fails, at this line where it is one of a line, and each test before it passes
pub record IsFault (index text : List ℕ) (refusal : EditionRefusal) (line : Option ℕ) : Type 0 where
  pub at : ℕ
  pub tells : TellsLine refusal at line
  pub made : IsTestMade refusal index at
  pub fails : ¬ Passes refusal index text at
  pub earlier : (f : EditionRefusal) (j : ℕ) → Precedes f j refusal at → IsTestMade f index j → Passes f index text j
