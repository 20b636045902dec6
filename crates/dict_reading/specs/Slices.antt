-- How much a slice is.
use Rattle.std.specs.Prelude.{◌≡◌, ◌+◌, ◌-◌, ◌≤◌, ◌<◌, ℕ, List, [], ◌∷◌, length, take, drop}
use Rattle.std.specs.List.{AllZip}
use Rattle.dict_text.specs.Lines.{text_lines}
use Rattle.dict_index.specs.Line.{Line, IsLine}

-- so many lines of an index from one on
abbrev pub lines_from : List ℕ → ℕ → ℕ → List (List ℕ)
lines_from index from count = take count (drop from (text_lines index))

-- the octets of lines, each with its LF, and of the bodies that they say
abbrev pub octets_of_lines : List (List ℕ) → List Line → ℕ
octets_of_lines [] said = 0
octets_of_lines (line ∷ lines) [] = 0
octets_of_lines (line ∷ lines) (s ∷ said) = length line + 1 + s.size + octets_of_lines lines said

-- so many lines from one on are 4,096 at most, and all but the last come to less than 1,048,576 octets with their bodies
pub record IsSlice (index : List ℕ) (from count : ℕ) : Type 0 where
  pub many : count ≤ 4096
  pub short : (said : List Line) → AllZip IsLine (lines_from index from (count - 1)) said → octets_of_lines (lines_from index from (count - 1)) said < 1048576

-- what these lines say comes to so many octets
pub record ComesTo (index : List ℕ) (from count octets : ℕ) : Type 0 where
  pub said : List Line
  pub are : AllZip IsLine (lines_from index from count) said
  pub sum : octets_of_lines (lines_from index from count) said ≡ octets
