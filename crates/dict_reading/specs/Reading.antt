-- How far an edition was read.
use Rattle.std.specs.Prelude.{◌≡◌, ◌≤◌, ℕ, List, length, take, drop}
use Rattle.std.specs.Str.{IsUtf8}
use Rattle.dict_text.specs.Lines.{text_lines}
use Rattle.dict_index.specs.Refused.{PassLines, PassWholes}
use Rattle.dict_reading.specs.Gathered.{HasGatheredPlaces}
use Rattle.dict_reading.specs.declared.reader.EditionReader.{EditionReader}

-- the files pass the tests of the whole; so many lines of this index were read over this text, and each passes its tests;
-- they end at this place, and what they say is gathered
pub record HasRead (index text : List ℕ) (reader : EditionReader) : Type 0 where
  pub wholes : PassWholes index text
  pub passes : PassLines index text reader.number
  pub few : reader.number ≤ length (text_lines index)
  pub within : reader.place ≤ length index
  pub rest : text_lines (drop reader.place index) ≡ drop reader.number (text_lines index)
  pub utf8 : IsUtf8 (drop reader.place index)
  pub gathers : HasGatheredPlaces index text (take reader.number (text_lines index)) reader.gathered

-- no line is left
abbrev pub IsAtEnd : List ℕ → EditionReader → Type 0
IsAtEnd index reader = reader.number ≡ length (text_lines index)
