-- What the columns of a line say.
use Rattle.std.specs.Prelude.{ℕ, List, unwrap_or}
use Rattle.dict_text.specs.Number.{Spells}
use Rattle.dict_index.specs.Cuts.{AreColumns}
use Rattle.dict_index.specs.Line.{Line}
use Rattle.dict_index.specs.Views.{octets_of}
use Rattle.dict_reading.specs.declared.columns.Said.{Said}

-- the line has this headword, columns that spell these numbers, and this fourth column, if any
pub record AreSaidBy (line : List ℕ) (said : Said) : Type 0 where
  pub offset_text : List ℕ
  pub size_text : List ℕ
  pub are : AreColumns line said.headword.now offset_text size_text (octets_of said.fourth)
  pub offset : Spells offset_text said.offset
  pub size : Spells size_text said.size

-- what the line says so
abbrev pub line_said : Said → Line
line_said said = record { headword = said.headword.now; offset = said.offset; size = said.size; shown = unwrap_or (octets_of said.fourth) said.headword.now }
