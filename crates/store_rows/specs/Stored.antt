-- A line of an index as it is stored, and an index of such lines.
use Rattle.std.specs.Prelude.{ℕ, ◌^◌, ◌<◌, List, [], ◌∷◌, ◌++◌, flat_map, bytes_eq, Option, Some, None, if◌then◌else◌}
use Rattle.std.specs.Str.{IsUtf8}
use Rattle.dict_index.specs.Cuts.{HasNo}
use Rattle.dict_index.specs.Line.{Line, behind_tab, tab}
use Rattle.store_rows.specs.Spelling.{spelling}

abbrev pub newline : ℕ
newline = 10

-- what is shown, where that is another text than the headword
abbrev pub fourth_column : (headword shown : List ℕ) → Option (List ℕ)
fourth_column headword shown = if bytes_eq shown headword then None else Some shown

-- The headword, where its body starts, and how many octets it has, a tab before each number; and behind one more tab what
-- is shown, where that is another text than the headword.
unfoldable pub stored_line : Line → List ℕ
stored_line said = said.headword ++ (tab ∷ spelling said.offset ++ (tab ∷ spelling said.size ++ behind_tab (fourth_column said.headword said.shown)))

-- UTF-8 without a tab and without LF
pub record IsColumn (text : List ℕ) : Type 0 where
  pub utf8 : IsUtf8 text
  pub no_tab : HasNo tab text
  pub no_newline : HasNo newline text

-- what a stored line can say: both texts are columns, and both numbers have a spelling
pub record IsStorable (said : Line) : Type 0 where
  pub headword : IsColumn said.headword
  pub shown : IsColumn said.shown
  pub offset : said.offset < 64 ^ 6
  pub size : said.size < 64 ^ 6

-- each line and its LF
abbrev pub stored_index : List Line → List ℕ
stored_index lines = flat_map (λ said. stored_line said ++ newline ∷ []) lines

abbrev pub saying : List ℕ → ℕ → ℕ → List ℕ → Line
saying headword offset size shown = record { headword = headword; offset = offset; size = size; shown = shown }
