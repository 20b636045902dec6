-- A line of a dictd index: a headword, a tab, an offset, a tab, a length. A fourth column may follow, behind one more
-- tab: the headword that is shown.
use Rattle.std.specs.Prelude.{◌≡◌, ◌≢◌, ℕ, List, [], ◌∷◌, ◌++◌, take, drop, Option, Some, None, IfSome, unwrap_or}
use Rattle.std.specs.List.{AllByRecursion}
use Rattle.dict_text.specs.Number.{Spells}

abbrev pub tab : ℕ
tab = 9

-- what a line says: a headword, the interval of the text that is its body, and the headword that is shown
pub record Line : Type 0 where
  pub headword : List ℕ
  pub offset : ℕ
  pub size : ℕ
  pub shown : List ℕ

-- a column that may follow, behind a tab
abbrev pub behind_tab : Option (List ℕ) → List ℕ
behind_tab None = []
behind_tab (Some column) = tab ∷ column

-- The line is the headword, spellings of the offset and of the length, and a fourth column where it has one, a tab
-- before each; neither the headword nor the fourth column has a tab. What is shown is the fourth column, or the headword
-- where there is none.
pub record IsLine (line : List ℕ) (said : Line) : Type 0 where
  pub offset_text : List ℕ
  pub size_text : List ℕ
  pub fourth : Option (List ℕ)
  pub whole : line ≡ said.headword ++ (tab ∷ offset_text ++ (tab ∷ size_text ++ behind_tab fourth))
  pub no_tab : AllByRecursion (λ octet. octet ≢ tab) said.headword
  pub fourth_no_tab : IfSome fourth (AllByRecursion (λ octet. octet ≢ tab))
  pub offset : Spells offset_text said.offset
  pub size : Spells size_text said.size
  pub shown : said.shown ≡ unwrap_or fourth said.headword

-- the octets of the text that a line's interval cuts out
abbrev pub body_in : List ℕ → Line → List ℕ
body_in text said = take said.size (drop said.offset text)
