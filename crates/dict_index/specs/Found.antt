-- What a query finds in an edition, and the rows that are shown of it. RFC 2229, sections 3.2 and 3.3.
use Rattle.std.specs.Prelude.{ℕ, Bool, not, List, [], ◌∷◌, map, filter}
use Rattle.std.specs.Str.{bytes_eq}
use Rattle.dict_match.specs.Key.{key_of}
use Rattle.dict_match.specs.Matching.{is_hit}
use Rattle.dict_match.specs.declared.strategy.Strategy.{Strategy}
use Rattle.dict_index.specs.Edition.{Edition, Entry}

-- a query's key finds the key of this headword
abbrev pub is_headword_found : Strategy → List ℕ → List ℕ → Bool
is_headword_found strategy query headword = is_hit strategy query (key_of headword)

abbrev pub is_found : Strategy → List ℕ → Entry → Bool
is_found strategy query entry = is_headword_found strategy query entry.headword

-- the entries whose keys a query's key finds by a strategy, in the order of the index
abbrev pub found : Strategy → List ℕ → Edition → List Entry
found strategy query edition = filter (is_found strategy query) edition.entries

-- each of these texts once, where it stands first: the first text, and then those of the others that differ from it
abbrev pub distinct : List (List ℕ) → List (List ℕ)
distinct [] = []
distinct (text ∷ texts) = text ∷ filter (λ other. not (bytes_eq other text)) (distinct texts)

-- what replies show of an entry
abbrev pub shown_of : Entry → List ℕ
shown_of entry = entry.shown

-- the headwords that replies show of these entries, each once, where it stands first
abbrev pub headwords : List Entry → List (List ℕ)
headwords entries = distinct (map shown_of entries)

-- a row: what is shown, and a text
pub record Row : Type 0 where
  pub shown : List ℕ
  pub text : List ℕ

abbrev pub row : List ℕ → List ℕ → Row
row shown text = record { shown = shown; text = text }

-- the row of an entry: what is shown of it, and its text
abbrev pub row_of : Entry → Row
row_of entry = row (shown_of entry) entry.body

-- the entries found, each as its row, in the order of the index
abbrev pub found_rows : Strategy → List ℕ → Edition → List Row
found_rows strategy query edition = map row_of (found strategy query edition)

-- the headwords shown of the entries found, each once, with the empty text
abbrev pub headword_rows : Strategy → List ℕ → Edition → List Row
headword_rows strategy query edition = map (λ shown. row shown []) (headwords (found strategy query edition))

-- what the edition's database says of itself, where nothing is shown
abbrev pub info_rows : Edition → List Row
info_rows edition = row [] edition.info ∷ []
