-- What is derived of a key, beside its octets in reverse order: its words and its grams.
use Rattle.std.specs.Prelude.{◌≡◌, ℕ, List, [], ◌∷◌, ◌++◌, length}
use Rattle.std.specs.List.{Contains}
use Rattle.std.specs.Ordering.{nat_cmp}
use Rattle.std.specs.declared.cmp.Ordering.{Ordering}
use Rattle.std.specs.Cmp.Lexicographic.{slice_cmp}
use Rattle.dict_match.specs.Words.{words_between_blanks}
use Rattle.dict_match.specs.Matching.{StandsIn}

-- a word of the key
abbrev pub IsWordOf : List ℕ → List ℕ → Type 0
IsWordOf k w = Contains (words_between_blanks k) w

-- three octets that follow one another in the key
abbrev pub IsGramOf : List ℕ → List ℕ → Type 0
IsGramOf k g = (length g ≡ 3) × StandsIn g k

-- octet by octet, and a list before what extends it: the order of blobs in the tables
abbrev pub octets_cmp : List ℕ → List ℕ → Ordering
octets_cmp = slice_cmp nat_cmp

-- ---- as lists

-- the runs of three octets, in the order in which they stand
abbrev pub first_gram : List ℕ → List (List ℕ)
first_gram (x ∷ y ∷ z ∷ rest) = (x ∷ y ∷ z ∷ []) ∷ []
first_gram _ = []

abbrev pub grams : List ℕ → List (List ℕ)
grams [] = []
grams (x ∷ xs) = first_gram (x ∷ xs) ++ grams xs
