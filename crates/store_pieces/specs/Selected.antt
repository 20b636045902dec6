-- Which keys a query looks at: the selections as tests of a key.
use Rattle.std.specs.Prelude.{ℕ, Bool, true, false, ◌&&◌, ◌==◌, List, length, reverse}
use Rattle.std.specs.List.{list_any}
use Rattle.std.specs.Str.{bytes_eq}
use Rattle.dict_match.specs.Words.{words_between_blanks}
use Rattle.dict_match.specs.declared.strategy.Strategy.{Strategy}
use Rattle.dict_match.specs.declared.strategy.Strategy.TheVariants.{Exact, Prefix, Suffix, Substring, Word, First, Last}
use Rattle.store_derived.specs.Derived.{grams}
use Rattle.store_derived.specs.Search.{Rows, NoRows, AllRows, WithKey, BetweenKeys, BetweenReversed, WithGrams, WithWord}
use Rattle.store_places.specs.Orders.{is_between}

-- the piece is one of those of a key: of its words, or of its runs of three octets
abbrev pub has_piece : (List ℕ → List (List ℕ)) → List ℕ → List ℕ → Bool
has_piece pieces_in piece key = list_any (bytes_eq piece) (pieces_in key)

abbrev pub has_word : List ℕ → List ℕ → Bool
has_word = has_piece words_between_blanks

abbrev pub has_gram : List ℕ → List ℕ → Bool
has_gram = has_piece grams

-- the entry with this key is selected
abbrev pub is_selected : Rows → List ℕ → Bool
is_selected NoRows key = false
is_selected AllRows key = true
is_selected (WithKey q) key = bytes_eq key q
is_selected (BetweenKeys low high) key = is_between low high key
is_selected (BetweenReversed low high) key = is_between low high (reverse key)
is_selected (WithGrams a b) key = has_gram a key && has_gram b key
is_selected (WithWord word) key = has_word word key

-- All that a query looks at is found: so by a whole key, its beginning or its end, and by a word that is all of the query.
abbrev pub finds_all : Strategy → List ℕ → Bool
finds_all Exact query = true
finds_all Prefix query = true
finds_all Suffix query = true
finds_all Substring query = false
finds_all Word query = length (words_between_blanks query) == 1
finds_all First query = false
finds_all Last query = false
