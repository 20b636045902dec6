-- Which entries of an edition a query looks at, told by what the tables have of each entry's key.
use Rattle.std.specs.Prelude.{◌≡◌, ⊤, ℕ, Bool, true, false, List, [], ◌∷◌, ◌++◌, length, reverse, ◌==◌, IsTrue, if◌then◌else◌}
use Rattle.std.specs.Ordering.{is_le}
use Rattle.dict_match.specs.declared.strategy.Strategy.{Strategy}
use Rattle.dict_match.specs.declared.strategy.Strategy.TheVariants.{Exact, Prefix, Suffix, Substring, Word, First, Last}
use Rattle.dict_match.specs.Words.{words_between_blanks}
use Rattle.store_derived.specs.Derived.{IsWordOf, IsGramOf, octets_cmp}
use Rattle.store_derived.specs.KeptGrams.{kept_grams}
use Rattle.store_derived.specs.declared.search.Selection.{Selection}
use Rattle.store_derived.specs.declared.search.Selection.TheVariants as typed

pub data Rows : Type 0 where
  NoRows : Rows
  AllRows : Rows
  WithKey : List ℕ → Rows
  BetweenKeys : List ℕ → List ℕ → Rows
  BetweenReversed : List ℕ → List ℕ → Rows
  WithGrams : List ℕ → List ℕ → Rows
  WithWord : List ℕ → Rows

-- both ends taken in
abbrev pub IsBetween : List ℕ → List ℕ → List ℕ → Type 0
IsBetween low high k = IsTrue (is_le (octets_cmp low k)) × IsTrue (is_le (octets_cmp k high))

-- the entry with this key is one of them
abbrev pub SelectsKey : Rows → List ℕ → Type 0
SelectsKey NoRows k = ⊥
SelectsKey AllRows k = ⊤
SelectsKey (WithKey q) k = k ≡ q
SelectsKey (BetweenKeys low high) k = IsBetween low high k
SelectsKey (BetweenReversed low high) k = IsBetween low high (reverse k)
SelectsKey (WithGrams a b) k = IsGramOf k a × IsGramOf k b
SelectsKey (WithWord w) k = IsWordOf k w

-- the list with octet 255 behind it, which stands in no text
abbrev pub with_last : List ℕ → List ℕ
with_last q = q ++ 255 ∷ []

-- those with the first word; a query that has no word is one of blanks
abbrev pub by_first : List (List ℕ) → Rows
by_first [] = AllRows
by_first (word ∷ words) = WithWord word

-- the last of a run and of those behind it
abbrev pub last_gram : List ℕ → List (List ℕ) → List ℕ
last_gram gram [] = gram
last_gram gram (next ∷ rest) = last_gram next rest

-- those with the first and the last of these runs, which may be one; all, where there is none
abbrev pub by_ends : List (List ℕ) → Rows
by_ends [] = AllRows
by_ends (gram ∷ rest) = WithGrams gram (last_gram gram rest)

-- those with the first and the last run of the query that are kept
abbrev pub by_grams : List ℕ → Rows
by_grams q = by_ends (kept_grams q)

abbrev pub rows_by : Strategy → List ℕ → Rows
rows_by Exact q = WithKey q
rows_by Prefix q = BetweenKeys q (with_last q)
rows_by Suffix q = BetweenReversed (reverse q) (with_last (reverse q))
rows_by Substring q = by_grams q
rows_by Word q = by_first (words_between_blanks q)
rows_by First q = by_first (words_between_blanks q)
rows_by Last q = by_first (words_between_blanks q)

-- an empty query finds nothing
abbrev pub rows_for : Strategy → List ℕ → Rows
rows_for strategy q = if length q == 0 then NoRows else rows_by strategy q

-- The entries that are looked at may be others than those that are found.
abbrev pub is_tested : Strategy → Bool
is_tested Exact = false
is_tested Prefix = false
is_tested Suffix = false
is_tested Substring = true
is_tested Word = true
is_tested First = true
is_tested Last = true

abbrev pub rows_selected : Selection → Rows
rows_selected typed.Nothing = NoRows
rows_selected typed.All = AllRows
rows_selected (typed.Key key) = WithKey key.items
rows_selected (typed.Keys low high) = BetweenKeys low.items high.items
rows_selected (typed.ReversedKeys low high) = BetweenReversed low.items high.items
rows_selected (typed.Grams first last) = WithGrams first last
rows_selected (typed.Word word) = WithWord word.items
