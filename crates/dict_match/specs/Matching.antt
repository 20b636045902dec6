-- Which keys a query finds, by strategy (RFC 2229, section 3.3, with this project's choice of strategies).
use Rattle.std.specs.Prelude.{◌≡◌, ◌≢◌, ℕ, Bool, List, [], ◌∷◌, ◌++◌, length, not, ◌&&◌, ◌||◌, ◌==◌, nat_eq}
use Rattle.std.specs.List.{starts_with, ends_with}
use Rattle.std.specs.Str.{bytes_eq}
use Rattle.dict_match.specs.Words.{words_between_blanks}
use Rattle.dict_match.specs.declared.strategy.Strategy.{Strategy}
use Rattle.dict_match.specs.declared.strategy.Strategy.TheVariants.{Exact, Prefix, Suffix, Substring, Word, First, Last}

-- q stands in k
abbrev pub StandsIn : List ℕ → List ℕ → Type 0
StandsIn q k = (a : List ℕ) × (b : List ℕ) × (k ≡ a ++ q ++ b)

-- the words of q are a run among these words; they are the first of them; they are the last of them
abbrev pub HasWords : List (List ℕ) → List (List ℕ) → Type 0
HasWords words run = (a : List (List ℕ)) × (b : List (List ℕ)) × (words ≡ a ++ run ++ b)

abbrev pub BeginsWithWords : List (List ℕ) → List (List ℕ) → Type 0
BeginsWithWords words run = (b : List (List ℕ)) × (words ≡ run ++ b)

abbrev pub EndsWithWords : List (List ℕ) → List (List ℕ) → Type 0
EndsWithWords words run = (a : List (List ℕ)) × (words ≡ a ++ run)

-- the entry's key k is as the strategy wants it, for the query's key q
abbrev pub Fits : Strategy → List ℕ → List ℕ → Type 0
Fits Exact q k = k ≡ q
Fits Prefix q k = (b : List ℕ) × (k ≡ q ++ b)
Fits Suffix q k = (a : List ℕ) × (k ≡ a ++ q)
Fits Substring q k = StandsIn q k
Fits Word q k = HasWords (words_between_blanks k) (words_between_blanks q)
Fits First q k = BeginsWithWords (words_between_blanks k) (words_between_blanks q)
Fits Last q k = EndsWithWords (words_between_blanks k) (words_between_blanks q)

-- an empty query finds nothing
abbrev pub Hits : Strategy → List ℕ → List ℕ → Type 0
Hits strategy q k = (q ≢ []) × Fits strategy q k

-- the same as tests: run stands in the list where some tail of it begins with run, whose elements eq tells apart
abbrev pub has_run : {X : Type 0} → (X → X → Bool) → List X → List X → Bool
has_run eq [] run = starts_with eq [] run
has_run eq (x ∷ xs) run = starts_with eq (x ∷ xs) run || has_run eq xs run

abbrev pub is_fit : Strategy → List ℕ → List ℕ → Bool
is_fit Exact q k = bytes_eq k q
is_fit Prefix q k = starts_with nat_eq k q
is_fit Suffix q k = ends_with nat_eq k q
is_fit Substring q k = has_run nat_eq k q
is_fit Word q k = has_run bytes_eq (words_between_blanks k) (words_between_blanks q)
is_fit First q k = starts_with bytes_eq (words_between_blanks k) (words_between_blanks q)
is_fit Last q k = ends_with bytes_eq (words_between_blanks k) (words_between_blanks q)

unfoldable pub is_hit : Strategy → List ℕ → List ℕ → Bool
is_hit strategy q k = not (length q == 0) && is_fit strategy q k
