-- The strategies of RFC 2229's MATCH that this project knows, and what clients see of each.
use Rattle.std.specs.Prelude.{◌≡◌, ◌↔◌, ℕ, List, [], ◌∷◌, codes, Option, Some, find, bytes_eq, slice_get}
use Rattle.dict_match.specs.declared.strategy.Strategy.{Strategy}
use Rattle.dict_match.specs.declared.strategy.Strategy.TheVariants.{Exact, Prefix, Suffix, Substring, Word, First, Last}

-- all strategies, in the order in which SHOW STRAT lists them
abbrev pub strategies : List Strategy
strategies = Exact ∷ Prefix ∷ Suffix ∷ Substring ∷ Word ∷ First ∷ Last ∷ []

-- a strategy's name in MATCH, and the description that SHOW STRAT gives of it
pub record StrategyText : Type 0 where
  pub name : List ℕ
  pub title : List ℕ

abbrev pub strategy_text : Strategy → StrategyText
strategy_text Exact = record { name = codes "exact"; title = codes "Equal keys" }
strategy_text Prefix = record { name = codes "prefix"; title = codes "Key begins with the query" }
strategy_text Suffix = record { name = codes "suffix"; title = codes "Key ends with the query" }
strategy_text Substring = record { name = codes "substring"; title = codes "Key contains the query" }
strategy_text Word = record { name = codes "word"; title = codes "Words of the query stand together in the key" }
strategy_text First = record { name = codes "first"; title = codes "Key begins with the words of the query" }
strategy_text Last = record { name = codes "last"; title = codes "Key ends with the words of the query" }

unfoldable pub strategy_name : Strategy → List ℕ
strategy_name strategy = (strategy_text strategy).name

unfoldable pub strategy_title : Strategy → List ℕ
strategy_title strategy = (strategy_text strategy).title

-- the strategy that has this name
abbrev pub strategy_named : List ℕ → Option Strategy
strategy_named name = find (λ strategy. bytes_eq name (strategy_name strategy)) strategies

-- each strategy stands in the list, at one place
abbrev pub AreEachOnce : List Strategy → Type 0
AreEachOnce list = (strategy : Strategy) → (place : ℕ) × ((n : ℕ) → (slice_get list n ≡ Some strategy) ↔ (n ≡ place))
