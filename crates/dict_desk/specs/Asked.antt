-- Which databases and which strategy a command asks, and what it gets of them. RFC 2229, sections 3.2 and 3.3.
use Rattle.std.specs.Prelude.{ℕ, ◌==◌, List, [], ◌∷◌, length, map, filter, flat_map, find, codes, if◌then◌else◌, Option, Some, option_map}
use Rattle.std.specs.Str.{bytes_eq}
use Rattle.dict_match.specs.Key.{key_of}
use Rattle.dict_match.specs.StrategyText.{strategy_named}
use Rattle.dict_match.specs.declared.strategy.Strategy.{Strategy}
use Rattle.dict_match.specs.declared.strategy.Strategy.TheVariants.{Exact, Prefix}
use Rattle.dict_index.specs.Edition.{Edition, Entry}
use Rattle.dict_catalogue.specs.Items.{Item, regular, virtual, is_named}
use Rattle.dict_catalogue.specs.Steps.{Catalogue}
use Rattle.dict_index.specs.Found.{found, shown_of, headwords}

-- a regular item as it is asked: its name, and its current edition
pub record Database : Type 0 where
  pub name : List ℕ
  pub edition : Edition

-- the regular items, in their order
abbrev pub databases : List (Item Edition) → List Database
databases [] = []
databases (regular name current former ∷ items) = record { name = name; edition = current.content } ∷ databases items
databases (virtual name title members ∷ items) = databases items

-- of these databases the first in which an entry is found, alone, or none
abbrev pub first_finding : Strategy → List ℕ → List Database → List Database
first_finding strategy query [] = []
first_finding strategy query (database ∷ others) =
    if length (found strategy query database.edition) == 0 then first_finding strategy query others else database ∷ []

-- the regular item of this name
abbrev pub databases_named : List (Item Edition) → List ℕ → List Database
databases_named items name = filter (λ database. bytes_eq database.name name) (databases items)

-- a regular item is asked alone; a virtual one asks its members, in their order
abbrev pub databases_of : List (Item Edition) → Item Edition → List Database
databases_of items (regular name current former) = record { name = name; edition = current.content } ∷ []
databases_of items (virtual name title members) = flat_map (databases_named items) members

-- the databases that are asked by this word: a star asks all regular items in their order, an exclamation mark the
-- first of them in which an entry is found, a name its item. Another word names no database
unfoldable pub searched : Catalogue → List ℕ → Strategy → List ℕ → Option (List Database)
searched catalogue word strategy query =
    if bytes_eq word (codes "*") then Some (databases catalogue.items)
    else if bytes_eq word (codes "!") then Some (first_finding strategy query (databases catalogue.items))
    else option_map (databases_of catalogue.items) (find (is_named word) catalogue.items)

-- what is shown of an entry that is found, and its text, with the name and the title of the database in which it stands
pub record Definition : Type 0 where
  pub name : List ℕ
  pub title : List ℕ
  pub shown : List ℕ
  pub body : List ℕ

abbrev pub definitions_in : List ℕ → Database → List Definition
definitions_in query database =
    map (λ (entry : Entry). record { name = database.name; title = database.edition.title; shown = shown_of entry; body = entry.body })
    (found Exact query database.edition)

-- what DEFINE gives: the entries found by `exact`, database by database, in each in the order of its index
abbrev pub definitions : Catalogue → List ℕ → List ℕ → Option (List Definition)
definitions catalogue word text =
    option_map (flat_map (definitions_in (key_of text))) (searched catalogue word Exact (key_of text))

-- what is shown of an entry that is found, with the name of its database
pub record Match : Type 0 where
  pub name : List ℕ
  pub shown : List ℕ

abbrev pub matches_in : Strategy → List ℕ → Database → List Match
matches_in strategy query database =
    map (λ shown. record { name = database.name; shown = shown }) (headwords (found strategy query database.edition))

-- what MATCH gives: database by database each headword shown of an entry found, once, at the place of the first of these
abbrev pub matches : Catalogue → List ℕ → Strategy → List ℕ → Option (List Match)
matches catalogue word strategy text =
    option_map (flat_map (matches_in strategy (key_of text))) (searched catalogue word strategy (key_of text))

-- the strategy that MATCH asks for by this name: a period is the server's choice, which is prefix
unfoldable pub strategy_of : List ℕ → Option Strategy
strategy_of name = if bytes_eq name (codes ".") then Some Prefix else strategy_named name
