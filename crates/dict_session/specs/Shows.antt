-- The answers to SHOW, STATUS and HELP. RFC 2229, sections 3.5, 3.7 and 3.8.
use Rattle.std.specs.Prelude.{ℕ, List, ◌++◌, ◌==◌, length, find, if◌then◌else◌, Option, Some, None}
use Rattle.std.specs.List.{flat_map}
use Rattle.dict_match.specs.StrategyText.{strategy_name, strategy_title, strategies}
use Rattle.dict_match.specs.declared.strategy.Strategy.{Strategy}
use Rattle.dict_index.specs.Edition.{Edition}
use Rattle.dict_catalogue.specs.Items.{Item, regular, virtual, name_of, is_named}
use Rattle.dict_catalogue.specs.Steps.{Catalogue}
use Rattle.dict_desk.specs.Asked.{Database, databases_of}
use Rattle.dict_proto.specs.Replies.{database_count_octets, strategy_count_octets, list_line_octets, list_end_octets, info_heading_octets, info_text_octets, help_octets, server_information_octets, status_octets}
use Rattle.dict_proto.specs.Replies.{done_octets, invalid_database_octets, no_databases_octets}

-- a database's title is its current edition's
abbrev pub title_of_item : Item Edition → List ℕ
title_of_item (regular name current former) = current.content.title
title_of_item (virtual name title members) = title

abbrev pub item_line : Item Edition → List ℕ
item_line item = list_line_octets (name_of item) (title_of_item item)

-- the answer to SHOW DB where these items stand
abbrev pub items_answer : List (Item Edition) → List ℕ
items_answer items =
    if length items == 0 then no_databases_octets
    else database_count_octets (length items) ++ (flat_map item_line items ++ (list_end_octets ++ done_octets))

-- the answer to SHOW DB: all items, virtual ones too, in their order
unfoldable pub databases_answer : Catalogue → List ℕ
databases_answer catalogue = items_answer catalogue.items

abbrev pub strategy_line : Strategy → List ℕ
strategy_line strategy = list_line_octets (strategy_name strategy) (strategy_title strategy)

-- the answer to SHOW STRAT: each strategy, by its name and description
unfoldable pub strategies_answer : List ℕ
strategies_answer = strategy_count_octets (length strategies) ++ (flat_map strategy_line strategies ++ (list_end_octets ++ done_octets))

-- the answer to SHOW SERVER at a host: how many items there are
unfoldable pub server_answer : Catalogue → List ℕ → List ℕ
server_answer catalogue host = server_information_octets host (length catalogue.items) ++ done_octets

abbrev pub database_line : Database → List ℕ
database_line database = list_line_octets database.name database.edition.title

-- what an item says of itself: a database what its current edition says, a virtual one its members, in their order
abbrev pub info_of : List (Item Edition) → Item Edition → List ℕ
info_of items (regular name current former) = info_text_octets current.content.info
info_of items (virtual name title members) = flat_map database_line (databases_of items (virtual name title members)) ++ list_end_octets

-- the answer to SHOW INFO where the name is this item's, or no item's
abbrev pub info_found : List (Item Edition) → Option (Item Edition) → List ℕ
info_found items None = invalid_database_octets
info_found items (Some item) = info_heading_octets ++ (info_of items item ++ done_octets)

-- the answer to SHOW INFO with a name
unfoldable pub info_answer : Catalogue → List ℕ → List ℕ
info_answer catalogue name = info_found catalogue.items (find (is_named name) catalogue.items)

-- the answer to STATUS: how many items there are
unfoldable pub status_answer : Catalogue → List ℕ
status_answer catalogue = status_octets (length catalogue.items)

-- the answer to HELP
unfoldable pub help_answer : List ℕ
help_answer = help_octets ++ done_octets
