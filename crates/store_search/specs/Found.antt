-- What a query's key finds among the entries of an edition. RFC 2229, sections 3.2 and 3.3.
use Rattle.std.specs.Prelude.{ℕ, List, map, filter, length}
use Rattle.dict_match.specs.Matching.{is_hit}
use Rattle.dict_match.specs.declared.strategy.Strategy.{Strategy}
use Rattle.store_derived.specs.Search.{rows_for}
use Rattle.dict_index.specs.Found.{distinct}
use Rattle.store_search.specs.Entries.{Indexed, keys_of, indexed_shown}
use Rattle.store_places.specs.Places.{places_where}
use Rattle.store_pieces.specs.Selected.{is_selected}

-- the entries found, in their order, and their places
abbrev pub found_entries : Strategy → List ℕ → List Indexed → List Indexed
found_entries strategy query entries = filter (λ (entry : Indexed). is_hit strategy query entry.key) entries

abbrev pub found_places : Strategy → List ℕ → List Indexed → List ℕ
found_places strategy query entries = places_where (is_hit strategy query) (keys_of entries)

-- the headwords shown of them, each once, where it stands first
abbrev pub found_headwords : Strategy → List ℕ → List Indexed → List (List ℕ)
found_headwords strategy query entries = distinct (map indexed_shown (found_entries strategy query entries))

-- how many entries are looked at for it
abbrev pub count_selected : Strategy → List ℕ → List Indexed → ℕ
count_selected strategy query entries = length (filter (λ (entry : Indexed). is_selected (rows_for strategy query) entry.key) entries)
