-- What a query gives, place by place, as the code goes through them.
use Rattle.std.specs.Prelude.{◌≡◌, ℕ, Bool, true, false, not, ◌==◌, filter, length, List, [], ◌∷◌, ◌++◌, if◌then◌else◌, Option, Some, None, slice_get}
use Rattle.std.specs.List.{flat_map}
use Rattle.dict_index.specs.Edition.{Edition}
use Rattle.dict_catalogue.specs.Items.{Item, regular, virtual, name_of}
use Rattle.dict_catalogue.specs.Views.{title_of}
use Rattle.dict_catalogue.specs.WellFormed.{total}
use Rattle.dict_index.specs.Found.{Row}
use Rattle.dict_desk.specs.Shown.{rows_given, count_of}
use Rattle.dict_desk.specs.Asked.{Database}
use Rattle.dict_desk.specs.declared.lookup.What.{What}
use Rattle.dict_desk.specs.declared.lookup.What.TheVariants.{Entries, Headwords}
use Rattle.dict_proto.specs.Replies.{definition_octets, list_line_octets, list_end_octets, info_heading_octets, info_text_octets, done_octets, no_match_octets, no_databases_octets, database_count_octets}
pub use Rattle.dict_session.specs.Answers.{count_octets}
use Rattle.dict_session.specs.Places.{is_regular_named}
use Rattle.dict_session.specs.declared.query.Query.{Query}
use Rattle.dict_session.specs.declared.found.CountedRows.{CountedRows}

-- a row of the database with this name and title: a definition, or a line of a list
abbrev pub row_octets : What → List ℕ → List ℕ → Row → List ℕ
row_octets Entries name title row = definition_octets row.shown name title row.text
row_octets Headwords name title row = list_line_octets name row.shown

-- what a query gives of a database, and how many rows these are
abbrev pub octets_in : Query → Database → List ℕ
octets_in query database = flat_map (row_octets query.what database.name database.edition.title) (rows_given query.what query.strategy query.key database.edition)

abbrev pub found_count : Query → Database → ℕ
found_count query database = count_of query.what query.strategy query.key database.edition

-- the database at a place, if a regular item stands there
abbrev pub regular_as : Option (Item Edition) → List Database
regular_as None = []
regular_as (Some (regular name current former)) = record { name = name; edition = current.content } ∷ []
regular_as (Some (virtual name title members)) = []

abbrev pub at_place : List (Item Edition) → ℕ → List Database
at_place items place = regular_as (slice_get items place)

abbrev pub octets_at_place : Query → List (Item Edition) → ℕ → List ℕ
octets_at_place query items place = flat_map (octets_in query) (at_place items place)

abbrev pub count_at : Query → List (Item Edition) → ℕ → ℕ
count_at query items place = total (found_count query) (at_place items place)

-- the first place with a count, alone, or none
abbrev pub first_counted : (ℕ → ℕ) → List ℕ → List ℕ
first_counted count [] = []
first_counted count (place ∷ places) = if count place == 0 then first_counted count places else place ∷ []

-- the places in which the rows of an answer stand
abbrev pub answering : Query → List (Item Edition) → List ℕ → Bool → List ℕ
answering query items places is_first = if is_first then first_counted (count_at query items) places else places

abbrev pub end_octets : What → List ℕ
end_octets Entries = done_octets
end_octets Headwords = list_end_octets ++ done_octets

-- an answer with so many rows, from these places
abbrev pub counted_octets : Query → List (Item Edition) → List ℕ → ℕ → List ℕ
counted_octets query items places count = count_octets query.what count ++ (flat_map (octets_at_place query items) places ++ end_octets query.what)

-- the answer, where these places are asked
abbrev pub found_octets : Query → List (Item Edition) → List ℕ → List ℕ
found_octets query items places =
    if total (count_at query items) places == 0 then no_match_octets
    else counted_octets query items places (total (count_at query items) places)

-- what a database says of itself, with the line before it
abbrev pub info_row : Row → List ℕ
info_row row = info_heading_octets ++ info_text_octets row.text

-- some rows were begun
abbrev pub has_some : List Row → Bool
has_some [] = false
has_some (row ∷ rows) = true

-- the line of an item as a summary has it
abbrev pub shown_line : Item (List ℕ) → List ℕ
shown_line item = list_line_octets (name_of item) (title_of item)

-- the same where it is regular and has this name, and else nothing
abbrev pub line_if_named : List ℕ → Item (List ℕ) → List ℕ
line_if_named name item = if is_regular_named name item then shown_line item else []

-- those of the places that give rows
abbrev pub giving : Query → List (Item Edition) → List ℕ → List ℕ
giving query items places = filter (λ place. not (count_at query items place == 0)) places

-- the places are those of these that give rows, and the rows are counted
pub record IsCounted (query : Query) (items : List (Item Edition)) (all : List ℕ) (counted : CountedRows) : Type 0 where
  pub places : counted.places.items ≡ giving query items all
  pub count : counted.count ≡ total (count_at query items) all

-- the answer to SHOW DB, over the items of a summary
abbrev pub items_octets : List (Item (List ℕ)) → List ℕ
items_octets items =
    if length items == 0 then no_databases_octets
    else database_count_octets (length items) ++ (flat_map shown_line items ++ (list_end_octets ++ done_octets))

-- the lines of the regular items of these names
abbrev pub members_octets : List (Item (List ℕ)) → List (List ℕ) → List ℕ
members_octets items members = flat_map (λ member. flat_map (line_if_named member) items) members
