-- The answer to each line. RFC 2229, sections 3.2, 3.3 and 3.5 to 3.9.
use Rattle.std.specs.Prelude.{◌≡◌, ℕ, Bool, true, false, ◌==◌, ◌||◌, List, ◌++◌, length, codes, if◌then◌else◌, Option, Some, None}
use Rattle.std.specs.List.{flat_map}
use Rattle.std.specs.Str.{bytes_eq}
use Rattle.dict_match.specs.declared.strategy.Strategy.{Strategy}
use Rattle.dict_catalogue.specs.Items.{is_known}
use Rattle.dict_catalogue.specs.Steps.{Catalogue}
use Rattle.dict_desk.specs.Asked.{Definition, Match, definitions, matches, strategy_of}
use Rattle.dict_desk.specs.declared.lookup.What.{What}
use Rattle.dict_desk.specs.declared.lookup.What.TheVariants.{Entries, Headwords}
use Rattle.dict_proto.specs.Meaning.{Meaning, meaning, define, matching, show_databases, show_strategies, show_server, show_info, client, status, help, quit, not_recognized, illegal_parameters, not_implemented}
use Rattle.dict_proto.specs.Replies.{definition_count_octets, definition_octets, match_count_octets, list_line_octets, list_end_octets, done_octets, closing_octets, not_recognized_octets, illegal_parameters_octets}
use Rattle.dict_proto.specs.Replies.{not_implemented_octets, invalid_database_octets, invalid_strategy_octets, no_match_octets}
use Rattle.dict_session.specs.Shows.{databases_answer, strategies_answer, server_answer, info_answer, status_answer, help_answer}

-- a definition, with its text
abbrev pub definition_of : Definition → List ℕ
definition_of definition = definition_octets definition.shown definition.name definition.title definition.body

-- the answer to DEFINE where these were found
abbrev pub definitions_answer : List Definition → List ℕ
definitions_answer found =
    if length found == 0 then no_match_octets
    else definition_count_octets (length found) ++ (flat_map definition_of found ++ done_octets)

-- the same, or the word names no database
abbrev pub defined : Option (List Definition) → List ℕ
defined None = invalid_database_octets
defined (Some found) = definitions_answer found

-- the answer to DEFINE with a word for databases and a word
unfoldable pub define_answer : Catalogue → List ℕ → List ℕ → List ℕ
define_answer catalogue name word = defined (definitions catalogue name word)

-- a line of a list of matches
abbrev pub match_line : Match → List ℕ
match_line one = list_line_octets one.name one.shown

-- the answer to MATCH where these were found
abbrev pub matches_answer : List Match → List ℕ
matches_answer found =
    if length found == 0 then no_match_octets
    else match_count_octets (length found) ++ (flat_map match_line found ++ (list_end_octets ++ done_octets))

-- the same, or the word names no database
abbrev pub matched : Option (List Match) → List ℕ
matched None = invalid_database_octets
matched (Some found) = matches_answer found

-- the answer to MATCH where this strategy was named, or none
abbrev pub strategy_answer : Catalogue → List ℕ → Option Strategy → List ℕ → List ℕ
strategy_answer catalogue name None word = invalid_strategy_octets
strategy_answer catalogue name (Some strategy) word = matched (matches catalogue name strategy word)

-- a word names databases where it is a star, an exclamation mark, or an item's name
abbrev pub names_databases : Catalogue → List ℕ → Bool
names_databases catalogue word = bytes_eq word (codes "*") || (bytes_eq word (codes "!") || is_known catalogue.items word)

-- the answer to MATCH with a word for databases, a strategy's name and a word. The first is looked at first
unfoldable pub match_answer : Catalogue → List ℕ → List ℕ → List ℕ → List ℕ
match_answer catalogue name strategy word =
    if names_databases catalogue name then strategy_answer catalogue name (strategy_of strategy) word
    else invalid_database_octets

-- the answer to what a line asks of a catalogue, at a host
abbrev pub answer_to : Catalogue → List ℕ → Meaning → List ℕ
answer_to catalogue host (define name word) = define_answer catalogue name word
answer_to catalogue host (matching name strategy word) = match_answer catalogue name strategy word
answer_to catalogue host show_databases = databases_answer catalogue
answer_to catalogue host show_strategies = strategies_answer
answer_to catalogue host show_server = server_answer catalogue host
answer_to catalogue host (show_info name) = info_answer catalogue name
answer_to catalogue host client = done_octets
answer_to catalogue host status = status_answer catalogue
answer_to catalogue host help = help_answer
answer_to catalogue host quit = closing_octets
answer_to catalogue host not_recognized = not_recognized_octets
answer_to catalogue host illegal_parameters = illegal_parameters_octets
answer_to catalogue host not_implemented = not_implemented_octets

-- the line before the rows that a query gives, which tells how many they are
abbrev pub count_octets : What → ℕ → List ℕ
count_octets Entries count = definition_count_octets count
count_octets Headwords count = match_count_octets count

-- what an answer needs of a desk beside the catalogue's summary: nothing; rows, and first how many; or the one row in which an
-- edition tells of itself
pub data AnswerNeed : Type 0 where
  no_rows : AnswerNeed
  counted_rows : What → AnswerNeed
  one_row : AnswerNeed

abbrev pub need_of : Meaning → AnswerNeed
need_of (define name word) = counted_rows Entries
need_of (matching name strategy word) = counted_rows Headwords
need_of show_databases = no_rows
need_of show_strategies = no_rows
need_of show_server = no_rows
need_of (show_info name) = one_row
need_of client = no_rows
need_of status = no_rows
need_of help = no_rows
need_of quit = no_rows
need_of not_recognized = no_rows
need_of illegal_parameters = no_rows
need_of not_implemented = no_rows

-- An answer may end in a failure of the desk between these two parts of it: the desk has told how many rows there are, and that
-- line stands whole; or it has told the one row, and the last line alone is to come. Before that nothing of the answer stands.
abbrev pub MayBreak : AnswerNeed → List ℕ → List ℕ → Type 0
MayBreak no_rows part rest = ⊥
MayBreak (counted_rows what) part rest = (count : ℕ) × (rows : List ℕ) × (part ≡ count_octets what count ++ rows)
MayBreak one_row part rest = rest ≡ done_octets

-- the 420 line may stand in the answer's place: of an answer that needs entries where the desk failed or memory was
-- refused, and of one that needs only the catalogue's summary where the desk is closed
abbrev pub may_be_unavailable : Bool → Meaning → Bool
may_be_unavailable closed (define name word) = true
may_be_unavailable closed (matching name strategy word) = true
may_be_unavailable closed show_databases = closed
may_be_unavailable closed show_strategies = false
may_be_unavailable closed show_server = closed
may_be_unavailable closed (show_info name) = true
may_be_unavailable closed client = false
may_be_unavailable closed status = closed
may_be_unavailable closed help = false
may_be_unavailable closed quit = false
may_be_unavailable closed not_recognized = false
may_be_unavailable closed illegal_parameters = false
may_be_unavailable closed not_implemented = false

abbrev pub ends_session : Meaning → Bool
ends_session (define name word) = false
ends_session (matching name strategy word) = false
ends_session show_databases = false
ends_session show_strategies = false
ends_session show_server = false
ends_session (show_info name) = false
ends_session client = false
ends_session status = false
ends_session help = false
ends_session quit = true
ends_session not_recognized = false
ends_session illegal_parameters = false
ends_session not_implemented = false

-- the line is a QUIT
abbrev pub is_quit : List ℕ → Bool
is_quit line = ends_session (meaning line)
