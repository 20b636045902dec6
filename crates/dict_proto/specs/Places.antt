-- The places in a line and the names of commands, as the reader keeps them.
use Rattle.std.specs.Prelude.{ℕ, Bool, true, false, not, ◌||◌, ◌==◌, List, Option, None, Some}
use Rattle.std.specs.Option.{IsSomeAnd}
use Rattle.std.specs.List.{AllByRecursion}
use Rattle.std.specs.Str.{IsUtf8}
use Rattle.dict_text.specs.Characters.{is_blank}
use Rattle.dict_proto.specs.Words.{is_quoting}
use Rattle.dict_proto.specs.LineWords.{Place, between, within, in_string, escaped, escaped_in, stuck}
use Rattle.dict_proto.specs.Meaning.{Meaning, define_of, match_of, show_of, show_info_meaning, without_more, show_databases, show_strategies, show_server, client, status, help, quit, not_recognized, illegal_parameters, not_implemented}
use Rattle.dict_proto.specs.declared.place.Place as kept
use Rattle.dict_proto.specs.declared.place.Place.TheVariants.{Between, Within, InString, Escaped, EscapedIn, Stuck}
use Rattle.dict_proto.specs.declared.command.CommandName.{CommandName}
use Rattle.dict_proto.specs.declared.command.CommandName.TheVariants.{Define, Match, Show, Client, Status, Help, Quit, LeftOut}
use Rattle.dict_proto.specs.declared.command.Shown.{Shown}
use Rattle.dict_proto.specs.declared.command.Shown.TheVariants.{Databases, Strategies, Server, Info}

abbrev pub place_of : kept.Place → Place
place_of Between = between
place_of Within = within
place_of (InString quote) = in_string quote
place_of Escaped = escaped
place_of (EscapedIn quote) = escaped_in quote
place_of Stuck = stuck

-- within a word, an octet at this place is one of the word's content, and not of its quoting
abbrev pub is_content : Place → ℕ → Bool
is_content between c = not (is_quoting c)
is_content within c = not (is_quoting c)
is_content (in_string quote) c = not ((c == quote) || (c == 92))
is_content escaped c = true
is_content (escaped_in quote) c = true
is_content stuck c = false

-- a word ends before an octet at this place
abbrev pub ends_word : Place → ℕ → Bool
ends_word between c = false
ends_word within c = is_blank c
ends_word (in_string quote) c = false
ends_word escaped c = false
ends_word (escaped_in quote) c = false
ends_word stuck c = false

-- the words are there, and each is UTF-8
abbrev pub AreUtf8Words : Option (List (List ℕ)) → Type 0
AreUtf8Words words = IsSomeAnd words (AllByRecursion IsUtf8)

-- what a command asks for with these parameters
abbrev pub asked_with : Option CommandName → List (List ℕ) → Meaning
asked_with (Some Define) parameters = define_of parameters
asked_with (Some Match) parameters = match_of parameters
asked_with (Some Show) parameters = show_of parameters
asked_with (Some Client) parameters = client
asked_with (Some Status) parameters = without_more status parameters
asked_with (Some Help) parameters = without_more help parameters
asked_with (Some Quit) parameters = without_more quit parameters
asked_with (Some LeftOut) parameters = not_implemented
asked_with None parameters = not_recognized

-- what SHOW with this second word asks for with these parameters
abbrev pub shown_with : Option Shown → List (List ℕ) → Meaning
shown_with (Some Databases) parameters = without_more show_databases parameters
shown_with (Some Strategies) parameters = without_more show_strategies parameters
shown_with (Some Server) parameters = without_more show_server parameters
shown_with (Some Info) parameters = show_info_meaning parameters
shown_with None parameters = illegal_parameters
