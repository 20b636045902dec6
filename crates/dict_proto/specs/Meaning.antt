-- What a command line means. RFC 2229, sections 2.2, 2.3, 3.2, 3.3 and 3.5 to 3.12.
use Rattle.std.specs.Prelude.{ℕ, ◌+◌, List, [], ◌∷◌, Bool, not, nat_le, ◌&&◌, ◌||◌, ◌==◌, if◌then◌else◌, length, map, codes, Option, None, Some}
use Rattle.std.specs.List.{list_all}
use Rattle.std.specs.Option.{option_map}
use Rattle.std.specs.Str.{chars, is_utf8, encode_utf8_all, str_eq_ignore_ascii_case}
use Rattle.dict_text.specs.Characters.{is_control}
use Rattle.dict_proto.specs.LineWords.{line_words}

-- what a line asks for
pub data Meaning : Type 0 where
  -- the definitions of a word in a database
  define : List ℕ → List ℕ → Meaning
  -- the headwords in a database that a strategy finds by a word
  matching : List ℕ → List ℕ → List ℕ → Meaning
  -- the lists of databases and of strategies, what is known of the server, and of a database
  show_databases : Meaning
  show_strategies : Meaning
  show_server : Meaning
  show_info : List ℕ → Meaning
  -- nothing: the client tells its name
  client : Meaning
  status : Meaning
  help : Meaning
  -- the end of the session
  quit : Meaning
  -- 500: it is no command
  not_recognized : Meaning
  -- 501: it can't be cut into words, or the command doesn't go with its parameters
  illegal_parameters : Meaning
  -- 502: the command is left out
  not_implemented : Meaning

-- a line, without its CR LF, passes the tests that every command line has to: with its CR LF it has at most 6,144
-- octets and 1,024 characters, it is UTF-8, and it has no control character other than the tab
abbrev pub is_readable : List ℕ → Bool
is_readable line = nat_le (length line + 2) 6144 && (is_utf8 line
    && (nat_le (length (chars line) + 2) 1024 && list_all (λ c. (c == 9) || not (is_control c)) (chars line)))

-- a word is this name, without regard to ASCII case
abbrev pub is_word_named : List ℕ → List ℕ → Bool
is_word_named word name = str_eq_ignore_ascii_case word name

-- this is asked, if no parameters are left
abbrev pub without_more : Meaning → List (List ℕ) → Meaning
without_more asked [] = asked
without_more asked (word ∷ words) = illegal_parameters

-- the parameters of DEFINE: a database and a word
abbrev pub define_of : List (List ℕ) → Meaning
define_of [] = illegal_parameters
define_of (database ∷ []) = illegal_parameters
define_of (database ∷ word ∷ others) = without_more (define database word) others

-- the parameters of MATCH: a database, a strategy and a word
abbrev pub match_of : List (List ℕ) → Meaning
match_of [] = illegal_parameters
match_of (database ∷ []) = illegal_parameters
match_of (database ∷ strategy ∷ []) = illegal_parameters
match_of (database ∷ strategy ∷ word ∷ others) = without_more (matching database strategy word) others

-- the parameter of SHOW INFO: a database
abbrev pub show_info_meaning : List (List ℕ) → Meaning
show_info_meaning [] = illegal_parameters
show_info_meaning (database ∷ others) = without_more (show_info database) others

-- SHOW, its second word, and the parameters after that
abbrev pub show_meaning : List ℕ → List (List ℕ) → Meaning
show_meaning what parameters =
    if is_word_named what (codes "DB") || is_word_named what (codes "DATABASES") then without_more show_databases parameters
    else (if is_word_named what (codes "STRAT") || is_word_named what (codes "STRATEGIES") then without_more show_strategies parameters
    else (if is_word_named what (codes "SERVER") then without_more show_server parameters
    else (if is_word_named what (codes "INFO") then show_info_meaning parameters
    else illegal_parameters)))

abbrev pub show_of : List (List ℕ) → Meaning
show_of [] = illegal_parameters
show_of (what ∷ parameters) = show_meaning what parameters

-- a command and its parameters
abbrev pub command_of : List ℕ → List (List ℕ) → Meaning
command_of name parameters =
    if is_word_named name (codes "DEFINE") then define_of parameters
    else (if is_word_named name (codes "MATCH") then match_of parameters
    else (if is_word_named name (codes "SHOW") then show_of parameters
    else (if is_word_named name (codes "CLIENT") then client
    else (if is_word_named name (codes "STATUS") then without_more status parameters
    else (if is_word_named name (codes "HELP") then without_more help parameters
    else (if is_word_named name (codes "QUIT") then without_more quit parameters
    else (if is_word_named name (codes "OPTION") || (is_word_named name (codes "AUTH") || is_word_named name (codes "SASLAUTH")) then not_implemented
    else not_recognized)))))))

-- what the words of a line ask for
abbrev pub meaning_by_words : List (List ℕ) → Meaning
meaning_by_words [] = not_recognized
meaning_by_words (name ∷ parameters) = command_of name parameters

-- the same, where the line can be cut into words; else it is 501
abbrev pub asked : Option (List (List ℕ)) → Meaning
asked None = illegal_parameters
asked (Some words) = meaning_by_words words

-- the meaning of a line, without its CR LF; each word is told in octets
unfoldable pub meaning : List ℕ → Meaning
meaning line = if is_readable line then asked (option_map (map encode_utf8_all) (line_words (chars line))) else not_recognized
