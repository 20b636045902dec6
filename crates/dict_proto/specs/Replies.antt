-- The octets of each reply. RFC 2229, sections 3.1 to 3.9, with this project's wording after the codes.
use Rattle.std.specs.Prelude.{ℕ, List, ◌∷◌, [], ◌++◌, codes, decimal}
use Rattle.dict_text.specs.Lines.{text_lines}
use Rattle.dict_proto.specs.Text.{crlf, sent_line, block, quoted}
use Rattle.dict_proto.specs.declared.reply.Reply.{Reply}
use Rattle.dict_proto.specs.declared.reply.Reply.TheVariants.{Banner, DefinitionCount, Definition, MatchCount, DatabaseCount, StrategyCount, ListLine, ListEnd, InfoHeading, InfoText, Help, ServerInformation, Status}
use Rattle.dict_proto.specs.declared.reply.Reply.TheVariants.{Done, Closing, Unavailable, NotRecognized, InvalidDatabase, InvalidStrategy, NoMatch, NoDatabases, IllegalParameters, NotImplemented}

-- the greeting of a connection: 220, the host and the connection's number
unfoldable pub banner_octets : List ℕ → ℕ → List ℕ
banner_octets host connection = codes "220 " ++ (host ++ (codes " dictcat ready <" ++ (decimal connection ++ (codes "@" ++ (host ++ (codes ">" ++ crlf))))))

-- how many definitions follow
unfoldable pub definition_count_octets : ℕ → List ℕ
definition_count_octets count = codes "150 " ++ (decimal count ++ (codes " definitions retrieved" ++ crlf))

-- the line before a definition's text
unfoldable pub definition_line : List ℕ → List ℕ → List ℕ → List ℕ
definition_line headword name title = codes "151 " ++ (quoted headword ++ (codes " " ++ (name ++ (codes " " ++ (quoted title ++ crlf)))))

-- one definition: the headword, the database's name and title, and the text
unfoldable pub definition_octets : List ℕ → List ℕ → List ℕ → List ℕ → List ℕ
definition_octets headword name title body = definition_line headword name title ++ block (text_lines body)

-- how many matches follow
unfoldable pub match_count_octets : ℕ → List ℕ
match_count_octets count = codes "152 " ++ (decimal count ++ (codes " matches found" ++ crlf))

-- how many databases there are; a list of them follows
unfoldable pub database_count_octets : ℕ → List ℕ
database_count_octets count = codes "110 " ++ (decimal count ++ (codes " databases present" ++ crlf))

-- how many strategies there are; a list of them follows
unfoldable pub strategy_count_octets : ℕ → List ℕ
strategy_count_octets count = codes "111 " ++ (decimal count ++ (codes " strategies available" ++ crlf))

-- a line of a list, before it is sent: a name, and a headword or a title between quote signs
abbrev pub list_row : List ℕ → List ℕ → List ℕ
list_row name text = name ++ (codes " " ++ quoted text)

-- the same as it is sent
unfoldable pub list_line_octets : List ℕ → List ℕ → List ℕ
list_line_octets name text = sent_line (list_row name text)

-- what ends a list: a line of one period
unfoldable pub list_end_octets : List ℕ
list_end_octets = codes "." ++ crlf

-- the line before what a database says of itself
unfoldable pub info_heading_octets : List ℕ
info_heading_octets = codes "112 database information" ++ crlf

-- what a database says of itself, as a text
unfoldable pub info_text_octets : List ℕ → List ℕ
info_text_octets text = block (text_lines text)

-- the command lines that HELP tells
unfoldable pub help_lines : List (List ℕ)
help_lines = codes "DEFINE database word"
    ∷ codes "MATCH database strategy word"
    ∷ codes "SHOW DB"
    ∷ codes "SHOW STRAT"
    ∷ codes "SHOW INFO database"
    ∷ codes "SHOW SERVER"
    ∷ codes "CLIENT text"
    ∷ codes "STATUS"
    ∷ codes "HELP"
    ∷ codes "QUIT"
    ∷ []

-- the same with the line before it
unfoldable pub help_octets : List ℕ
help_octets = codes "113 help text" ++ (crlf ++ block help_lines)

-- what SHOW SERVER tells: the host, and how many databases there are
unfoldable pub server_lines : List ℕ → ℕ → List (List ℕ)
server_lines host count = (codes "dictcat on " ++ host) ∷ (codes "databases " ++ decimal count) ∷ []

-- the same with the line before it
unfoldable pub server_information_octets : List ℕ → ℕ → List ℕ
server_information_octets host count = codes "114 server information" ++ (crlf ++ block (server_lines host count))

-- the answer to STATUS: how many databases there are
unfoldable pub status_octets : ℕ → List ℕ
status_octets count = codes "210 " ++ (decimal count ++ (codes " databases" ++ crlf))

-- what ends a reply that has a text, and what answers a command that has no other answer
unfoldable pub done_octets : List ℕ
done_octets = codes "250 ok" ++ crlf

-- the answer to QUIT
unfoldable pub closing_octets : List ℕ
closing_octets = codes "221 closing connection" ++ crlf

-- in place of a reply that could not be made
unfoldable pub unavailable_octets : List ℕ
unavailable_octets = codes "420 server temporarily unavailable" ++ crlf

-- the answer to a line that is no command
unfoldable pub not_recognized_octets : List ℕ
not_recognized_octets = codes "500 command not recognized" ++ crlf

-- the answer to a line that can't be cut into words, or to a command that doesn't go with its parameters
unfoldable pub illegal_parameters_octets : List ℕ
illegal_parameters_octets = codes "501 illegal parameters" ++ crlf

-- the answer to a command that is left out
unfoldable pub not_implemented_octets : List ℕ
not_implemented_octets = codes "502 command not implemented" ++ crlf

-- the database asked is not there
unfoldable pub invalid_database_octets : List ℕ
invalid_database_octets = codes "550 invalid database" ++ crlf

-- the strategy asked is not there
unfoldable pub invalid_strategy_octets : List ℕ
invalid_strategy_octets = codes "551 invalid strategy" ++ crlf

-- nothing was found
unfoldable pub no_match_octets : List ℕ
no_match_octets = codes "552 no match" ++ crlf

-- there are no databases
unfoldable pub no_databases_octets : List ℕ
no_databases_octets = codes "554 no databases present" ++ crlf

abbrev pub reply_octets : Reply → List ℕ
reply_octets (Banner host connection) = banner_octets host.now connection
reply_octets (DefinitionCount count) = definition_count_octets count
reply_octets (Definition headword name title body) = definition_octets headword.now name.now title.now body.now
reply_octets (MatchCount count) = match_count_octets count
reply_octets (DatabaseCount count) = database_count_octets count
reply_octets (StrategyCount count) = strategy_count_octets count
reply_octets (ListLine name text) = list_line_octets name.now text.now
reply_octets ListEnd = list_end_octets
reply_octets InfoHeading = info_heading_octets
reply_octets (InfoText text) = info_text_octets text.now
reply_octets Help = help_octets
reply_octets (ServerInformation host count) = server_information_octets host.now count
reply_octets (Status count) = status_octets count
reply_octets Done = done_octets
reply_octets Closing = closing_octets
reply_octets Unavailable = unavailable_octets
reply_octets NotRecognized = not_recognized_octets
reply_octets IllegalParameters = illegal_parameters_octets
reply_octets NotImplemented = not_implemented_octets
reply_octets InvalidDatabase = invalid_database_octets
reply_octets InvalidStrategy = invalid_strategy_octets
reply_octets NoMatch = no_match_octets
reply_octets NoDatabases = no_databases_octets
