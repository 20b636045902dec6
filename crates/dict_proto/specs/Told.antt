-- What the parser tells of a line's meaning.
use Rattle.std.specs.Prelude.{◌≡◌, Bool, true, false, Result, Ok, Err}
use Rattle.std.specs.String.{string_bytes}
use Rattle.dict_proto.specs.Meaning.{Meaning, define, matching, show_databases, show_strategies, show_server, show_info, client, status, help, quit, not_recognized, illegal_parameters, not_implemented}
use Rattle.dict_proto.specs.declared.request.Request.{Request}
use Rattle.dict_proto.specs.declared.request.Request.TheVariants.{Define, Match, ShowDatabases, ShowStrategies, ShowServer, ShowInfo, Client, Status, Help, Quit}
use Rattle.dict_proto.specs.declared.request.LineFault.{LineFault}
use Rattle.dict_proto.specs.declared.request.LineFault.TheVariants.{NotRecognized, IllegalParameters, NotImplemented, Memory}

-- what a request asks for
abbrev pub requested : Request → Meaning
requested (Define database word) = define (string_bytes database) (string_bytes word)
requested (Match database strategy word) = matching (string_bytes database) (string_bytes strategy) (string_bytes word)
requested ShowDatabases = show_databases
requested ShowStrategies = show_strategies
requested ShowServer = show_server
requested (ShowInfo database) = show_info (string_bytes database)
requested Client = client
requested Status = status
requested Help = help
requested Quit = quit

-- the request keeps words of the line, and room for them is taken
abbrev pub keeps_words : Meaning → Bool
keeps_words (define database word) = true
keeps_words (matching database strategy word) = true
keeps_words show_databases = false
keeps_words show_strategies = false
keeps_words show_server = false
keeps_words (show_info database) = true
keeps_words client = false
keeps_words status = false
keeps_words help = false
keeps_words quit = false
keeps_words not_recognized = false
keeps_words illegal_parameters = false
keeps_words not_implemented = false

-- this meaning was told, or memory was refused for words that it keeps
abbrev pub Tells : Result Request LineFault → Meaning → Type 0
Tells (Ok request) asked = requested request ≡ asked
Tells (Err NotRecognized) asked = not_recognized ≡ asked
Tells (Err IllegalParameters) asked = illegal_parameters ≡ asked
Tells (Err NotImplemented) asked = not_implemented ≡ asked
Tells (Err Memory) asked = keeps_words asked ≡ true
