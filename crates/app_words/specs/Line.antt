-- The command line that the program declares, as clap's definitions read it. What words mean on a command line is clap's matter.
use Rattle.std.specs.Prelude.{◌≡◌, List, [], ◌∷◌, ◌++◌, map, codes, true, false, Some, pos}
use Rattle.clap.specs.Lexer.{usize_max}
use Rattle.clap.specs.Simple.{App, Shape, app_of, new_shape, new_rule}
use Rattle.clap.specs.Walk.{Rule, Text}
use Rattle.clap.specs.declared.builder.command.Command.{Command}
use Rattle.clap.specs.declared.builder.command.Command.TheViews.{out-Command}
use Rattle.clap.specs.declared.builder.value_parser.ValueParser.TheVariants as parsers

-- a word that has to be there
abbrev pub word_rule : Text → Rule
word_rule id = record (new_rule id) { required = true }

-- a word that has to be there once or more
abbrev pub several : Text → Rule
several id = record (word_rule id) { range = Some (record { start_inclusive = 1; end_inclusive = usize_max }) }

-- a word that has to be there, and be a number from 0 to 4,294,967,295
abbrev pub number : Text → Rule
number id = record (word_rule id) { parser = Some (parsers.Signed (pos 0) (pos 4294967295)) }

-- a value that has to be there, behind two hyphens and its name
abbrev pub setting : Text → Rule
setting id = record (word_rule id) { long = Some id; value_names = 1 }

-- a number from 1 to 4,294,967,295, behind two hyphens and its name
abbrev pub count : Text → Rule
count id = record (new_rule id) { long = Some id; value_names = 1; parser = Some (parsers.Signed (pos 1) (pos 4294967295)) }

-- a subcommand that takes these words, in this order
abbrev pub leaf : Text → List Text → Shape
leaf name words = record (new_shape name) { rules = map word_rule words }

-- a subcommand that takes these words, in this order, and what these rules take
abbrev pub leaf_with : Text → List Text → List Rule → Shape
leaf_with name words rules = record (new_shape name) { rules = map word_rule words ++ rules }

-- a command without subcommands
abbrev pub alone : Shape → App
alone shape = record { top = shape; subs = [] }

-- a command with these subcommands behind its own
abbrev pub with_all : App → List Shape → App
with_all app added = record { top = record app.top { is_leaf = false }; subs = app.subs ++ added }

-- what makes or reads a file, or serves a session
abbrev pub reading_shapes : List Shape
reading_shapes =
    leaf (codes "plain") (codes "NAME" ∷ codes "INDEX" ∷ codes "DICT" ∷ [])
    ∷ leaf (codes "create") (codes "FILE" ∷ [])
    ∷ leaf (codes "list") (codes "FILE" ∷ [])
    ∷ leaf (codes "audit") (codes "FILE" ∷ [])
    ∷ leaf (codes "session") (codes "FILE" ∷ []) ∷ []

-- what changes the databases of a file's catalogue
abbrev pub change_shapes : List Shape
change_shapes =
    leaf (codes "install") (codes "FILE" ∷ codes "NAME" ∷ codes "ID" ∷ codes "INDEX" ∷ codes "DICT" ∷ [])
    ∷ leaf (codes "rollback") (codes "FILE" ∷ codes "NAME" ∷ codes "ID" ∷ [])
    ∷ leaf (codes "retire") (codes "FILE" ∷ codes "NAME" ∷ codes "ID" ∷ []) ∷ []

-- what groups the databases of a file's catalogue
abbrev pub grouping : Shape
grouping = leaf_with (codes "virtual") (codes "FILE" ∷ codes "NAME" ∷ codes "ID" ∷ codes "TITLE" ∷ []) (several (codes "MEMBER") ∷ [])

-- what orders them
abbrev pub placing : Shape
placing = leaf_with (codes "place") (codes "FILE" ∷ codes "NAME" ∷ codes "ID" ∷ []) (number (codes "PLACE") ∷ [])

-- both
abbrev pub arrangements : List Shape
arrangements = grouping ∷ placing ∷ []

-- what serves a file's catalogue
abbrev pub servers : List Shape
servers = leaf_with (codes "serve") (codes "FILE" ∷ []) (setting (codes "dict") ∷ setting (codes "http") ∷ count (codes "rounds") ∷ []) ∷ []

-- the program's name and its version; words have to name a subcommand
abbrev pub required : Shape
required = record (new_shape (codes "dictcat")) { has_version = true; subcommand_required = true }

-- the command line that the program reads
unfoldable pub command_line : App
command_line = with_all (with_all (with_all (with_all (alone required) reading_shapes) change_shapes) arrangements) servers

-- what clap reads by this command is what the app says
abbrev pub Reads : App → Command → Type 0
Reads app c = (app_of c ≡ app) × ((out-Command c).has_globals ≡ false)
