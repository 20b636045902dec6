-- What the words of a command line ask for.
use Rattle.std.specs.Prelude.{◌≡◌, ◌⊎◌, ◌&&◌, ◌^◌, ℕ, nat_lt, length, map, List, [], Option, None, Some, codes, option_map, option_and_then, bytes_eq, if◌then◌else◌}
use Rattle.std.specs.Borrow.{Bor}
use Rattle.std.specs.Char.{digit_value}
use Rattle.std.specs.List.{list_all}
use Rattle.std.specs.Str.Parse.{digits_value, without_leading_plus}
use Rattle.clap.specs.Simple.{subcommand_of}
use Rattle.clap.specs.Walk.{Row, Text, all_of, first_of, one_of}
use Rattle.clap.specs.Kinds.{Kinds, IsAmong}
use Rattle.clap.specs.Faults.{fault_of}
use Rattle.clap.specs.declared.error.kind.ErrorKind.{ErrorKind}
use Rattle.clap.specs.declared.error.kind.ErrorKind.TheVariants as kinds
use Rattle.app_words.specs.Line.{command_line}
use Rattle.app_words.specs.declared.task.ItemChange.{ItemChange}
use Rattle.app_words.specs.declared.task.ItemChange.TheVariants as changes
use Rattle.app_words.specs.declared.task.Task.{Task}
use Rattle.app_words.specs.declared.task.Task.TheVariants as tasks

-- what is changed: an edition of these two files is installed, the current edition rolled back, the item retired, a virtual
-- item of this title put over these members, or the item put at this place
pub data AskedChange : Type 0 where
  install : Text → Text → AskedChange
  rollback : AskedChange
  retire : AskedChange
  virtual : Text → List Text → AskedChange
  place : ℕ → AskedChange

-- what is asked for, by its words: the name, the index and the text of a database; or a file; or a file, a name, the id of
-- a request, and a change; or a file, two addresses and how many rounds
pub data AskedTask : Type 0 where
  plain : Text → Text → Text → AskedTask
  create : Text → AskedTask
  list : Text → AskedTask
  audit : Text → AskedTask
  session : Text → AskedTask
  change : Text → Text → Text → AskedChange → AskedTask
  serve : Text → Text → Text → Option ℕ → AskedTask

-- the texts of words
abbrev pub words_shown : List (Bor Text) → List Text
words_shown words = map (λ word. word.now) words

-- the same of a task
abbrev pub change_shown : ItemChange → AskedChange
change_shown (changes.Install index text) = install index.now text.now
change_shown changes.Rollback = rollback
change_shown changes.Retire = retire
change_shown (changes.Virtual title members) = virtual title.now (words_shown members.items)
change_shown (changes.Place at) = place at

abbrev pub task_shown : Task → AskedTask
task_shown (tasks.Plain name index text) = plain name.now index.now text.now
task_shown (tasks.Create file) = create file.now
task_shown (tasks.List file) = list file.now
task_shown (tasks.Audit file) = audit file.now
task_shown (tasks.Session file) = session file.now
task_shown (tasks.Change file name id what) = change file.now name.now id.now (change_shown what)
task_shown (tasks.Serve file dict http rounds) = serve file.now dict.now http.now rounds

-- with the text of a word, where it is there
abbrev pub with_word_text : {A : Type 0} → Text → List Row → (Text → Option A) → Option A
with_word_text id rows next = option_and_then next (first_of id rows)

abbrev pub on_file : List Row → (Text → AskedTask) → Option AskedTask
on_file rows of = with_word_text (codes "FILE") rows (λ file. Some (of file))

abbrev pub plain_asked : List Row → Option AskedTask
plain_asked rows = with_word_text (codes "NAME") rows (λ name. with_word_text (codes "INDEX") rows (λ index. with_word_text (codes "DICT") rows (λ text. Some (plain name index text))))

abbrev pub install_asked : List Row → Option AskedChange
install_asked rows = with_word_text (codes "INDEX") rows (λ index. with_word_text (codes "DICT") rows (λ text. Some (install index text)))

abbrev pub virtual_asked : List Row → Option AskedChange
virtual_asked rows = with_word_text (codes "TITLE") rows (λ title. option_map (virtual title) (all_of (codes "MEMBER") rows))

-- the number that decimal digits say, with a plus sign before them or none, where it is less than 2^32
abbrev pub number_in : Text → Option ℕ
number_in text =
    let digits = without_leading_plus text in
    if nat_lt 0 (length digits) && list_all (λ digit. nat_lt (digit_value digit) 10) digits && nat_lt (digits_value 10 digits) (2 ^ 32)
    then Some (digits_value 10 digits) else None

abbrev pub place_asked : List Row → Option AskedChange
place_asked rows = option_map place (option_and_then number_in (one_of (codes "PLACE") rows))

abbrev pub change_asked : List Row → Option AskedChange → Option AskedTask
change_asked rows what =
    with_word_text (codes "FILE") rows (λ file. with_word_text (codes "NAME") rows (λ name. with_word_text (codes "ID") rows (λ id.
    option_map (change file name id) what)))

abbrev pub serve_asked : List Row → Option AskedTask
serve_asked rows =
    with_word_text (codes "FILE") rows (λ file. with_word_text (codes "dict") rows (λ dict. with_word_text (codes "http") rows (λ http.
    Some (serve file dict http (option_and_then number_in (one_of (codes "rounds") rows))))))

-- what a subcommand of this name asks for, by its words
abbrev pub asked_by : Text → List Row → Option AskedTask
asked_by name rows =
    if bytes_eq name (codes "plain") then plain_asked rows
    else (if bytes_eq name (codes "create") then on_file rows create
    else (if bytes_eq name (codes "list") then on_file rows list
    else (if bytes_eq name (codes "audit") then on_file rows audit
    else (if bytes_eq name (codes "session") then on_file rows session
    else (if bytes_eq name (codes "install") then change_asked rows (install_asked rows)
    else (if bytes_eq name (codes "rollback") then change_asked rows (Some rollback)
    else (if bytes_eq name (codes "retire") then change_asked rows (Some retire)
    else (if bytes_eq name (codes "virtual") then change_asked rows (virtual_asked rows)
    else (if bytes_eq name (codes "place") then change_asked rows (place_asked rows)
    else (if bytes_eq name (codes "serve") then serve_asked rows
    else None))))))))))

-- the same of the subcommand that was used, if one was
abbrev pub found_asked : Option (Text × List Row) → Option AskedTask
found_asked None = None
found_asked (Some used) = asked_by used.0 used.1

-- what is wrong with the words, or that they ask for help or for the version
abbrev pub mistakes_in : List Text → Kinds
mistakes_in words = fault_of command_line words

-- the words, of which the first is the program's name, ask for the task
abbrev pub AskForTask : List Text → Task → Type 0
AskForTask words task = (mistakes_in words ≡ []) × (found_asked (subcommand_of command_line words) ≡ Some (task_shown task))

-- they ask for nothing
abbrev pub AskNothing : List Text → Type 0
AskNothing words = (mistakes_in words ≡ []) × (found_asked (subcommand_of command_line words) ≡ None)

-- why there is no task: memory, a mistake, help or the version, or nothing is asked
abbrev pub Fails : List Text → ErrorKind → Type 0
Fails words kind = (kind ≡ kinds.OutOfMemory) ⊎ (IsAmong kind (mistakes_in words) ⊎ ((kind ≡ kinds.MissingSubcommand) × AskNothing words))
