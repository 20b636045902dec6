-- What comes of a change of a catalogue that the program is asked for.
use Rattle.std.specs.Prelude.{◌≡◌, ◌↔◌, Bool, true, false, ℕ, List, ◌++◌, Option, is_some, Result, Ok, Err, IfErr, codes}
use Rattle.dict_proto.specs.Streams.{StreamChange}
use Rattle.dict_index.specs.Edition.{Edition}
use Rattle.dict_catalogue.specs.Commands.{Command}
use Rattle.dict_catalogue.specs.Effects.{KeptReply}
use Rattle.dict_catalogue.specs.Steps.{Catalogue, CommandRequest, step, kept_under}
use Rattle.dict_catalogue.specs.Views.{kept_shown}
use Rattle.dict_catalogue.specs.declared.reply.Kept.{Kept}
use Rattle.dict_desk.specs.Applying.{Applies, Leaves}
use Rattle.dict_desk.specs.Faults.{IsOfCommand, is_disk, is_failure}
use Rattle.dict_desk.specs.declared.fault.Fault.{Fault as DeskFault}
use Rattle.dict_desk.specs.declared.fault.Fault.TheVariants as desk_faults
use Rattle.http_service.specs.Texts.{kept_text}
use Rattle.app_words.specs.Faults.{told_of}
use Rattle.app_words.specs.Writing.{IsUntouched, Prints}
use Rattle.app_words.specs.declared.fault.ProgramFault.{ProgramFault}

-- a reply as a line
abbrev pub kept_line : KeptReply → List ℕ
kept_line kept = kept_text kept ++ codes "\n"

-- the reply of a command is written; of a command that wasn't done the fault is told, and nothing is written
abbrev pub TellsAnswer : Result Kept DeskFault → Result (Unit {0}) ProgramFault → StreamChange → Type 0
TellsAnswer (Ok kept) result writer = Prints (kept_line (kept_shown kept)) result writer
TellsAnswer (Err fault) result writer = (result ≡ Err (told_of fault)) × IsUntouched writer

-- A desk answered a command under an id, and the answer was told: over a catalogue that it showed, the answer is that of the
-- step, and the desk shows the catalogue after it; a stop leaves what `Leaves` says; and what is beside the catalogue is kept. A
-- failure has its cause, and `Closed` tells just that the desk was closed before. The relations are the desk's own.
pub record IsChanged {D Beside : Type 0} (Shows : D → Catalogue → Type 0) (LeavesOneOf : D → List (Option Catalogue) → Type 0) (KeepsBeside : D → Beside → Type 0) (IsTrusted : D → Type 0)
    (is_closed : D → Bool) (FailsToApply : D → CommandRequest → D → DeskFault → Type 0) (old new : D) (id : List ℕ) (command : Command Edition) (result : Result (Unit {0}) ProgramFault) (writer : StreamChange) : Type 0 where
  pub answer : Result Kept DeskFault
  pub told : TellsAnswer answer result writer
  pub applied : IsTrusted new → (catalogue : Catalogue) → Shows old catalogue → Applies (Shows new) catalogue (step catalogue id command) answer
  pub left : IsTrusted new → (catalogue : Catalogue) → Shows old catalogue
      → Leaves (LeavesOneOf old) (LeavesOneOf new) (is_some (kept_under catalogue.kept id)) (step catalogue id command).catalogue answer
  pub spared : (ms : List (Option Catalogue)) → LeavesOneOf old ms → IfErr answer (λ fault. is_disk fault ≡ false → LeavesOneOf new ms)
  pub beside : (beside : Beside) → KeepsBeside old beside → KeepsBeside new beside
  pub trust : IsTrusted new → IsTrusted old
  pub kinds : IfErr answer IsOfCommand
  pub caused : IsTrusted new → IfErr answer (λ fault. is_failure fault ≡ true → FailsToApply old (record { id = id; command = command }) new fault)
  pub closed : (answer ≡ Err desk_faults.Closed) ↔ (is_closed old ≡ true)
