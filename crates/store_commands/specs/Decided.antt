-- What is decided of a command before anything is written.
use Rattle.std.specs.Prelude.{◌≡◌, ℕ, ◌<◌, ◌^◌, length, List, Some, None}
use Rattle.std.specs.List.{AllByRecursion}
use Rattle.dict_catalogue.specs.Commands.{Command as ACommand}
use Rattle.dict_catalogue.specs.Tests.{Holdings, refusal_of}
use Rattle.dict_catalogue.specs.declared.commands.Command.{Command}
use Rattle.dict_catalogue.specs.declared.commands.Command.TheVariants.{Install, Rollback, Retire, PutVirtual, Place}
use Rattle.dict_desk.specs.declared.fault.Fault.{Fault}
use Rattle.dict_desk.specs.declared.fault.Fault.TheVariants.{Refused, Memory, Disk, Closed, NotACatalogue, Damaged, NewerSchema}
use Rattle.store_rows.specs.Stands.{IsWithin}

-- the refusal is that of the first test that fails; memory is wanted only where none of them fails
abbrev pub IsDeclined : Holdings (List ℕ) → ACommand (List ℕ) → Fault → Type 0
IsDeclined before command (Refused refusal) = refusal_of before command ≡ Some refusal
IsDeclined before command Memory = refusal_of before command ≡ None
IsDeclined before command Disk = ⊥
IsDeclined before command Closed = ⊥
IsDeclined before command NotACatalogue = ⊥
IsDeclined before command Damaged = ⊥
IsDeclined before command NewerSchema = ⊥

-- each entry of an edition that is installed lies within its text, which is short enough for its index
abbrev pub LiesWithin : Command → Type 0
LiesWithin (Install name edition) = AllByRecursion (IsWithin edition.now.text) edition.now.lines × (length edition.now.text < 64 ^ 6)
LiesWithin (Rollback name) = Unit {0}
LiesWithin (Retire name) = Unit {0}
LiesWithin (PutVirtual name title members) = Unit {0}
LiesWithin (Place name at) = Unit {0}
