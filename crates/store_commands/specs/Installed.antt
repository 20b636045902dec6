-- The text of an edition that a command installs.
use Rattle.std.specs.Prelude.{ℕ, Result, Ok, Err}
use Rattle.sqlite.specs.Effect.{Database}
use Rattle.dict_catalogue.specs.declared.commands.Command.{Command}
use Rattle.dict_catalogue.specs.declared.commands.Command.TheVariants.{Install, Rollback, Retire, PutVirtual, Place}
use Rattle.dict_desk.specs.declared.fault.Fault.{Fault}
use Rattle.store_holdings.specs.HeldTexts.{HoldsText}
use Rattle.store_commands.specs.declared.applied.Applied.{Applied}
use Rattle.store_commands.specs.declared.applied.Applied.TheVariants.{Repeated, Done}

-- the text of the edition that the command installs stands under this number
abbrev pub HasTextOf : Command → ℕ → Database → Type 0
HasTextOf (Install name edition) number db = HoldsText db number edition.now.text
HasTextOf (Rollback name) number db = Unit {0}
HasTextOf (Retire name) number db = Unit {0}
HasTextOf (PutVirtual name title members) number db = Unit {0}
HasTextOf (Place name at) number db = Unit {0}

-- and where the command acted, under the number of the install
abbrev pub HasInstalled : Command → Result Applied Fault → Database → Type 0
HasInstalled command (Ok (Repeated kept)) db = Unit {0}
HasInstalled command (Ok (Done kept summary)) db = HasTextOf command summary.installs db
HasInstalled command (Err fault) db = Unit {0}
