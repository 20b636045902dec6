-- What a transaction leaves of a store.
use Rattle.std.specs.Prelude.{◌≡◌, ◌⊎◌}
use Rattle.sqlite.specs.Effect.{Database}
use Rattle.dict_desk.specs.declared.fault.Fault.{Fault}
pub use Rattle.store_holdings.specs.Faults.{IsOfStore}
pub use Rattle.store_holdings.specs.Writing.{StaysCommitted}
use Rattle.store_holdings.specs.Writing.{FailsToEnd}
use Rattle.sqlite.specs.Held.{Held}
use Rattle.sqlite_trees.specs.declared.store.Store.{Ghosts}
use Rattle.store_rows.specs.After.{TableChange}
use Rattle.store_rows.specs.Versions.{known}
use Rattle.store_commands.specs.Statements.{statements_of}
use Rattle.dict_desk.specs.declared.fault.Fault.TheVariants.{Memory}

-- A planned command is not committed: a growth was refused before anything was written, and all is as it was; or one of its
-- statements failed behind those before it, or its commit did.
abbrev pub FailsToCommit : {S : Type 0} → Ghosts S → TableChange → (Database → Type 0) → Held S → Held S → Fault → Type 0
FailsToCommit {S} g change P old new fault =
    ((fault ≡ Memory) × (new ≡ old)) ⊎ FailsToEnd g (statements_of known change) P old new fault
