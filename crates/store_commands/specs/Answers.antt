-- What a command is answered, and what it leaves of a store that holds a catalogue.
use Rattle.std.specs.Prelude.{◌≡◌, ◌⊎◌, ℕ, Bool, true, false, IsTrue, List, Some, None, Result, Ok, Err}
use Rattle.sqlite.specs.Tree.{Trees}
use Rattle.sqlite.specs.Effect.{Database}
use Rattle.sqlite.specs.State.{State, HasCleanDisk, IsUnchanged, Survives}
use Rattle.sqlite.specs.Held.{Held, state}
use Rattle.sqlite_trees.specs.declared.store.Store.{Ghosts}
use Rattle.dict_index.specs.Edition.{Edition}
use Rattle.dict_catalogue.specs.Commands.{Command}
use Rattle.dict_text.specs.Names.{is_request_id}
use Rattle.dict_catalogue.specs.Items.{edition_numbers}
use Rattle.dict_catalogue.specs.Tests.{Holdings, refusal_of}
use Rattle.dict_catalogue.specs.Steps.{Catalogue, Outcome, accepted, refused, holdings, summary_of, kept_under, step}
use Rattle.dict_catalogue.specs.Views.{kept_shown, summary_shown}
use Rattle.dict_catalogue.specs.declared.fault.CommandRefusal.TheVariants.{BadRequestId}
use Rattle.dict_desk.specs.declared.fault.Fault.{Fault}
use Rattle.dict_desk.specs.declared.fault.Fault.TheVariants.{Refused, Memory, Disk, Closed, NotACatalogue, Damaged, NewerSchema}
use Rattle.dict_desk.specs.Faults.{is_disk}
use Rattle.store_holdings.specs.Faults.{FailsToReadCatalogue}
use Rattle.store_holdings.specs.Holds.{Holds, Rests, IsLeftAs}
use Rattle.store_holdings.specs.Writing.{FailsToEnd}
use Rattle.store_rows.specs.After.{TableChange, IsTableChange}
use Rattle.store_commands.specs.Statements.{statements_of}
use Rattle.store_commands.specs.declared.applied.Applied.{Applied}
use Rattle.store_commands.specs.declared.applied.Applied.TheVariants.{Repeated, Done}
use Rattle.store_rows.specs.Versions.{known}

-- while the store is open, it holds a catalogue with this summary
abbrev pub HoldsBy : Holdings (List ℕ) → State → Type 0
HoldsBy summary s = HasCleanDisk s → IsTrue s.is_open → (M : Catalogue) × Rests known s M × (summary_of M ≡ summary)

-- Over a catalogue a command under an id has this outcome. A kept id is answered its reply, and the store holds the
-- catalogue still. A command that acts is answered its reply, with the summary of the catalogue after it, which the store
-- holds, and which alone a stop may leave. A refusal is the outcome's, and the catalogue is held still; so it is where a
-- growth was refused or the store failed, while the store is open.
abbrev pub Answers : State → Catalogue → List ℕ → Outcome → Result Applied Fault → Type 0
Answers new M id outcome (Ok (Repeated kept)) = (kept_under M.kept id ≡ Some (kept_shown kept)) × (outcome ≡ record { reply = accepted (kept_shown kept); catalogue = M }) × Rests known new M
Answers new M id outcome (Ok (Done kept summary)) =
    (kept_under M.kept id ≡ None) × (outcome.reply ≡ accepted (kept_shown kept)) × (summary_of outcome.catalogue ≡ summary_shown summary) × Rests known new outcome.catalogue
    × ((trees : Trees) → new.may_leave trees → IsLeftAs known outcome.catalogue trees)
Answers new M id outcome (Err (Refused refusal)) = (outcome ≡ record { reply = refused refusal; catalogue = M }) × Rests known new M
Answers new M id outcome (Err Memory) = IsTrue new.is_open → Rests known new M
Answers new M id outcome (Err Disk) = IsTrue new.is_open → Rests known new M
Answers new M id outcome (Err Closed) = ⊥
Answers new M id outcome (Err NotACatalogue) = ⊥
Answers new M id outcome (Err Damaged) = ⊥
Answers new M id outcome (Err NewerSchema) = ⊥

-- a commit was begun: the command acted, or the store failed
abbrev pub has_written : Result Applied Fault → Bool
has_written (Ok (Repeated kept)) = false
has_written (Ok (Done kept summary)) = true
has_written (Err fault) = is_disk fault

-- the faults of a command over an open store
abbrev pub IsOfApply : Fault → Type 0
IsOfApply (Refused refusal) = Unit {0}
IsOfApply Memory = Unit {0}
IsOfApply Disk = Unit {0}
IsOfApply Closed = ⊥
IsOfApply NotACatalogue = ⊥
IsOfApply Damaged = ⊥
IsOfApply NewerSchema = ⊥

-- the summary after an answer
abbrev pub summary_after : Holdings (List ℕ) → Result Applied Fault → Holdings (List ℕ)
summary_after before (Ok (Repeated kept)) = before
summary_after before (Ok (Done kept summary)) = summary_shown summary
summary_after before (Err fault) = before

-- the numbers of the editions after an answer
abbrev pub numbers_after : Holdings (List ℕ) → Result Applied Fault → List ℕ
numbers_after before result = edition_numbers (summary_after before result).items

-- the answers of a store that is shut: the command fails, or is refused for its id, which no store is asked for
abbrev pub IsOfShut : List ℕ → Result Applied Fault → Type 0
IsOfShut id (Ok applied) = ⊥
IsOfShut id (Err (Refused refusal)) = (is_request_id id ≡ false) × (refusal ≡ BadRequestId)
IsOfShut id (Err Memory) = Unit {0}
IsOfShut id (Err Disk) = Unit {0}
IsOfShut id (Err Closed) = ⊥
IsOfShut id (Err NotACatalogue) = ⊥
IsOfShut id (Err Damaged) = ⊥
IsOfShut id (Err NewerSchema) = ⊥

-- the database holds the catalogue after the command, over each catalogue with the summary that the store held
abbrev pub HoldsAfter : Holdings (List ℕ) → State → List ℕ → Command Edition → Database → Type 0
HoldsAfter summary old id command db = (M : Catalogue) → Rests known old M → summary_of M ≡ summary → Holds known db (step M id command).catalogue

-- Over each catalogue with the summary that the store held, the command passes its tests, and this is what is written of it.
abbrev pub IsPlanned : Holdings (List ℕ) → State → List ℕ → Command Edition → TableChange → Type 0
IsPlanned summary old id command change = (M : Catalogue) → Rests known old M → summary_of M ≡ summary → (refusal_of (holdings M) command ≡ None) × IsTableChange M id command change

-- A command that was planned is not made: one of its statements failed behind those before it, or its commit did.
abbrev pub FailsToAct : {S : Type 0} → Ghosts S → Holdings (List ℕ) → List ℕ → Command Edition → (Database → Type 0) → Held S → Held S → Fault → Type 0
FailsToAct {S} g summary id command P old new fault =
    (change : TableChange) × IsPlanned summary (state g old) id command change
    × FailsToEnd g (statements_of known change) P old new fault

-- A command fails that is not refused: what is kept under its id was not read; or nothing was kept, and the change was not
-- made.
abbrev pub FailsToApply : {S : Type 0} → Ghosts S → Holdings (List ℕ) → List ℕ → Command Edition → Held S → Held S → Fault → Type 0
FailsToApply {S} g summary id command old new fault =
    FailsToReadCatalogue (state g old) (state g new) fault
    ⊎ ((mid : Held S) × IsUnchanged (state g old) (state g mid) × Survives (state g old) (state g mid) (λ _. ⊥) × FailsToAct g summary id command (HoldsAfter summary (state g old) id command) mid new fault)
