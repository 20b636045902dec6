-- What a command leaves: the catalogue that is shown, and those of which a stop may leave one.
use Rattle.std.specs.Prelude.{◌≡◌, ◌⊎◌, Bool, List, ◌∷◌, [], Option, Some, MatchBool, Result, Ok, Err}
use Rattle.dict_catalogue.specs.Steps.{Catalogue, Outcome, accepted, refused}
use Rattle.dict_catalogue.specs.Views.{kept_shown}
use Rattle.dict_catalogue.specs.declared.reply.Kept.{Kept}
use Rattle.dict_desk.specs.declared.fault.Fault.{Fault}
use Rattle.dict_desk.specs.declared.fault.Fault.TheVariants.{Refused, Memory, Disk, Closed, NotACatalogue, Damaged, NewerSchema}

-- Over a catalogue a command has this outcome. What is answered is the outcome's reply, and the catalogue after it is
-- shown; at a failure the catalogue is still shown, or where the store failed the one after the outcome may be.
abbrev pub Applies : (Catalogue → Type 0) → Catalogue → Outcome → Result Kept Fault → Type 0
Applies Shows catalogue outcome (Ok kept) = (outcome.reply ≡ accepted (kept_shown kept)) × Shows outcome.catalogue
Applies Shows catalogue outcome (Err (Refused refusal)) = (outcome.reply ≡ refused refusal) × Shows outcome.catalogue
Applies Shows catalogue outcome (Err Memory) = Shows catalogue
Applies Shows catalogue outcome (Err Disk) = Shows catalogue ⊎ Shows outcome.catalogue
Applies Shows catalogue outcome (Err Closed) = Shows catalogue
Applies Shows catalogue outcome (Err NotACatalogue) = ⊥
Applies Shows catalogue outcome (Err Damaged) = ⊥
Applies Shows catalogue outcome (Err NewerSchema) = ⊥

-- What a stop may leave, as one of a list: a catalogue, or a state that stands for none. Whatever the list was before,
-- the same list will do after: nothing new may be left.
abbrev pub LeavesNoMore : (List (Option Catalogue) → Type 0) → (List (Option Catalogue) → Type 0) → Type 0
LeavesNoMore Before After = (ms : List (Option Catalogue)) → Before ms → After ms

-- Over a catalogue in which the id is kept or not, a command leaves this one after it. Once a new id is acknowledged,
-- a stop leaves that one alone; where the store failed, that one or what it could leave before; else nothing new.
abbrev pub Leaves : (List (Option Catalogue) → Type 0) → (List (Option Catalogue) → Type 0) → Bool → Catalogue → Result Kept Fault → Type 0
Leaves Before After is_kept after (Ok kept) = MatchBool is_kept (LeavesNoMore Before After) (After (Some after ∷ []))
Leaves Before After is_kept after (Err (Refused refusal)) = LeavesNoMore Before After
Leaves Before After is_kept after (Err Memory) = LeavesNoMore Before After
Leaves Before After is_kept after (Err Disk) = (ms : List (Option Catalogue)) → Before ms → After (Some after ∷ ms)
Leaves Before After is_kept after (Err Closed) = LeavesNoMore Before After
Leaves Before After is_kept after (Err NotACatalogue) = ⊥
Leaves Before After is_kept after (Err Damaged) = ⊥
Leaves Before After is_kept after (Err NewerSchema) = ⊥
