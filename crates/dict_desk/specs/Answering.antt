-- What a keeper that was told of files makes of the install that asks for them.
use Rattle.std.specs.Prelude.{ℕ, Option, Some, None, Result, Ok, Err}
use Rattle.dict_index.specs.declared.fault.EditionRefusal.{EditionRefusal}
use Rattle.dict_catalogue.specs.declared.reply.Kept.{Kept}
use Rattle.dict_desk.specs.declared.fault.Fault.{Fault}
use Rattle.dict_desk.specs.declared.answered.Answered.{Answered}
use Rattle.dict_desk.specs.declared.answered.Answered.TheVariants.{Done, Refused}

-- the command was done or not, with this outcome
abbrev pub IfDone : Result (Option Answered) Fault → (Result Kept Fault → Type 0) → Type 0
IfDone (Ok (Some (Done outcome))) P = P outcome
IfDone (Ok (Some (Refused refusal line))) P = Unit {0}
IfDone (Ok None) P = Unit {0}
IfDone (Err fault) P = Unit {0}

-- the files don't pass this test, at this line
abbrev pub IfRefused : Result (Option Answered) Fault → (EditionRefusal → Option ℕ → Type 0) → Type 0
IfRefused (Ok (Some (Done outcome))) P = Unit {0}
IfRefused (Ok (Some (Refused refusal line))) P = P refusal line
IfRefused (Ok None) P = Unit {0}
IfRefused (Err fault) P = Unit {0}

-- nothing was prepared of it, and what was prepared is let go of, with this result
abbrev pub IfLetGo : Result (Option Answered) Fault → (Result (Unit {0}) Fault → Type 0) → Type 0
IfLetGo (Ok (Some (Done outcome))) P = Unit {0}
IfLetGo (Ok (Some (Refused refusal line))) P = Unit {0}
IfLetGo (Ok None) P = P (Ok tt)
IfLetGo (Err fault) P = P (Err fault)
