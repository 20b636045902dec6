-- Why a line is no line of an edition.
use Rattle.std.specs.Prelude.{ℕ, List, [], Some}
use Rattle.dict_index.specs.Refusals.{line_tests}
use Rattle.dict_index.specs.Refused.{LineFailsFirst}
use Rattle.dict_index.specs.declared.fault.IndexFault.{IndexFault}
use Rattle.dict_index.specs.declared.fault.IndexFault.TheVariants as faults
use Rattle.dict_reading.specs.declared.line.EditionLineFault.{EditionLineFault}
use Rattle.dict_reading.specs.declared.line.EditionLineFault.TheVariants.{Refused, Memory}

-- behind these lines the test is the first that the line doesn't pass, or memory was refused
abbrev pub FailsBehind : EditionLineFault → List ℕ → List (List ℕ) → List ℕ → Type 0
FailsBehind (Refused refusal) text before line = LineFailsFirst line_tests refusal text before line
FailsBehind Memory text before line = Unit {0}

-- the same of a line that is the first
abbrev pub FailsAlone : EditionLineFault → List ℕ → List ℕ → Type 0
FailsAlone fault text line = FailsBehind fault text [] line

-- a line's fault, with the line's number
abbrev pub line_told_at : EditionLineFault → ℕ → IndexFault
line_told_at (Refused refusal) number = faults.Refused refusal (Some number)
line_told_at Memory number = faults.Memory
