-- What is told of the files, or of the line, at which reading stops.
use Rattle.std.specs.Prelude.{◌≡◌, ℕ, ◌+◌, ◌<◌, List, Option, Some, None, length, take}
use Rattle.std.specs.List.{AllByRecursion}
use Rattle.dict_text.specs.Lines.{text_lines}
use Rattle.dict_index.specs.Tests.{PassesWhole, PassesLine, IsTitle, line_at}
use Rattle.dict_index.specs.Refusals.{whole_tests, said_tests, line_tests}
use Rattle.dict_index.specs.Order.{IsFirstFailing}
use Rattle.dict_index.specs.Meaning.{IsFault}
use Rattle.dict_index.specs.declared.fault.EditionRefusal.{EditionRefusal}
use Rattle.dict_index.specs.declared.fault.EditionRefusal.TheVariants.{NoTitle, BadTitle}
use Rattle.dict_index.specs.declared.line.EntryLineFault.{EntryLineFault}
use Rattle.dict_index.specs.declared.line.EntryLineFault.TheVariants as line_faults
use Rattle.dict_index.specs.declared.fault.IndexFault.{IndexFault}
use Rattle.dict_index.specs.declared.fault.IndexFault.TheVariants as faults

-- the files pass each of the tests of the whole that are made before the lines'
abbrev pub PassWholes : List ℕ → List ℕ → Type 0
PassWholes index text = AllByRecursion (λ f. PassesWhole f index text) whole_tests

-- this is the first of those that the files don't pass
abbrev pub FailsWhole : EditionRefusal → List ℕ → List ℕ → Type 0
FailsWhole refusal index text = IsFirstFailing (λ f. PassesWhole f index text) whole_tests refusal

-- the line passes these tests, over this text and behind these lines; this is the first of them that it doesn't pass
abbrev pub PassesEach : List EditionRefusal → List ℕ → List (List ℕ) → List ℕ → Type 0
PassesEach tests text before line = AllByRecursion (λ f. PassesLine f text before line) tests

abbrev pub LineFailsFirst : List EditionRefusal → EditionRefusal → List ℕ → List (List ℕ) → List ℕ → Type 0
LineFailsFirst tests refusal text before line = IsFirstFailing (λ f. PassesLine f text before line) tests refusal

-- what a line says is not read for memory, or because of the first test that it doesn't pass, whatever lines stand
-- before it
abbrev pub IsLineFault : EntryLineFault → List ℕ → List ℕ → Type 0
IsLineFault (line_faults.Refused refusal) text line = (before : List (List ℕ)) → LineFailsFirst said_tests refusal text before line
IsLineFault line_faults.Memory text line = Unit {0}

-- why a line is not gathered, behind these lines
abbrev pub IsFaultBehind : EntryLineFault → List ℕ → List (List ℕ) → List ℕ → Type 0
IsFaultBehind (line_faults.Refused refusal) text lines line = LineFailsFirst line_tests refusal text lines line
IsFaultBehind line_faults.Memory text lines line = Unit {0}

-- the first n lines pass each test of a line
abbrev pub PassLines : List ℕ → List ℕ → ℕ → Type 0
PassLines index text n = (k : ℕ) → k < n → PassesEach line_tests text (take k (text_lines index)) (line_at index k)

-- the test is the first that line k doesn't pass, and the lines before it pass
pub record StopsAt (index text : List ℕ) (refusal : EditionRefusal) (k : ℕ) : Type 0 where
  pub there : k < length (text_lines index)
  pub before : PassLines index text k
  pub first : LineFailsFirst line_tests refusal text (take k (text_lines index)) (line_at index k)

-- a line's fault, with the line's number
abbrev pub told_at : EntryLineFault → ℕ → IndexFault
told_at (line_faults.Refused refusal) number = faults.Refused refusal (Some number)
told_at line_faults.Memory number = faults.Memory

-- why the lines of an index are not gathered
abbrev pub IsLinesFault : IndexFault → List ℕ → List ℕ → Type 0
IsLinesFault (faults.Refused refusal line) index text = (k : ℕ) × (line ≡ Some (k + 1)) × StopsAt index text refusal k
IsLinesFault faults.Memory index text = Unit {0}

-- why reserved texts tell no title
abbrev pub IsTitleFault : IndexFault → Option (List ℕ) → Type 0
IsTitleFault (faults.Refused NoTitle line) title = (line ≡ None) × (title ≡ None)
IsTitleFault (faults.Refused BadTitle line) title = (line ≡ None) × (found : List ℕ) × (title ≡ Some found) × ¬ IsTitle found
IsTitleFault (faults.Refused _ line) title = ⊥
IsTitleFault faults.Memory title = Unit {0}

-- why no edition is read
abbrev pub IsIndexFault : IndexFault → List ℕ → List ℕ → Type 0
IsIndexFault (faults.Refused refusal line) index text = IsFault index text refusal line
IsIndexFault faults.Memory index text = Unit {0}
