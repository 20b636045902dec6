-- Why a text spells no number: the first of these that applies.
use Rattle.std.specs.Prelude.{◌≡◌, ℕ, ◌<◌, ◌≤◌, List, length, slice_index}
use Rattle.std.specs.List.{AllByRecursion}
use Rattle.dict_text.specs.Number.{IsDigit, alphabet}
use Rattle.dict_text.specs.declared.number_reading.NumberFault.{NumberFault}
use Rattle.dict_text.specs.declared.number_reading.NumberFault.TheVariants.{Empty, Long, Digit, Leading}

-- the byte is a digit of some value
abbrev pub IsSomeDigit : ℕ → Type 0
IsSomeDigit byte = (value : ℕ) × IsDigit byte value

-- the fault is the first that applies: the empty text, more than six bytes, a byte that is no digit, a needless digit
-- of 0 in front
abbrev pub IsNumberFault : List ℕ → NumberFault → Type 0
IsNumberFault s Empty = length s ≡ 0
IsNumberFault s Long = 6 < length s
IsNumberFault s Digit = (1 ≤ length s) × (length s ≤ 6) × (¬ AllByRecursion IsSomeDigit s)
IsNumberFault s Leading = (1 < length s) × (length s ≤ 6) × AllByRecursion IsSomeDigit s × (slice_index s 0 ≡ slice_index alphabet 0)
