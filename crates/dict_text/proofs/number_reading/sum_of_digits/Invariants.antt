use Rattle.std.proofs.Common.{◌≡◌, List, ℕ, take}
use Rattle.std.specs.List.{AllZip}
use Rattle.dict_text.specs.Number.{IsDigit, number_of}
use Rattle.dict_text.proofs.number_reading.sum_of_digits.Given as goal

abbrev pub invariant-loop-byte : goal.invariant-loop-byte
invariant-loop-byte l = (values : List ℕ) × AllZip IsDigit (take l.byte-index l.text) values × (l.number ≡ number_of values)
