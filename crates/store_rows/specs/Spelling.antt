-- The one spelling of a number in base 64.
use Rattle.std.specs.Prelude.{ℕ, zero, suc, ◌/◌, ◌%◌, ◌==◌, List, [], ◌∷◌, ◌++◌, slice_index, if◌then◌else◌}
use Rattle.dict_text.specs.Number.{alphabet}

-- the digits of a number, so many at most, the most significant first: those of the number without its last digit, where
-- that isn't 0, and that digit
abbrev pub digits_of : (most number : ℕ) → List ℕ
digits_of zero number = []
digits_of (suc most) number =
    if number / 64 == 0 then slice_index alphabet (number % 64) ∷ [] else digits_of most (number / 64) ++ slice_index alphabet (number % 64) ∷ []

-- the spelling of a number below 64 ^ 6
unfoldable pub spelling : ℕ → List ℕ
spelling number = digits_of 6 number
