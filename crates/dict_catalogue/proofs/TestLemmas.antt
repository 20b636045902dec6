-- The first test that fails, in a list of two parts.
use Rattle.std.proofs.Common.{◌≡◌, Bool, true, false, List, [], ◌∷◌, ◌++◌, refl}
use Rattle.std.specs.Prelude.{Option, Some, None, if◌then◌else◌}
use Rattle.dict_catalogue.specs.Tests.{Test, first_failing}
use Rattle.dict_catalogue.specs.declared.fault.CommandRefusal.{CommandRefusal}

-- what the two parts together refuse
abbrev pub or_else : Option CommandRefusal → Option CommandRefusal → Option CommandRefusal
or_else None later = later
or_else (Some refusal) later = Some refusal

either_way : (holds : Bool) (refusal : CommandRefusal) (rest later : Option CommandRefusal) →
    (if holds then or_else rest later else Some refusal) ≡ or_else (if holds then rest else Some refusal) later
either_way true refusal rest later = refl
either_way false refusal rest later = refl

pub first_failing_append : (xs ys : List Test) → first_failing (xs ++ ys) ≡ or_else (first_failing xs) (first_failing ys)
first_failing_append [] ys = refl
first_failing_append (x ∷ xs) ys =
    rw (first_failing_append xs ys) (either_way x.holds x.refusal (first_failing xs) (first_failing ys))
