-- Which test is made before which.
use Rattle.std.specs.Prelude.{◌≡◌, ℕ, ◌+◌, ◌<◌, ◌≤◌, ◌==◌, ◌⊎◌, List, [], ◌∷◌, length}
use Rattle.std.specs.List.{position_or_len}
use Rattle.dict_index.specs.Refusals.{refusal_number, whole_tests, line_tests, tests_in_order}
use Rattle.dict_index.specs.declared.fault.EditionRefusal.{EditionRefusal}

-- the place of a test in this order, from 0
unfoldable pub rank : EditionRefusal → ℕ
rank refusal = position_or_len (λ test. refusal_number test == refusal_number refusal) tests_in_order

-- the test is one of a line
abbrev pub IsOfLine : EditionRefusal → Type 0
IsOfLine refusal = (length whole_tests ≤ rank refusal) × (rank refusal < length whole_tests + length line_tests)

-- test f at line j is made before test g at line k
abbrev pub Precedes : EditionRefusal → ℕ → EditionRefusal → ℕ → Type 0
Precedes f j g k =
    ((rank f < rank g) × ¬ (IsOfLine f × IsOfLine g))
    ⊎ (IsOfLine f × IsOfLine g × ((j < k) ⊎ ((j ≡ k) × (rank f < rank g))))

-- of these tests, made in order, this one is the first that fails
abbrev pub IsFirstFailing : (EditionRefusal → Type 0) → List EditionRefusal → EditionRefusal → Type 0
IsFirstFailing Holds [] refusal = ⊥
IsFirstFailing Holds (test ∷ tests) refusal = ((refusal ≡ test) × ¬ Holds test) ⊎ (Holds test × IsFirstFailing Holds tests refusal)
