-- The words of a text.
use Rattle.std.specs.Prelude.{◌≡◌, ◌≢◌, ℕ, false, List, [], ◌∷◌, ◌++◌, length, filter, not, ◌==◌, All, IsTrue, ◌<◌, slice_index}
use Rattle.std.specs.List.{slice_split}
use Rattle.dict_text.specs.Characters.{is_blank}

-- the longest runs without blanks, in order: what is left of the pieces between blanks once empty ones are left out
abbrev pub words_between_blanks : List ℕ → List (List ℕ)
words_between_blanks cs = filter (λ piece. not (length piece == 0)) (slice_split is_blank cs)

-- it is empty, or a blank comes first
abbrev pub EndsOrGoesOnBlank : List ℕ → Type 0
EndsOrGoesOnBlank cs = 0 < length cs → IsTrue (is_blank (slice_index cs 0))

-- the same as a relation: the list is blanks, then the first word, which is some elements, none of them a blank, up to
-- a blank or the end, and then what has the other words; where there are none, it is blanks alone
abbrev pub AreLongestRuns : List ℕ → List (List ℕ) → Type 0
AreLongestRuns cs [] = All (λ c. IsTrue (is_blank c)) cs
AreLongestRuns cs (word ∷ words) =
    (gap : List ℕ) × (rest : List ℕ) × (cs ≡ gap ++ word ++ rest) × All (λ c. IsTrue (is_blank c)) gap
    × (word ≢ []) × All (λ c. is_blank c ≡ false) word × EndsOrGoesOnBlank rest × AreLongestRuns rest words
