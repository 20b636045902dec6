-- The lines of a text of a dictd file: it is cut at LF, an empty piece after a last LF is no line, and the
-- empty text has no lines.
use Rattle.std.specs.Prelude.{ℕ, List, [], ◌∷◌, ◌==◌, if◌then◌else◌}

-- an octet at the front of the first line, or as a line of its own where there is none
abbrev pub onto_first_line : ℕ → List (List ℕ) → List (List ℕ)
onto_first_line b [] = (b ∷ []) ∷ []
onto_first_line b (line ∷ lines) = (b ∷ line) ∷ lines

abbrev pub text_lines : List ℕ → List (List ℕ)
text_lines [] = []
text_lines (b ∷ bs) = if b == 10 then [] ∷ text_lines bs else onto_first_line b (text_lines bs)
