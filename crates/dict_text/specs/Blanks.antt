-- A text without the blanks at its ends.
use Rattle.std.specs.Prelude.{ℕ, List, [], ◌∷◌, length, ◌==◌, ◌&&◌, if◌then◌else◌}
use Rattle.dict_text.specs.Characters.{is_blank}

-- without the blanks at the front
abbrev pub without_leading_blanks : List ℕ → List ℕ
without_leading_blanks [] = []
without_leading_blanks (c ∷ cs) = if is_blank c then without_leading_blanks cs else c ∷ cs

-- without the blanks at the end
abbrev pub without_trailing_blanks : List ℕ → List ℕ
without_trailing_blanks [] = []
without_trailing_blanks (c ∷ cs) =
    if is_blank c && length (without_trailing_blanks cs) == 0 then [] else c ∷ without_trailing_blanks cs

abbrev pub without_blanks_at_ends : List ℕ → List ℕ
without_blanks_at_ends cs = without_trailing_blanks (without_leading_blanks cs)
