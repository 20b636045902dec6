-- How much is left to do, in counts: each of them is of a kind, and what is done first stands at the head.
use Rattle.std.specs.Prelude.{◌≡◌, ◌⊎◌, ◌<◌, ◌-◌, ◌^◌, ℕ, Bool, true, false, List, [], ◌∷◌, length}
use Rattle.store_commands.specs.Drafts.{DraftState}
use Rattle.store_commands.specs.Installs.{is_refused, lines_read}
use Rattle.store_commands.specs.declared.filing.Filing.{Filing}
use Rattle.store_commands.specs.declared.install.Progress.{Progress}

-- Of two lists of the same length the one is less: at the first place where they differ. So there is no list below which one after the other lies for
-- ever.
abbrev pub IsLess : List ℕ → List ℕ → Type 0
IsLess [] others = ⊥
IsLess (n ∷ ns) [] = ⊥
IsLess (n ∷ ns) (other ∷ others) = ((n < other) × (length ns ≡ length others)) ⊎ ((n ≡ other) × IsLess ns others)

-- what the step of a draft that is refused has to do, and that of another one
abbrev pub kind_left : Bool → ℕ
kind_left true = 1
kind_left false = 2

-- Of a draft: whether a test may fail yet; then the lines that aren't read, and the entries that aren't written. Both are counted down from what a
-- number of 64 bits can count.
abbrev pub draft_left : DraftState → List ℕ
draft_left d = kind_left d.is_refused ∷ (2 ^ 64 - d.lines) ∷ (2 ^ 64 - d.written) ∷ []

-- the same of what is known of the files, of which none is written meanwhile
abbrev pub progress_left : Progress → List ℕ
progress_left p = kind_left (is_refused p) ∷ (2 ^ 64 - lines_read p) ∷ []

-- whether what stood under the number is still to be taken out
abbrev pub taking_left : Bool → ℕ
taking_left true = 0
taking_left false = 1

-- of a filing: that, and then the parts that aren't filed, counted down in the same way
abbrev pub filing_left : Filing → List ℕ
filing_left f = taking_left f.is_begun ∷ (2 ^ 64 - f.parts_filed) ∷ []
