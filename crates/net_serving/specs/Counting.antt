-- How many rounds are made, by the count of the driver.
use Rattle.std.specs.Prelude.{◌≡◌, ◌≤◌, ◌<◌, ◌+◌, ◌^◌, ℕ, Result, Ok, Err}

-- of so many rounds all were made but those that are left; at a fault some were
abbrev pub AreMadeTo : {A E : Type 0} → ℕ → (A → ℕ) → Result A E → ℕ → ℕ → Type 0
AreMadeTo rounds left_of (Ok next) old new = old + rounds < 2 ^ 64 → new + left_of next ≡ old + rounds
AreMadeTo rounds left_of (Err fault) old new = old + rounds < 2 ^ 64 → new ≤ old + rounds

-- so many rounds were made, and at a fault at most so many
abbrev pub HasMadeRounds : {A E : Type 0} → ℕ → Result A E → ℕ → ℕ → Type 0
HasMadeRounds rounds (Ok value) old new = old + rounds < 2 ^ 64 → new ≡ old + rounds
HasMadeRounds rounds (Err fault) old new = old + rounds < 2 ^ 64 → new ≤ old + rounds

-- the same of a driver that had made none
abbrev pub MakesAll : {A E : Type 0} → ℕ → Result A E → ℕ → Type 0
MakesAll rounds (Ok value) made = made ≡ rounds
MakesAll rounds (Err fault) made = made ≤ rounds
